use Rattle.std.proofs.lemmas.Result.{IfOk-weaker}
use Rattle.iot_certify.proofs.AccessLaws.{reads_exactly, judges, same_place}
use Rattle.iot_certify.proofs.views.certify_view.Goals as goal

pub returns-clause-holds : goal.returns-clause-holds
returns-clause-holds c =
    IfOk-weaker c.judge.result _ _
    (λ verdict is. reads_exactly c.args.t.now c.args.access.now verdict c.judge.ensures.even is) c.judge.ensures.verdict

pub returns-clause-acts : goal.returns-clause-acts
returns-clause-acts c =
    IfOk-weaker c.judge.result _ _
    (λ verdict is acts access whole.
    judges c.args.t.now c.args.access.now acts verdict (access c.args.t.now c.rows-tree.ensures.tree whole) is) c.judge.ensures.verdict

pub returns-clause-same : goal.returns-clause-same
returns-clause-same c =
    IfOk-weaker c.judge.result _ _
    (λ verdict is acts other access whole guarded second.
    same_place c.args.t.now c.args.access.now acts verdict other c.judge.ensures.even c.rows-tree.ensures.tree guarded
    (access c.args.t.now c.rows-tree.ensures.tree whole) is second) c.judge.ensures.verdict
