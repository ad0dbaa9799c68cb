use Rattle.std.proofs.lemmas.Result.{IfOk-weaker}
use Rattle.iot_certify.proofs.WalkLaws.{holds_exactly, guarded_differs}
use Rattle.iot_certify.proofs.acts.certify_acts.Goals as goal

pub returns-clause-holds : goal.returns-clause-holds
returns-clause-holds c =
    IfOk-weaker c.walk.result _ _ (λ verdict is. holds_exactly c.args.t.now c.args.acts.now verdict (rw c.as_slice.ensures at is))
    c.walk.ensures

pub returns-clause-guarded : goal.returns-clause-guarded
returns-clause-guarded c = λ guarded.
    IfOk-weaker c.walk.result _ _
    (λ verdict is. guarded_differs c.args.t.now c.args.acts.now verdict c.rows-tree.ensures.tree guarded (rw c.as_slice.ensures at is))
    c.walk.ensures
