use Rattle.std.proofs.Common.{IfOk, get_or, sym, ap, subst}
use Rattle.std.proofs.lemmas.Result.{IfOk-weaker}
use Rattle.iot_certify.specs.Verdicts.{IsFirstWrong, IsVerdictOnAccess}
use Rattle.iot_certify.specs.declared.verdict.Verdict.TheVariants.{Holds}
use Rattle.iot_certify.proofs.ReadsLaws.{wrong_not, wrong_fails}
use Rattle.iot_certify.proofs.AccessLaws.{reads_exactly, judges, same_place}
use Rattle.iot_certify.proofs.access.certify.Goals as goal

wrong : (c : goal.After-differs) → IsFirstWrong c.args.t.now c.args.access.now.reads c.in-Some.at
wrong c = rw c.as_slice-reads.ensures at c.in-Some.ensures.first

verdict_is : (c : goal.After-differs) → IfOk c.differs.result (IsVerdictOnAccess c.args.t.now c.args.access.now)
verdict_is c =
    IfOk-weaker c.differs.result _ (IsVerdictOnAccess c.args.t.now c.args.access.now)
    (λ verdict is. subst (IsVerdictOnAccess c.args.t.now c.args.access.now) (sym is)
    (wrong_fails c.args.t.now c.args.access.now.places c.args.access.now.reads c.in-Some.at 0
    (get_or c.as_slice-places.result.now c.in-Some.at 0) c.index-reads-at.result c.requires.even (wrong c)
    (rw c.as_slice-reads.ensures at c.index-reads-at.is)
    (ap (λ places. get_or places c.in-Some.at 0) c.as_slice-places.ensures)))
    c.differs.ensures

pub returns-in-Some-clause-verdict : goal.returns-in-Some-clause-verdict
returns-in-Some-clause-verdict c = verdict_is c

pub returns-in-Some-clause-holds : goal.returns-in-Some-clause-holds
returns-in-Some-clause-holds c =
    IfOk-weaker c.differs.result _ _
    (λ verdict is. reads_exactly c.args.t.now c.args.access.now verdict c.requires.even is) (verdict_is c)

pub returns-in-Some-clause-memory : goal.returns-in-Some-clause-memory
returns-in-Some-clause-memory c = λ hold. absurd (wrong_not c.args.t.now c.args.access.now.reads c.in-Some.at (wrong c) hold)

pub returns-in-Some-clause-acts : goal.returns-in-Some-clause-acts
returns-in-Some-clause-acts c =
    IfOk-weaker c.differs.result _ _
    (λ verdict is acts access whole.
    judges c.args.t.now c.args.access.now acts verdict (access c.args.t.now c.rows-tree.ensures.tree whole) is) (verdict_is c)

pub returns-in-Some-clause-same : goal.returns-in-Some-clause-same
returns-in-Some-clause-same c =
    IfOk-weaker c.differs.result _ _
    (λ verdict is acts other access whole guarded second.
    same_place c.args.t.now c.args.access.now acts verdict other c.requires.even c.rows-tree.ensures.tree guarded
    (access c.args.t.now c.rows-tree.ensures.tree whole) is second) (verdict_is c)

pub returns-in-None-clause-same : goal.returns-in-None-clause-same
returns-in-None-clause-same c = λ acts other access whole guarded second.
    same_place c.args.t.now c.args.access.now acts Holds other c.requires.even c.rows-tree.ensures.tree guarded
    (access c.args.t.now c.rows-tree.ensures.tree whole) (rw c.as_slice-reads.ensures at c.in-None.ensures.first) second
