use Rattle.std.proofs.Common.{drop, sym, subst}
use Rattle.std.proofs.lemmas.Result.{IfOk-weaker}
use Rattle.iot_tree.specs.Tree.{Nodes}
use Rattle.iot_certify.specs.Verdicts.{IsVerdictOnActs}
use Rattle.iot_certify.proofs.WalkLaws.{Walked, walked_wrong}
use Rattle.iot_certify.proofs.acts.walk.Goals as goal

pub returns-in-Some : goal.returns-in-Some
returns-in-Some c =
    let walked : Walked c.args.t.now c.args.acts.now c.current-now.result.now (drop c.acts.turn c.args.acts.now) c.acts.place =
    subst (λ (u : Nodes). Walked c.args.t.now c.args.acts.now u (drop c.acts.turn c.args.acts.now) c.acts.place)
    (sym c.current-now.ensures) c.acts.invariant in
    IfOk-weaker c.differs.result _ (IsVerdictOnActs c.args.t.now c.args.acts.now)
    (λ verdict is.
    walked_wrong c.args.t.now c.current-now.result.now c.args.acts.now c.acts.turn c.acts.place c.index-acts-turn.result
    c.as_slice-reads.result.now c.acts-test.true c.index-acts-turn.is c.as_slice-reads.ensures walked c.in-Some.at
    c.in_ok-place_after.field-0 c.index-reads-at.result verdict c.in-Some.ensures.first c.index-reads-at.is c.in_ok-place_after.ensures is)
    c.differs.ensures
