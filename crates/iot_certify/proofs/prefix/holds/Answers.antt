use Rattle.std.proofs.Common.{List, subst}
use Rattle.iot_tree.specs.declared.acts.Read.{Read}
use Rattle.iot_certify.specs.Verdicts.{IsFirstWrong}
use Rattle.iot_certify.proofs.LongestLaws.{one_wrong}
use Rattle.iot_certify.proofs.prefix.holds.Goals as goal

pub returns-in-Some : goal.returns-in-Some
returns-in-Some c = one_wrong c.args.t.now c.args.act.now c.in-Some.field-0
    (subst (λ (reads : List Read). IsFirstWrong c.args.t.now reads c.in-Some.field-0) c.as_slice.ensures c.in-Some.ensures.first)
