use Rattle.iot_held.proofs.FittingLaws.{IsPassing}
use Rattle.iot_held.proofs.passing.pass.Given as goal

abbrev pub invariant-acts : goal.invariant-acts
invariant-acts l = IsPassing l.initial.tree l.tree l.acts l.act-index
