use Rattle.std.proofs.Common.{drop, reverse}
use Rattle.iot_fitting.proofs.FittingLaws.{AreMade}
use Rattle.iot_fitting.proofs.fitting.try_in_turn.Given as goal

abbrev pub invariant-updates : goal.invariant-updates
invariant-updates l = AreMade l.updates (drop l.update-index l.updates) (reverse l.undo) l.tree l.fn.tree
