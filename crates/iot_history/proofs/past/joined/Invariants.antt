use Rattle.std.proofs.Common.{◌≡◌, ◌++◌}
use Rattle.std.specs.List.{concat}
use Rattle.iot_history.proofs.past.joined.Given as goal

abbrev pub invariant-bodies : goal.invariant-bodies
invariant-bodies l = l.bytes.items ++ concat l.body-iterator ≡ concat l.bodies
