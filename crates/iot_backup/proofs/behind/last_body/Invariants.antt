use Rattle.std.proofs.Common.{◌≡◌}
use Rattle.iot_backup.specs.Start.{last_or, last_of}
use Rattle.iot_backup.proofs.behind.last_body.Given as goal

abbrev pub invariant-bodies : goal.invariant-bodies
invariant-bodies l = last_or l.last l.body-iterator ≡ last_of l.fn.bodies
