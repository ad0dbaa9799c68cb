use Rattle.iot_stamp.proofs.ActingLaws.{AllOnWay}
use Rattle.iot_stamp.proofs.stamped.Stamped.apply_all.Given as goal

abbrev pub invariant-updates : goal.invariant-updates
invariant-updates l = AllOnWay l.updates l.stamp l.update-index l.fn.self l.self
