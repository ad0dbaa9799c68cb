use Rattle.iot_stamp.proofs.ActingLaws.{ActsOnWay}
use Rattle.iot_stamp.proofs.stamped.Stamped.apply_acts.Given as goal

abbrev pub invariant-acts : goal.invariant-acts
invariant-acts l = ActsOnWay l.acts l.stamp l.act-index l.fn.self l.self
