use Rattle.iot_stamp.proofs.CarriedLaws.{Placed}
use Rattle.iot_stamp.proofs.stamping.put.Given as goal

abbrev pub invariant-rows : goal.invariant-rows
invariant-rows l = Placed l.at l.stamp l.rows l.fn.stamps.items l.stamps.items l.place
