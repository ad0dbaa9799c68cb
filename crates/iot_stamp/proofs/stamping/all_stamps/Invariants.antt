use Rattle.iot_stamp.proofs.LiningLaws.{Made}
use Rattle.iot_stamp.proofs.stamping.all_stamps.Given as goal

abbrev pub invariant-rows : goal.invariant-rows
invariant-rows l = Made (λ k. l.stamp) l.rows l.stamps.items l.row-index
