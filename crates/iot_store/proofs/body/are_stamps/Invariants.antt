use Rattle.iot_store.proofs.RowsLaws.{FitOnWay}
use Rattle.iot_store.proofs.body.are_stamps.Given as goal

abbrev pub invariant-rows : goal.invariant-rows
invariant-rows l = FitOnWay l.rows l.stamps l.commits l.place
