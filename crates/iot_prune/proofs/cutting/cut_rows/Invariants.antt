use Rattle.iot_prune.proofs.CutLaws.{IsWalked}
use Rattle.iot_prune.proofs.cutting.cut_rows.Given as goal

abbrev pub invariant-rows : goal.invariant-rows
invariant-rows l = IsWalked l.paths l.rest l.rows l.out l.row-index
