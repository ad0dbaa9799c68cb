use Rattle.std.proofs.Common.{take}
use Rattle.iot_tree.specs.Rows.{AreTreeRows}
use Rattle.iot_tree.proofs.rows.first_bad_row.Given as goal

abbrev pub invariant-rows : goal.invariant-rows
invariant-rows l = AreTreeRows (take l.at l.rows)
