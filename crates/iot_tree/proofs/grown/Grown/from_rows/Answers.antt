use Rattle.iot_tree.specs.Rows.{AreTreeRows}
use Rattle.iot_tree.proofs.RowLaws.{entries_rows}
use Rattle.iot_tree.proofs.grown.Grown.from_rows.Goals as goal

pub returns-in-None-clause-ok : goal.returns-in-None-clause-ok
returns-in-None-clause-ok c =
    let all : AreTreeRows c.args.rows = rw (c.in-None.is, c.as_slice.ensures) at c.first_bad_row.ensures in
    (entries_rows c.args.rows all.rising, all)
