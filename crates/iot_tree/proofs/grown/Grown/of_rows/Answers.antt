use Rattle.iot_tree.proofs.RowLaws.{entries_rows}
use Rattle.iot_tree.proofs.grown.Grown.of_rows.Goals as goal

pub returns : goal.returns
returns c = entries_rows c.args.rows c.requires.rising
