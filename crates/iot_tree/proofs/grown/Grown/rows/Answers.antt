use Rattle.std.proofs.Common.{sym, ap, ◌∙◌}
use Rattle.std.specs.FinMap.{entries}
use Rattle.iot_tree.proofs.RowLaws.{entries_rows}
use Rattle.iot_tree.proofs.grown.Grown.rows.Goals as goal

pub returns-clause-rows : goal.returns-clause-rows
returns-clause-rows c = sym (entries_rows c.self.inside.rows c.self.invariant.rising) ∙ ap entries c.self.view_is
