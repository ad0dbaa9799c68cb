use Rattle.std.proofs.Common.{sym, ◌∙◌}
use Rattle.iot_tree.proofs.RowLaws.{get_rows}
use Rattle.iot_tree.proofs.grown.Grown.node.Goals as goal

pub returns : goal.returns
returns c =
    let found = rw c.as_slice.ensures at c.node_at.ensures in
    rw (← c.self.view_is) (found ∙ sym (get_rows c.self.inside.rows c.self.invariant.rising c.args.names.now))
