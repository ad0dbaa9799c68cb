-- Trees whose rows have spellings.
use Rattle.std.proofs.Common.{sym, ◌∙◌}
use Rattle.std.specs.FinMap.{entries, get-entries}
use Rattle.iot_limits.specs.Spelled.{IsSpelledNode, IsSpelledRow, IsSpelledTree}
use Rattle.iot_tree.specs.Tree.{Nodes, Path}
use Rattle.iot_tree.specs.declared.nodes.Node.{Node}
use Rattle.iot_tree.specs.declared.nodes.Node.TheVariants.{Dir, File, FarDir, FarFile}
use Rattle.iot_tree.proofs.EachLaws.{found_row}
use Rattle.iot_views.specs.Rules.{IsNode, IsRow, IsTreeOfRows}

abbrev IsRowAt : Path → Node → Type 0
IsRowAt path node = IsRow (path, node)

node_spelled : (node : Node) → IsNode node → IsSpelledNode node
node_spelled Dir is = tt
node_spelled (File bytes mode) is = is
node_spelled FarDir is = tt
node_spelled (FarFile mode) is = tt

row_spelled : (path : Path) (node : Node) → IsRowAt path node → IsSpelledRow path node
row_spelled path node row = record { is_path = row.0; is_node = node_spelled node row.1 }

pub tree_spelled : (t : Nodes) → IsTreeOfRows t → IsSpelledTree t
tree_spelled t rows = record {
  each = λ path node has.
      row_spelled path node (found_row IsRowAt (entries t) rows.each path node (sym (get-entries t path) ∙ has));
}
