-- How version 1 spells what version 2 spells otherwise: trees, and servers' bodies, which have one.
use Rattle.std.specs.Prelude.{ℕ, List, [], ◌∷◌, ◌++◌}
use Rattle.std.specs.FinMap.{entries}
use Rattle.iot_tree.specs.Tree.{Nodes, Row}
use Rattle.iot_tree.specs.declared.nodes.Node.{Node}
use Rattle.iot_tree.specs.declared.nodes.Node.TheVariants.{Dir, File, FarDir, FarFile}
use Rattle.iot_codec.specs.Spelling.{pair_spelling, path_spelling, contents_spelling, list_spelling, label_spelling, number_spelling}
use Rattle.iot_bodies.specs.declared.server.ServerBody.{ServerBody}

-- a node: its tag, and then the contents of a file if they are known, but no mode
unfoldable pub old_node_spelling : Node → List ℕ
old_node_spelling Dir = 1 ∷ []
old_node_spelling (File contents mode) = 2 ∷ contents_spelling contents
old_node_spelling FarDir = 3 ∷ []
old_node_spelling (FarFile mode) = 4 ∷ []

abbrev pub old_row_spelling : Row → List ℕ
old_row_spelling row = pair_spelling path_spelling old_node_spelling row

abbrev pub old_rows_spelling : List Row → List ℕ
old_rows_spelling rows = list_spelling old_row_spelling rows

abbrev pub old_tree_spelling : Nodes → List ℕ
old_tree_spelling tree = old_rows_spelling (entries tree)

-- what comes after the tree of a body, in either version
abbrev pub server_rest : ServerBody → List ℕ
server_rest body = list_spelling label_spelling body.labels ++ list_spelling number_spelling body.stamps

abbrev pub old_server_spelling : ServerBody → List ℕ
old_server_spelling body = old_tree_spelling body.tree ++ server_rest body
