-- Decoding a row of version 1.
use Rattle.std.specs.Prelude.{ℕ, List, [], ◌∷◌}
use Rattle.iot_tree.specs.Tree.{Row}
use Rattle.iot_tree.specs.declared.nodes.Mode.TheVariants.{Off}
use Rattle.iot_tree.specs.declared.nodes.Node.{Node}
use Rattle.iot_tree.specs.declared.nodes.Node.TheVariants.{Dir, File, FarDir, FarFile}
use Rattle.iot_views.specs.Decoders.{Decoder, ◌>>=◌, done, tagged}
use Rattle.iot_views.specs.Decoding.{contents_at, path_at}

-- what a tag of a node is followed by
abbrev pub old_node_table : List (ℕ × Decoder Node)
old_node_table =
    (1, done Dir)
    ∷ (2, (do contents ← contents_at; done (File contents Off)))
    ∷ (3, done FarDir)
    ∷ (4, done (FarFile Off))
    ∷ []

unfoldable pub old_node_at : Decoder Node
old_node_at = tagged old_node_table

unfoldable pub old_row_at : Decoder Row
old_row_at = do
  path ← path_at
  node ← old_node_at
  done (path, node)
