-- What a tree is.
use Rattle.std.specs.Prelude.{◌≡◌, ◌≢◌, ◌⊎◌, ℕ, List, [], Option, Some, IsSome, option_and_then}
use Rattle.std.specs.FinMap.{FinMap, get, insert, empty}
use Rattle.iot_text.specs.Paths.{path_cmp, parent_of}
use Rattle.iot_tree.specs.declared.nodes.Node.{Node}
use Rattle.iot_tree.specs.declared.nodes.Mode.{Mode}
use Rattle.iot_tree.specs.declared.nodes.Node.TheVariants.{Dir, FarDir, FarFile}

-- the names of a path, from the root on
abbrev pub Path : Type 0
Path = List (List ℕ)

-- a path with what is there
abbrev pub Row : Type 0
Row = Path × Node

-- nodes by their paths, which are in order
abbrev pub Nodes : Type 0
Nodes = FinMap path_cmp Node

-- the tree that has only a root
abbrev pub root_alone : Node → Nodes
root_alone node = insert empty [] node

-- the node of the path's parent; the root has no parent
abbrev pub parent_node : Nodes → Path → Option Node
parent_node t p = option_and_then (get t) (parent_of p)

-- the root is a directory, and the parent of every other path is a directory whose names are known
pub record IsTree (t : Nodes) : Type 0 where
  pub root : (get t [] ≡ Some Dir) ⊎ (get t [] ≡ Some FarDir)
  pub parents : (p : Path) → p ≢ [] → IsSome (get t p) → parent_node t p ≡ Some Dir

-- no row is far: the names of every directory are known, and the contents of every file
pub record IsWhole (t : Nodes) : Type 0 where
  pub no_far_dir : (p : Path) → get t p ≢ Some FarDir
  pub no_far_file : (p : Path) (mode : Mode) → get t p ≢ Some (FarFile mode)
