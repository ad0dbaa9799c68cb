-- Which trees, kept files and runs have spellings.
use Rattle.std.specs.Prelude.{◌≡◌, ℕ, List, Some}
use Rattle.std.specs.List.{AllByRecursion}
use Rattle.std.specs.FinMap.{get}
use Rattle.iot_text.specs.Paths.{IsPath}
use Rattle.iot_tree.specs.Tree.{Path, Nodes}
use Rattle.iot_tree.specs.declared.nodes.Node.{Node}
use Rattle.iot_tree.specs.declared.nodes.Node.TheVariants.{File}
use Rattle.iot_views.specs.Rules.{IsContents, IsAct}
use Rattle.iot_exec.specs.Commands.{Kept}
use Rattle.iot_exec.specs.declared.ran.Ran.{Ran}

abbrev pub IsSpelledNode : Node → Type 0
IsSpelledNode (File bytes mode) = IsContents bytes
IsSpelledNode _ = Unit {0}

-- the path is one, and the contents of the node, if it has any, have a spelling
pub record IsSpelledRow (path : Path) (node : Node) : Type 0 where
  pub is_path : IsPath path
  pub is_node : IsSpelledNode node

-- each path and node of the tree has a spelling
pub record IsSpelledTree (t : Nodes) : Type 0 where
  pub each : (path : Path) (node : Node) → get t path ≡ Some node → IsSpelledRow path node

-- the contents of each kept file have a spelling
pub record AreSpelledFiles (kept : Kept) : Type 0 where
  pub each : (path : Path) (bytes : List ℕ) → get kept path ≡ Some bytes → IsContents bytes

-- each act of the run has a spelling, and so has the tree after them
pub record SpelledRun (ran : Ran) : Type 0 where
  pub acts : AllByRecursion IsAct ran.acts
  pub tree : IsSpelledTree ran.tree
