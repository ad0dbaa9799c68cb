-- When an update fits a tree, and the tree after it.
use Rattle.std.specs.Prelude.{◌≡◌, ◌≢◌, [], ◌++◌, map, drop, length, bytes_eq, if◌then◌else◌, IsSome, Option, Some, None, option_map}
use Rattle.std.specs.List.{starts_with}
use Rattle.std.specs.FinMap.{get, insert, remove, entries, from_entries}
use Rattle.iot_text.specs.Paths.{IsBelow}
use Rattle.iot_tree.specs.Questions.{node_kind}
use Rattle.iot_tree.specs.Tree.{Nodes, parent_node, Path, Row}
use Rattle.iot_tree.specs.declared.kinds.Kind.TheVariants as kinds
use Rattle.iot_tree.specs.declared.nodes.Mode.{Mode}
use Rattle.iot_tree.specs.declared.nodes.Mode.TheVariants.{Off}
use Rattle.iot_tree.specs.declared.nodes.Node.{Node}
use Rattle.iot_tree.specs.declared.nodes.Node.TheVariants.{Dir, File, FarDir, FarFile}
use Rattle.iot_tree.specs.declared.updates.Update.{Update}
use Rattle.iot_tree.specs.declared.updates.Update.TheVariants.{Put, MakeDir, Remove, Move, SetMode}

-- the mode of the file whose row this is; off without one
abbrev pub mode_in : Option Node → Mode
mode_in (Some (File bytes mode)) = mode
mode_in (Some (FarFile mode)) = mode
mode_in (Some Dir) = Off
mode_in (Some FarDir) = Off
mode_in None = Off

-- a file can be put at p: p is not the root, its parent is a known directory, and p is no directory
pub record FitsPut (t : Nodes) (p : Path) : Type 0 where
  pub parent : parent_node t p ≡ Some Dir
  pub no_dir : get t p ≢ Some Dir
  pub no_far_dir : get t p ≢ Some FarDir

-- a directory can be made at p: nothing is there, and its parent is a known directory
pub record FitsMakeDir (t : Nodes) (p : Path) : Type 0 where
  pub absent : get t p ≡ None
  pub parent : parent_node t p ≡ Some Dir

-- no row lies below p
abbrev pub IsLeaf : Nodes → Path → Type 0
IsLeaf t p = (path : Path) → IsBelow path p → get t path ≡ None

-- p's row can go: it is there, is not the root's, and no row lies below it
pub record FitsRemove (t : Nodes) (p : Path) : Type 0 where
  pub mapped : IsSome (get t p)
  pub below_root : p ≢ []
  pub leaf : IsLeaf t p

-- p can be moved to q: it is there, neither is the root, neither is at or below the other, q's parent
-- is a known directory, and no row lies below q
pub record FitsMove (t : Nodes) (p q : Path) : Type 0 where
  pub mapped : IsSome (get t p)
  pub from_below_root : p ≢ []
  pub to_below_root : q ≢ []
  pub differ : p ≢ q
  pub from_apart : ¬ IsBelow p q
  pub to_apart : ¬ IsBelow q p
  pub parent : parent_node t q ≡ Some Dir
  pub leaf : IsLeaf t q

-- p's file can get a mode: a file is there, whether its contents are known or not
pub record FitsSetMode (t : Nodes) (p : Path) : Type 0 where
  pub file : option_map node_kind (get t p) ≡ Some kinds.IsFile

-- the update fits the tree
abbrev pub Fits : Nodes → Update → Type 0
Fits t (Put p bytes) = FitsPut t p
Fits t (MakeDir p) = FitsMakeDir t p
Fits t (Remove p) = FitsRemove t p
Fits t (Move p q) = FitsMove t p q
Fits t (SetMode p mode) = FitsSetMode t p

-- a path at or below p gets p replaced by q; any other path stays
abbrev pub renamed : Path → Path → Path → Path
renamed p q path = if starts_with bytes_eq path p then q ++ drop (length p) path else path

-- a row with its path renamed
abbrev pub renamed_row : Path → Path → Row → Row
renamed_row p q row = (renamed p q row.0, row.1)

-- q's row goes if there is one, then every row at or below p gets p replaced by q
abbrev pub moved : Nodes → Path → Path → Nodes
moved t p q = from_entries (map (renamed_row p q) (entries (remove t q)))

-- the object with this mode, if it is a file
abbrev pub with_mode : Mode → Node → Node
with_mode mode Dir = Dir
with_mode mode (File bytes old) = File bytes mode
with_mode mode FarDir = FarDir
with_mode mode (FarFile old) = FarFile mode

-- p's row, which this is, gets the mode
abbrev pub mode_set : Nodes → Path → Mode → Option Node → Nodes
mode_set t p mode (Some node) = insert t p (with_mode mode node)
mode_set t p mode None = t

-- the tree after the update, in which every other row is as it was; a file that is put keeps the mode of the one that was there
abbrev pub updated : Nodes → Update → Nodes
updated t (Put p bytes) = insert t p (File bytes (mode_in (get t p)))
updated t (MakeDir p) = insert t p Dir
updated t (Remove p) = remove t p
updated t (Move p q) = moved t p q
updated t (SetMode p mode) = mode_set t p mode (get t p)
