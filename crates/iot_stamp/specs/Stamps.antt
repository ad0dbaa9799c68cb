-- Trees whose known rows carry stamps.
use Rattle.std.specs.Prelude.{◌≡◌, ℕ, Bool, false, cond, Option, Some, None}
use Rattle.std.specs.FinMap.{FinMap, get}
use Rattle.iot_text.specs.Paths.{path_cmp}
use Rattle.iot_tree.specs.Tree.{Path, Nodes, root_alone}
use Rattle.iot_tree.specs.declared.nodes.Node.{Node}
use Rattle.iot_tree.specs.declared.nodes.Node.TheVariants.{FarDir}
use Rattle.iot_stamp.specs.Mapped.{mapped}
use Rattle.iot_tree.specs.Snapshots.{is_known, prune}

-- a path with what is there, and its stamp
abbrev pub Entry : Type 0
Entry = Path × (Node × ℕ)

-- a node and a stamp at each path; a far row has stamp 0
abbrev pub Stamps : Type 0
Stamps = FinMap path_cmp (Node × ℕ)

-- the tree without its stamps
abbrev pub nodes_of : Stamps → Nodes
nodes_of t = mapped (λ p row. row.0) t

abbrev pub stamp_in : Option (Node × ℕ) → ℕ
stamp_in (Some row) = row.1
stamp_in None = 0

-- the stamp of the path's row, or 0
abbrev pub stamp_at : Stamps → Path → ℕ
stamp_at t p = stamp_in (get t p)

-- a node with a stamp; what is far has stamp 0
abbrev pub stamped_node : Node → ℕ → Node × ℕ
stamped_node node stamp = (node, cond (is_known node) stamp 0)

-- the tree with these stamps on what it knows
abbrev pub with_stamps : (Path → ℕ) → Nodes → Stamps
with_stamps f t = mapped (λ p node. stamped_node node (f p)) t

-- the tree with stamp 0 at every row: no stamp of a server is known
abbrev pub unstamped : Nodes → Stamps
unstamped t = with_stamps (λ p. 0) t

-- what a client holds that knows nothing: a root whose names are not known
abbrev pub nothing_held : Stamps
nothing_held = unstamped (root_alone FarDir)

-- far rows have stamp 0
abbrev pub FarZero : Stamps → Type 0
FarZero t = (p : Path) (node : Node) (stamp : ℕ) → get t p ≡ Some (node, stamp) → is_known node ≡ false → stamp ≡ 0

-- the stamped tree cut down to the paths of k: known rows keep their stamps
abbrev pub pruned : Stamps → (Path → Bool) → Stamps
pruned t k = with_stamps (stamp_at t) (prune (nodes_of t) k)
