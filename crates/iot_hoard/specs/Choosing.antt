-- What is taken so far, path by path, and as marks beside the rows of a tree.
use Rattle.std.specs.Prelude.{◌≡◌, ◌<◌, ◌-◌, ℕ, nat_le, not, ◌||◌, false, if◌then◌else◌, List, [], ◌∷◌, is_some, length, slice_index_or}
use Rattle.std.specs.FinMap.{get}
use Rattle.iot_tree.specs.Snapshots.{has}
use Rattle.iot_tree.specs.Tree.{Nodes, Path, Row}
use Rattle.iot_hoard.specs.Sizes.{weight}
use Rattle.iot_hoard.specs.declared.choosing.Choice.{Choice}

-- the paths that are taken, and how much of the limit is left
pub record Taken : Type 0 where
  pub paths : List Path
  pub left : ℕ

-- a path is taken if it fits; else nothing is left
abbrev pub take_new : Nodes → Path → Taken → Taken
take_new s path so_far =
    if nat_le (weight s path) so_far.left
    then record { paths = path ∷ so_far.paths; left = so_far.left - weight s path }
    else record { paths = so_far.paths; left = 0 }

-- a path is passed over if the tree does not have it, or if it is taken already
abbrev pub take_path : Nodes → Path → Taken → Taken
take_path s path so_far =
    if not (is_some (get s path)) || has so_far.paths path then so_far else take_new s path so_far

-- several paths, one after the other
abbrev pub take_paths : Nodes → List Path → Taken → Taken
take_paths s [] so_far = so_far
take_paths s (path ∷ paths) so_far = take_paths s paths (take_path s path so_far)

-- the choice marks exactly the rows whose paths are taken
pub record IsChoice (rows : List Row) (so_far : Taken) (choice : Choice) : Type 0 where
  pub marks : (at : ℕ) (d : Row) → at < length rows
      → slice_index_or choice.taken.items at false ≡ has so_far.paths (slice_index_or rows at d).0
  pub left : choice.left ≡ so_far.left
