-- Which stamps an update leaves.
use Rattle.std.specs.Prelude.{ℕ, Bool, true, false, not, ◌||◌, ◌&&◌, cond, List, [], ◌∷◌, Option, Some, None, is_some, option_map, bytes_eq}
use Rattle.std.specs.List.{starts_with}
use Rattle.std.specs.Ordering.{eq_by_cmp}
use Rattle.std.specs.FinMap.{get}
use Rattle.iot_text.specs.Paths.{path_cmp, parent_of}
use Rattle.iot_tree.specs.Tree.{Path, Row, Nodes}
use Rattle.iot_tree.specs.Snapshots.{is_known}
use Rattle.iot_tree.specs.Questions.{is_dir}
use Rattle.iot_tree.specs.Updates.{Fits, mode_in, with_mode, updated}
use Rattle.iot_tree.specs.declared.nodes.Mode.{Mode}
use Rattle.iot_tree.specs.declared.nodes.Mode.TheVariants.{Off, On}
use Rattle.iot_tree.specs.declared.nodes.Node.{Node}
use Rattle.iot_tree.specs.declared.updates.Update.{Update}
use Rattle.iot_tree.specs.declared.updates.Update.TheVariants.{Put, MakeDir, Remove, Move, SetMode}
use Rattle.iot_stamp.specs.Stamps.{Stamps, nodes_of, stamp_at, with_stamps}

-- whether two paths are one
abbrev pub is_at : Path → Path → Bool
is_at k p = eq_by_cmp path_cmp k p

-- whether this is the parent's path
abbrev pub is_this : Path → Option Path → Bool
is_this k None = false
is_this k (Some parent) = is_at k parent

abbrev pub is_parent : Path → Path → Bool
is_parent k p = is_this k (parent_of p)

-- whether two modes are one
abbrev pub same_mode : Mode → Mode → Bool
same_mode Off Off = true
same_mode Off On = false
same_mode On Off = false
same_mode On On = true

-- whether two rows are shown as the same in a directory: of one kind and, as files, of one mode; or there is none
abbrev pub shown_same : Option Node → Option Node → Bool
shown_same None None = true
shown_same None (Some b) = false
shown_same (Some a) None = false
shown_same (Some a) (Some b) = cond (is_dir a) (is_dir b) (not (is_dir b) && same_mode (mode_in (Some a)) (mode_in (Some b)))

-- whether the update changes the names at the place where it puts something, or their kinds or modes
abbrev pub changes_names : Nodes → Update → Bool
changes_names t (Put p bytes) = not (is_some (get t p))
changes_names t (MakeDir p) = true
changes_names t (Remove p) = true
changes_names t (Move p q) = not (shown_same (get t p) (get t q))
changes_names t (SetMode p mode) = not (shown_same (get t p) (option_map (with_mode mode) (get t p)))

-- whether an update that changes names or not stamps the path
abbrev pub touches_by : Bool → Update → Path → Bool
touches_by changes (Put p bytes) k = is_at k p || (is_parent k p && changes)
touches_by changes (MakeDir p) k = is_at k p || is_parent k p
touches_by changes (Remove p) k = is_at k p || is_parent k p
touches_by changes (Move p q) k =
    (starts_with bytes_eq k q || starts_with bytes_eq k p) || (is_parent k p || (is_parent k q && changes))
touches_by changes (SetMode p mode) k = is_at k p || (is_parent k p && changes)

-- whether the update stamps the path: the row that it names or moves, and each directory whose names, or their kinds or modes, change
abbrev pub touches : Nodes → Update → Path → Bool
touches t u = touches_by (changes_names t u) u

-- the stamp of the path after the update
abbrev pub stamp_after : Stamps → Update → ℕ → Path → ℕ
stamp_after t u stamp k = cond (touches (nodes_of t) u k) stamp (stamp_at t k)

-- the stamp of a row of the tree after the update
abbrev pub new_stamp : Stamps → Update → ℕ → Row → ℕ
new_stamp t u stamp row = cond (is_known row.1) (stamp_after t u stamp row.0) 0

-- the stamped tree after the update
abbrev pub stamped : Stamps → Update → ℕ → Stamps
stamped t u stamp = with_stamps (stamp_after t u stamp) (updated (nodes_of t) u)

-- the stamped tree after updates in turn, all with one stamp
abbrev pub stamped_all : Stamps → List Update → ℕ → Stamps
stamped_all t [] stamp = t
stamped_all t (u ∷ us) stamp = stamped_all (stamped t u stamp) us stamp

-- each update fits at its turn
abbrev pub FitAll : Nodes → List Update → Type 0
FitAll t [] = Unit {0}
FitAll t (u ∷ us) = Fits t u × FitAll (updated t u) us
