-- What a server sends of its tree, and what a client makes of it.
use Rattle.std.specs.Prelude.{ℕ, ◌<◌, ◌^◌, Bool, false, not, ◌&&◌, ◌||◌, ◌++◌, ◌==◌, cond, List, Option, Some, None, is_some}
use Rattle.std.specs.Prelude.{bytes_eq}
use Rattle.std.specs.List.{filter_map, filter, list_any, starts_with}
use Rattle.std.specs.FinMap.{get, find, entries, retain_keys, from_entries}
use Rattle.iot_text.specs.Paths.{IsPath, path_cmp, parent_of}
use Rattle.iot_tree.specs.Tree.{Path}
use Rattle.iot_tree.specs.declared.changes.Changes.{Changes}
use Rattle.iot_tree.specs.declared.nodes.Node.{Node}
use Rattle.iot_tree.specs.Snapshots.{is_known, widen}
use Rattle.iot_tree.specs.declared.want.Want.{Want}
use Rattle.iot_stamp.specs.Mapped.{mapped}
use Rattle.iot_stamp.specs.Stamps.{Entry, Stamps, nodes_of, stamp_at, stamped_node, pruned}

-- the path and the stamp of a row whose inside is known
abbrev pub known_stamp : Entry → Option (Path × ℕ)
known_stamp row = cond (is_known row.1.0) (Some (row.0, row.1.1)) None

-- what a client sends: the paths that it knows, with their stamps
abbrev pub known_with_stamps : Stamps → List (Path × ℕ)
known_with_stamps t = filter_map known_stamp (entries t)

-- a path, and a stamp of 64 bits
abbrev pub IsStampedPath : Path × ℕ → Type 0
IsStampedPath e = IsPath e.0 × (e.1 < 2 ^ 64)

-- a row of a path, with a stamp of 64 bits
abbrev pub IsStampedRow : Entry → Type 0
IsStampedRow row = IsPath row.0 × (row.1.1 < 2 ^ 64)

-- whether this stamp was sent
abbrev pub is_stamp : Option ℕ → ℕ → Bool
is_stamp None stamp = false
is_stamp (Some sent) stamp = sent == stamp

-- whether the path was sent with the stamp that its row has
abbrev pub is_sent : Stamps → List (Path × ℕ) → Path → Bool
is_sent s sent p = is_stamp (find path_cmp p sent) (stamp_at s p)

-- whether there is a parent, and it was not sent with its stamp
abbrev pub is_parent_new : Stamps → List (Path × ℕ) → Option Path → Bool
is_parent_new s sent None = false
is_parent_new s sent (Some parent) = not (is_sent s sent parent)

-- whether the pruned tree's row at the path is sent: one of k whose stamp was not sent with it, or a far
-- one whose parent is such a row
abbrev pub is_new : Stamps → List (Path × ℕ) → (Path → Bool) → Path → Bool
is_new s sent k p = cond (k p) (not (is_sent s sent p)) (is_parent_new s sent (parent_of p))

-- the paths that were sent, and those that are wanted
abbrev pub asked : Stamps → List (Path × ℕ) → Want → Path → Bool
asked s sent want = widen (λ p. is_some (find path_cmp p sent)) (nodes_of s) want

-- the rows that are sent
abbrev pub changed_rows : Stamps → List (Path × ℕ) → (Path → Bool) → List Entry
changed_rows s sent k = entries (retain_keys (pruned s k) (is_new s sent k))

-- a path that was sent, if it is no row of the tree
abbrev pub gone_path : Stamps → Path × ℕ → Option Path
gone_path t e = cond (is_some (get t e.0)) None (Some e.0)

-- the paths that are gone
abbrev pub gone_paths : Stamps → List (Path × ℕ) → (Path → Bool) → List Path
gone_paths s sent k = filter_map (gone_path (pruned s k)) sent

-- what a server answers a client that sent these paths with these stamps, of its tree cut down to k
abbrev pub changes_on : Stamps → List (Path × ℕ) → (Path → Bool) → Changes
changes_on s sent k = record { rows = changed_rows s sent k; gone = gone_paths s sent k }

-- what it answers one that wants this besides
abbrev pub changes_for : Stamps → List (Path × ℕ) → Want → Changes
changes_for s sent want = changes_on s sent (asked s sent want)

-- whether the path is at or below one that is gone
abbrev pub is_gone : List Path → Path → Bool
is_gone gone p = list_any (λ g. starts_with bytes_eq p g) gone

-- whether there is a path, and a row at it
abbrev pub has_row : List Entry → Option Path → Bool
has_row rows None = false
has_row rows (Some p) = is_some (find path_cmp p rows)

-- whether a held row stays: it is not gone, and no far child of a path among the rows
abbrev pub stays : List Entry → List Path → Entry → Bool
stays rows gone row = not (is_gone gone row.0) && (is_known row.1.0 || not (has_row rows (parent_of row.0)))

-- a row with its stamp, or with 0 if it is far
abbrev pub zeroed : Path → Node × ℕ → Node × ℕ
zeroed p row = stamped_node row.0 row.1

-- the rows, and the held rows that stay; of two at one path the first
abbrev pub joined : Stamps → List Entry → List Path → Stamps
joined held rows gone = from_entries (rows ++ filter (stays rows gone) (entries held))

-- the same, with 0 at each far row
abbrev pub merged : Stamps → List Entry → List Path → Stamps
merged held rows gone = mapped zeroed (joined held rows gone)
