-- What the passes give for a row.
use Rattle.iot_tree.specs.Tree.{Path, Row}
use Rattle.std.specs.Prelude.{ℕ, Bool, true, false, not, ◌&&◌, ◌||◌, cond, List, [], ◌∷◌, if◌then◌else◌, Option, Some, None}
use Rattle.std.specs.Prelude.{bytes_eq}
use Rattle.std.specs.List.{starts_with}
use Rattle.iot_tree.specs.Snapshots.{has, is_reached, seen}
use Rattle.iot_tree.specs.declared.want.Want.{Want}
use Rattle.iot_tree.specs.declared.want.Want.TheVariants as wish
use Rattle.std.specs.Ordering.{is_lt, eq_by_cmp}
use Rattle.iot_text.specs.Paths.{path_cmp}
use Rattle.iot_stamp.specs.Stamps.{Entry, Stamps, stamp_at, stamped_node}
use Rattle.iot_stamp.specs.Refresh.{asked, is_sent, is_new}

-- the entries from the first on that does not come before p
abbrev pub from_key : {V : Type 0} → Path → List (Path × V) → List (Path × V)
from_key p [] = []
from_key p (e ∷ es) = if is_lt (path_cmp e.0 p) then from_key p es else e ∷ es

-- the paths that were sent, those that are wanted, and those that are listed
abbrev pub kept : Stamps → List (Path × ℕ) → Want → List Path → Path → Bool
kept s sent want listed q = asked s sent want q || has listed q

-- what is sent of a row: the row if its path is among k and was not sent with its stamp, the far row if its
-- path is not among k and its parent is sent; nothing of a row that is not reached
abbrev pub sending : Stamps → List (Path × ℕ) → (Path → Bool) → Row → Option Entry
sending s sent k row =
    if is_reached k row.0 && is_new s sent k row.0 then Some (row.0, stamped_node (seen (k row.0) row.1) (stamp_at s row.0)) else None

-- what is kept of a path for the rows below it: whether they are reached, and whether it is not sent with its stamp
abbrev pub flags : Stamps → List (Path × ℕ) → (Path → Bool) → Path → Bool × Bool
flags s sent k p = (is_reached k p && k p, not (is_sent s sent p))

-- what is kept of the row's parent; above the root all is seen
abbrev pub above_of : Option (Bool × Bool) → Bool × Bool
above_of None = (true, false)
above_of (Some kept) = kept

-- whether the path is wanted, if it is one of the tree's
abbrev pub wanted : Want → Path → Bool
wanted wish.Nothing q = false
wanted (wish.Path p) q = starts_with bytes_eq p q
wanted (wish.Below p) q = starts_with bytes_eq p q || starts_with bytes_eq q p

-- the value of the first entry, if its key is p
abbrev pub head_at : {V : Type 0} → Path → List (Path × V) → Option V
head_at p [] = None
head_at p (e ∷ es) = cond (eq_by_cmp path_cmp p e.0) (Some e.1) None

-- the entries up to the first that does not come before p
abbrev pub before_key : {V : Type 0} → Path → List (Path × V) → List (Path × V)
before_key p [] = []
before_key p (e ∷ es) = if is_lt (path_cmp e.0 p) then e ∷ before_key p es else []

-- the entries after the first, if its key is p, or else all
abbrev pub after_head : {V : Type 0} → Path → List (Path × V) → List (Path × V)
after_head p [] = []
after_head p (e ∷ es) = cond (eq_by_cmp path_cmp p e.0) es (e ∷ es)
