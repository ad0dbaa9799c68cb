-- Two lists of entries in order, woven into one.
use Rattle.iot_tree.specs.Tree.{Path}
use Rattle.std.specs.Prelude.{Bool, true, false, not, ◌&&◌, ◌++◌, cond, List, [], ◌∷◌, is_some, Option, Some, None}
use Rattle.std.specs.FinMap.{find}
use Rattle.std.specs.Ordering.{is_lt}
use Rattle.iot_stamp.specs.Stamps.{Entry}
use Rattle.iot_stamp.specs.Refresh.{is_gone}
use Rattle.iot_text.specs.Paths.{path_cmp}
use Rattle.iot_stamp.specs.Passes.{before_key, from_key, head_at}

-- an entry, if it is kept and the others do not begin with its key
abbrev pub own : {V : Type 0} → Bool → Path × V → List (Path × V) → List (Path × V)
own kept h es = cond (kept && not (is_some (head_at h.0 es))) (h ∷ []) []

-- the entries of both in order: of two with one key the second list's, and of the first list those that are kept
abbrev pub woven : {V : Type 0} → (Path × V → Bool) → List (Path × V) → List (Path × V) → List (Path × V)
woven keep [] es = es
woven keep (h ∷ hs) es = before_key h.0 es ++ (own (keep h) h (from_key h.0 es) ++ woven keep hs (from_key h.0 es))

-- the first entry comes before p
abbrev pub begins_before : {V : Type 0} → Path → List (Path × V) → Bool
begins_before p [] = false
begins_before p (e ∷ es) = is_lt (path_cmp e.0 p)

-- the first entry comes after p, or there is none
abbrev pub are_ahead : {V : Type 0} → Path → List (Path × V) → Bool
are_ahead p [] = true
are_ahead p (e ∷ es) = is_lt (path_cmp p e.0)

-- what is kept of a path for the rows below it: whether it has a row among these, and whether it is gone
abbrev pub merge_flags : List Entry → List Path → Path → Bool × Bool
merge_flags rows gone q = (is_some (find path_cmp q rows), is_gone gone q)

-- what is kept of the row's parent; above the root there is nothing
abbrev pub above_or_none : Option (Bool × Bool) → Bool × Bool
above_or_none None = (false, false)
above_or_none (Some kept) = kept
