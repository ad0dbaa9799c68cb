-- Two rising lists of paths put together.
use Rattle.std.specs.Prelude.{List, [], ◌∷◌}
use Rattle.std.specs.FinMap.Entries.{by_order}
use Rattle.std.specs.declared.cmp.Ordering.{Ordering}
use Rattle.std.specs.declared.cmp.Ordering.TheVariants.{Less, Greater}
use Rattle.iot_text.specs.Paths.{path_cmp}
use Rattle.iot_tree.specs.Tree.{Path}

-- how the first paths of two lists compare; the end of a list comes after every path
abbrev pub front_cmp : List Path → List Path → Ordering
front_cmp [] second = Greater
front_cmp (p ∷ first) [] = Less
front_cmp (p ∷ first) (q ∷ second) = path_cmp p q

-- p and then what `rest` makes of the second list, each path of it that comes before p first
abbrev pub joined_at : Path → (List Path → List Path) → List Path → List Path
joined_at p rest [] = p ∷ rest []
joined_at p rest (q ∷ second) =
    by_order (path_cmp p q) (p ∷ rest (q ∷ second)) (p ∷ rest second) (q ∷ joined_at p rest second)

-- the paths of both lists in their order, one that is in both once
abbrev pub joined : List Path → List Path → List Path
joined [] second = second
joined (p ∷ first) second = joined_at p (joined first) second
