-- Where the row of a path is among others, or would go.
use Rattle.std.specs.Prelude.{◌≡◌, ℕ, ◌++◌, not, ◌<◌, ◌≤◌, IsTrue, List, [], ◌∷◌, length, take, drop, slice_index_or, Result, Ok, Err}
use Rattle.std.specs.FinMap.Entries.{below_all, where_key}
use Rattle.std.specs.Ordering.{eq_by_cmp}
use Rattle.std.specs.declared.cmp.Ordering.TheVariants.{Less}
use Rattle.iot_text.specs.Paths.{path_cmp}
use Rattle.iot_tree.specs.Tree.{Path, Row}

-- each row's path comes before p
abbrev pub AllBefore : Path → List Row → Type 0
AllBefore p [] = Unit {0}
AllBefore p (row ∷ rows) = (path_cmp row.0 p ≡ Less) × AllBefore p rows

-- each row's path comes after p
abbrev pub AllAfter : Path → List Row → Type 0
AllAfter p rows = IsTrue (below_all path_cmp p rows)

-- the row at this place is that of p
pub record IsRowAt (rows : List Row) (p : Path) (at : ℕ) : Type 0 where
  pub in_range : at < length rows
  pub before : AllBefore p (take at rows)
  pub here : (d : Row) → (slice_index_or rows at d).0 ≡ p

-- p has no row, and its row would go to this place
pub record IsGap (rows : List Row) (p : Path) (at : ℕ) : Type 0 where
  pub in_range : at ≤ length rows
  pub before : AllBefore p (take at rows)
  pub after : AllAfter p (drop at rows)

-- where a search for p ends: at its row, or at its gap
abbrev pub IsPlace : List Row → Path → Result ℕ ℕ → Type 0
IsPlace rows p (Ok at) = IsRowAt rows p at
IsPlace rows p (Err at) = IsGap rows p at

-- the rows but that of q
abbrev pub without : Path → List Row → List Row
without q = where_key path_cmp (λ path. not (eq_by_cmp path_cmp q path))

-- the moved rows stand at q's place among the others but q's own
pub record IsPutAt (others moved : List Row) (q : Path) (all : List Row) : Type 0 where
  pub front : List Row
  pub back : List Row
  pub whole : all ≡ front ++ (moved ++ back)
  pub rest : front ++ back ≡ without q others
  pub before : AllBefore q front
  pub after : AllAfter q back
