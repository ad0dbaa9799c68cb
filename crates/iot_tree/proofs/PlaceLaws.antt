-- Rows in order, cut at a place: what is found in them, and what a row put there leaves.
use Rattle.std.proofs.Common.{◌≡◌, ℕ, List, [], ◌∷◌, ◌++◌, Ordering, refl, sym, ap, ◌∙◌, zero, suc, ◌+◌, ◌<◌, ◌≤◌}
use Rattle.std.specs.Cmp.Derive.{both_true}
use Rattle.std.proofs.Common.{IsTrue, Some, None, Result, Ok, Err, length, take, drop, get_or, arith}
use Rattle.std.proofs.lemmas.List.Sorted.{searchable_from_sorted}
use Rattle.std.specs.Cmp.{tied_itself, alike_right, first_so, second_so}
use Rattle.std.specs.FinMap.{find}
use Rattle.std.specs.FinMap.Entries.{put, below_all}
use Rattle.std.specs.List.Sorted.{IsNonDecreasingBy, IsSearchInRange, IsBinarySearchResult}
use Rattle.std.specs.Ordering.{ordering_reverse, ordering_index, is_lt}
use Rattle.std.specs.declared.cmp.Ordering.TheVariants.{Less, Equal, Greater}
use Rattle.iot_text.specs.Paths.{path_cmp}
use Rattle.iot_text.proofs.PathsLaws.{path_same, path_total}
use Rattle.iot_tree.specs.Place.{AllBefore, AllAfter, IsPlace}
use Rattle.iot_tree.specs.Rows.{Rising}
use Rattle.iot_tree.specs.Tree.{Path, Row}
use Rattle.iot_tree.specs.declared.nodes.Node.{Node}

-- a comparison that tests as less is `Less`
pub is_less : (c : Ordering) → IsTrue (is_lt c) → c ≡ Less
is_less Less h = refl
is_less Equal h = absurd cc
is_less Greater h = absurd cc

module _ (p : Path) where
  -- the comparison the other way round
  pub turned : (q : Path) (c : Ordering) → path_cmp q p ≡ c → path_cmp p q ≡ ordering_reverse c
  turned q c is = path_total.antisymm p q ∙ ap ordering_reverse is

  -- a path ties with itself
  pub tied : (q : Path) → q ≡ p → path_cmp p q ≡ Equal
  tied q here = rw here (tied_itself path_total p)

  -- what comes after p is not found as p
  pub find_after : (back : List Row) → AllAfter p back → find path_cmp p back ≡ None
  find_after [] after = refl
  find_after (e ∷ back) after =
      rw (is_less (path_cmp p e.0) (first_so _ _ after)) (find_after back (second_so (is_lt (path_cmp p e.0)) _ after))

  -- a path that has no row in its gap is not found
  pub find_gap : (front back : List Row) → AllBefore p front → AllAfter p back → find path_cmp p (front ++ back) ≡ None
  find_gap [] back before after = find_after back after
  find_gap (e ∷ front) back before after = rw (turned e.0 Less before.0) (find_gap front back before.1 after)

  -- the row of a path is found
  pub find_at : (front : List Row) (e : Row) (back : List Row) → AllBefore p front → e.0 ≡ p
      → find path_cmp p (front ++ e ∷ back) ≡ Some e.1
  find_at [] e back before here = rw (tied e.0 here) refl
  find_at (f ∷ front) e back before here = rw (turned f.0 Less before.0) (find_at front e back before.1 here)

  -- a row put in the gap of its path
  pub put_gap : (v : Node) (front back : List Row) → AllBefore p front → AllAfter p back
      → put path_cmp p v (front ++ back) ≡ front ++ (p, v) ∷ back
  put_gap v [] [] before after = refl
  put_gap v [] (e ∷ back) before after = rw (is_less (path_cmp p e.0) (first_so _ _ after)) refl
  put_gap v (e ∷ front) back before after = rw (turned e.0 Less before.0) (ap (λ rows. e ∷ rows) (put_gap v front back before.1 after))

  -- a row put if the path has one
  pub put_at : (v : Node) (front : List Row) (e : Row) (back : List Row) → AllBefore p front → e.0 ≡ p
      → put path_cmp p v (front ++ e ∷ back) ≡ front ++ (e.0, v) ∷ back
  put_at v [] e back before here = rw (tied e.0 here) refl
  put_at v (f ∷ front) e back before here = rw (turned f.0 Less before.0) (ap (λ rows. f ∷ rows) (put_at v front e back before.1 here))

  -- the first `at` rows come before p if each of them does
  pub before_from : (at : ℕ) (rows : List Row) → ((j : ℕ) (d : Row) → j < at → j < length rows → path_cmp (get_or rows j d).0 p ≡ Less)
      → AllBefore p (take at rows)
  before_from zero rows each = tt
  before_from (suc at) [] each = tt
  before_from (suc at) (row ∷ rows) each =
      (each 0 row (omega arith) (omega arith), before_from at rows (λ j d lt in_range. each (suc j) d (omega arith) (omega arith)))

  -- the rows from `at` on come after p if each of them does
  pub after_from : (at : ℕ) (rows : List Row) → ((j : ℕ) (d : Row) → at ≤ j → j < length rows → path_cmp (get_or rows j d).0 p ≡ Greater)
      → AllAfter p (drop at rows)
  after_from zero [] each = refl
  after_from (suc at) [] each = refl
  after_from zero (row ∷ rows) each =
      both_true (rw (turned row.0 Greater (each 0 row (omega arith) (omega arith))) refl)
      (after_from zero rows (λ j d le in_range. each (suc j) d (omega arith) (omega arith)))
  after_from (suc at) (row ∷ rows) each = after_from at rows (λ j d le in_range. each (suc j) d (omega arith) (omega arith))

-- a path that comes before all rows comes before each
before_each : (q : Path) (rows : List Row) → AllAfter q rows → (j : ℕ) (d : Row) → j < length rows → path_cmp q (get_or rows j d).0 ≡ Less
before_each q [] below j d in_range = absurd (omega arith)
before_each q (row ∷ rows) below zero d in_range = is_less _ (first_so _ _ below)
before_each q (row ∷ rows) below (suc j) d in_range = before_each q rows (second_so (is_lt (path_cmp q row.0)) _ below) j d (omega arith)

-- of two rows in order the first comes before the second
pub rows_rise : (rows : List Row) → Rising rows → (i j : ℕ) (d : Row) → i < j → j < length rows
    → path_cmp (get_or rows i d).0 (get_or rows j d).0 ≡ Less
rows_rise [] rising i j d lt in_range = absurd (omega arith)
rows_rise (row ∷ rows) rising zero zero d lt in_range = absurd (omega arith)
rows_rise (row ∷ rows) rising (suc i) zero d lt in_range = absurd (omega arith)
rows_rise (row ∷ rows) rising zero (suc j) d lt in_range = before_each row.0 rows (first_so _ _ rising) j d (omega arith)
rows_rise (row ∷ rows) rising (suc i) (suc j) d lt in_range =
    rows_rise rows (second_so (below_all path_cmp row.0 rows) _ rising) i j d (omega arith) (omega arith)

-- rows in order, as a binary search asks it
searchable : (rows : List Row) → Rising rows → (p : Path) → IsNonDecreasingBy (λ (row : Row). ordering_index (path_cmp row.0 p)) rows
searchable rows rising p =
    searchable_from_sorted path_total (λ (row : Row). row.0) rows p (λ k d from to.
    ap is_lt
    (path_total.antisymm (get_or rows (k + 1) d).0 (get_or rows k d).0
    ∙ ap ordering_reverse (rows_rise rows rising k (k + 1) d (omega arith) (omega arith))))

-- a binary search ends at the row of the path, or at its gap
pub searched : (rows : List Row) → Rising rows → (p : Path) (r : Result ℕ ℕ) → IsSearchInRange r (length rows)
    → IsBinarySearchResult (λ (row : Row). path_cmp row.0 p) rows r → IsPlace rows p r
searched rows rising p (Ok at) in_range equal = record {
  in_range = in_range;
  before =
      before_from p at rows
      (λ j d lt inside. sym (alike_right path_total (get_or rows at d).0 p (get_or rows j d).0 (equal d))
      ∙ rows_rise rows rising j at d lt in_range);
  here = λ d. path_same _ _ (equal d);
}
searched rows rising p (Err at) in_range parted = let parts = parted (searchable rows rising p) in record {
  in_range = in_range;
  before = before_from p at rows (λ j d lt inside. parts.0 j d (omega arith) lt);
  after = after_from p at rows (λ j d le inside. parts.1 j d le inside);
}

-- what comes before a path that comes before all rows does so too
pub below_lower : (q p : Path) (rows : List Row) → path_cmp q p ≡ Less → AllAfter p rows → AllAfter q rows
below_lower q p [] lt below = refl
below_lower q p (row ∷ rows) lt below =
    both_true (ap is_lt (path_total.trans q p row.0 lt (is_less _ (first_so _ _ below))))
    (below_lower q p rows lt (second_so (is_lt (path_cmp p row.0)) _ below))

-- rows that come before a path come before what it comes before
pub before_higher : (q p : Path) (rows : List Row) → path_cmp q p ≡ Less → AllBefore q rows → AllBefore p rows
before_higher q p [] lt before = tt
before_higher q p (row ∷ rows) lt before = (path_total.trans row.0 q p before.0 lt, before_higher q p rows lt before.1)

-- a path that comes before all rows comes before one in the middle
before_middle : (q : Path) (front : List Row) (row : Row) (back : List Row) → AllAfter q (front ++ row ∷ back) → path_cmp q row.0 ≡ Less
before_middle q [] row back below = is_less _ (first_so _ _ below)
before_middle q (f ∷ front) row back below = before_middle q front row back (second_so (is_lt (path_cmp q f.0)) _ below)

-- rows in order, cut at one of them: the first part comes before it
pub front_before : (front : List Row) (row : Row) (back : List Row) → Rising (front ++ row ∷ back) → AllBefore row.0 front
front_before [] row back rising = tt
front_before (f ∷ front) row back rising = (
  before_middle f.0 front row back (first_so _ _ rising),
  front_before front row back (second_so (below_all path_cmp f.0 (front ++ row ∷ back)) _ rising),
)

-- and the last part after it
pub back_after : (front : List Row) (row : Row) (back : List Row) → Rising (front ++ row ∷ back) → AllAfter row.0 back
back_after [] row back rising = first_so _ _ rising
back_after (f ∷ front) row back rising = back_after front row back (second_so (below_all path_cmp f.0 (front ++ row ∷ back)) _ rising)

-- the one row of its path in rows in order
pub find_middle : (front : List Row) (row : Row) (back : List Row) → Rising (front ++ row ∷ back)
    → find path_cmp row.0 (front ++ row ∷ back) ≡ Some row.1
find_middle front row back rising = find_at row.0 front row back (front_before front row back rising) refl

-- rows before a path and one more
pub before_push : (p : Path) (front : List Row) (row : Row) → AllBefore p front → path_cmp row.0 p ≡ Less → AllBefore p (front ++ row ∷ [])
before_push p [] row before lt = (lt, tt)
before_push p (f ∷ front) row before lt = (before.0, before_push p front row before.1 lt)

-- the last of rows that come before a path does so
pub last_before : (p : Path) (front : List Row) (row : Row) → AllBefore p (front ++ row ∷ []) → path_cmp row.0 p ≡ Less
last_before p [] row before = before.0
last_before p (f ∷ front) row before = last_before p front row before.1
