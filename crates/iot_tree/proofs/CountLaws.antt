-- How many rows are at or below a path, found by a search.
use Rattle.std.proofs.Common.{◌≡◌, ℕ, List, [], ◌∷◌, ◌++◌, refl, sym, ap, ◌∙◌, ◌+◌, ◌-◌, ◌<◌, ◌≤◌, Bool, true, false, length, take, drop}
use Rattle.std.proofs.Common.{get_or, arith, subst, nat_lt, zero, suc, bytes_eq}
use Rattle.std.proofs.lemmas.Bool.{both_ways, ltb-true, ltb-false}
use Rattle.std.proofs.lemmas.List.{drop_more, get_or_read, length-drop, take-append-drop}
use Rattle.std.proofs.lemmas.List.Sums.{prefix_len_passes, prefix_len_stops, prefix_len-le-length}
use Rattle.std.proofs.lemmas.List.Edits.{length-between, get_or-between}
use Rattle.std.specs.Cmp.{first_so, second_so}
use Rattle.std.specs.FinMap.Entries.{below_all}
use Rattle.std.specs.List.{prefix_len, starts_with}
use Rattle.std.specs.List.Sorted.{IsPartitionedBy, IsPartitionPoint}
use Rattle.std.specs.Ordering.{is_lt}
use Rattle.iot_text.specs.Paths.{path_cmp}
use Rattle.iot_tree.specs.Place.{AllAfter, IsRowAt}
use Rattle.iot_tree.specs.Questions.{is_within}
use Rattle.iot_tree.specs.Rows.{Rising}
use Rattle.iot_tree.specs.Tree.{Path, Row}
use Rattle.iot_tree.specs.declared.nodes.Node.TheVariants.{Dir}
use Rattle.iot_tree.proofs.PlaceLaws.{is_less, before_from, rows_rise, back_after}
use Rattle.iot_tree.proofs.WithinLaws.{Outside, side, test_is, at_itself, outside_behind, sorted_front, sorted_back, within_more}
use Rattle.iot_tree.proofs.WithinLaws.{inside, outside}

-- ---- a front of rows that pass a test

module _ (p : Row → Bool) (rows : List Row) where
  -- a row that fails is not in the front
  pub not_in_front : (j : ℕ) (d : Row) → p (get_or rows j d) ≡ false → prefix_len p rows ≤ j
  not_in_front j d fails = by_test (nat_lt j (prefix_len p rows)) refl
    where
      by_test : (b : Bool) → nat_lt j (prefix_len p rows) ≡ b → prefix_len p rows ≤ j
      by_test true is = absurd (both_ways _ fails (prefix_len_passes p rows j d (ltb-true j (prefix_len p rows) is)))
      by_test false is = ltb-false j (prefix_len p rows) is

  -- a row that passes is, if no row that passes comes after one that fails
  pub in_front : IsPartitionedBy p rows → (j : ℕ) (d : Row) → j < length rows → p (get_or rows j d) ≡ true → j < prefix_len p rows
  in_front parted j d lt passes = by_test (nat_lt j (prefix_len p rows)) refl
    where
      by_test : (b : Bool) → nat_lt j (prefix_len p rows) ≡ b → j < prefix_len p rows
      by_test true is = ltb-true j (prefix_len p rows) is
      by_test false is =
          let le : prefix_len p rows ≤ j = ltb-false j (prefix_len p rows) is in
          absurd (both_ways _ (prefix_len_stops p rows d (omega (arith, le, lt))) (parted (prefix_len p rows) j d le lt passes))

  -- no row that passes comes after one that fails, in a part of the rows too
  pub parted_between : IsPartitionedBy p rows → (low high : ℕ) → high ≤ length rows → IsPartitionedBy p (take (high - low) (drop low rows))
  parted_between parted low high fits i j d le lt passes =
      let short : low + j < high = omega (arith, length-between rows low high fits, lt) in
      ap p (get_or-between rows low high i d (omega arith))
      ∙ parted (low + i) (low + j) d (omega arith) (omega arith) (sym (ap p (get_or-between rows low high j d short)) ∙ passes)

  -- a search between two places that the front's end lies between ends there
  pub front_end : IsPartitionedBy p rows → (low high i : ℕ) → low ≤ prefix_len p rows → prefix_len p rows ≤ high → high ≤ length rows
      → i ≤ length (take (high - low) (drop low rows))
      → IsPartitionPoint (λ row. p row ≡ true) (λ row. p row ≡ false) (take (high - low) (drop low rows)) i → low + i ≡ prefix_len p rows
  front_end parted low high i from to fits in_range point =
      omega (arith, at_most i refl, at_least (nat_lt i (high - low)) refl)
    where
      size : length (take (high - low) (drop low rows)) ≡ high - low
      size = length-between rows low high fits

      at_most : (n : ℕ) → n ≡ i → low + i ≤ prefix_len p rows
      at_most zero is = omega arith
      at_most (suc n) is =
          let lt : low + n < high = omega (arith, size, in_range) in
          let passes : p (get_or rows (low + n) ([], Dir)) ≡ true =
          sym (ap p (get_or-between rows low high n ([], Dir) lt)) ∙ point.0 n ([], Dir) (omega arith) (omega arith) in
          omega (arith, in_front parted (low + n) ([], Dir) (omega arith) passes)

      at_least : (b : Bool) → nat_lt i (high - low) ≡ b → prefix_len p rows ≤ low + i
      at_least true is =
          let lt : i < high - low = ltb-true i (high - low) is in
          not_in_front (low + i) ([], Dir)
          (sym (ap p (get_or-between rows low high i ([], Dir) (omega arith)))
          ∙ point.1 i ([], Dir) (omega arith) (omega (arith, size)))
      at_least false is = omega (arith, ltb-false i (high - low) is, from)

-- ---- rows after a path

outside_each : (p : Path) (rows : List Row) → Outside p rows → (j : ℕ) (d : Row) → j < length rows
    → is_within p (get_or rows j d) ≡ true → ⊥
outside_each p [] out j d lt test = absurd (omega arith)
outside_each p (row ∷ rows) out zero d lt test = out.0 _ ((test_is p row.0).0 test)
outside_each p (row ∷ rows) out (suc j) d lt test = outside_each p rows out.1 j d (omega arith) test

-- those at or below it come first
pub parted_after : (p : Path) (rows : List Row) → AllAfter p rows → Rising rows → IsPartitionedBy (is_within p) rows
parted_after p [] below rising i j d le lt test = absurd (omega arith)
parted_after p (row ∷ rows) below rising zero zero d le lt test = test
parted_after p (row ∷ rows) below rising zero (suc j) d le lt test = elim (side p row.0) [
  | inside rest is here ↦ here
  | outside away none ↦
      let none_behind = outside_behind p row.0 rows (is_less _ (first_so _ _ below)) away (first_so _ _ rising) in
      absurd (outside_each p rows none_behind j d (omega arith) test)
]
parted_after p (row ∷ rows) below rising (suc i) zero d le lt test = absurd (omega arith)
parted_after p (row ∷ rows) below rising (suc i) (suc j) d le lt test =
    parted_after p rows (second_so (is_lt (path_cmp p row.0)) _ below) (second_so (below_all path_cmp row.0 rows) _ rising) i j d
    (omega arith) (omega arith) test

-- ---- parts of rows that rise

pub rising_take : (n : ℕ) (rows : List Row) → Rising rows → Rising (take n rows)
rising_take n rows rising = sorted_front (take n rows) (drop n rows) (subst Rising (sym (take-append-drop n rows)) rising)

pub rising_drop : (n : ℕ) (rows : List Row) → Rising rows → Rising (drop n rows)
rising_drop n rows rising = sorted_back (take n rows) (drop n rows) (subst Rising (sym (take-append-drop n rows)) rising)

-- the rows from a place on, as many as a count says
pub block_len : (at count : ℕ) → at + count - at ≡ count
block_len at count = omega arith

pub rising_block : (at n : ℕ) (rows : List Row) → Rising rows → Rising (take n (drop at rows))
rising_block at n rows rising = rising_take n (drop at rows) (rising_drop at rows rising)

-- each row is the one of its own path
pub own_row : (rows : List Row) → Rising rows → (at : ℕ) (row : Row) → at < length rows → row ≡ get_or rows at row → IsRowAt rows row.0 at
own_row rows rising at row lt is = record {
  in_range = lt;
  before =
      before_from row.0 at rows
      (λ j d before in_range. ap (path_cmp (get_or rows j d).0) (here d) ∙ rows_rise rows rising j at d before lt);
  here = λ d. sym (here d);
}
  where
    here : (d : Row) → row.0 ≡ (get_or rows at d).0
    here d = ap (λ (r : Row). r.0) (get_or_read rows at row lt is d)

-- A path's row among rows that rise.
module _ (rows : List Row) (rising : Rising rows) (p : Path) (at : ℕ) (stands : IsRowAt rows p at) where
  begins : drop at rows ≡ get_or rows at ([], Dir) ∷ drop (at + 1) rows
  begins = drop_more rows at ([], Dir) stands.in_range

  -- the rows after it come after the path
  pub rest_after : AllAfter p (drop (at + 1) rows)
  rest_after =
      let whole : Rising (take at rows ++ get_or rows at ([], Dir) ∷ drop (at + 1) rows) =
      subst Rising (sym (ap (λ (back : List Row). take at rows ++ back) (sym begins) ∙ take-append-drop at rows)) rising in
      subst (λ (path : Path). AllAfter path (drop (at + 1) rows)) (stands.here ([], Dir))
      (back_after (take at rows) (get_or rows at ([], Dir)) (drop (at + 1) rows) whole)

  -- and those below it first
  pub rest_parted : IsPartitionedBy (is_within p) (drop (at + 1) rows)
  rest_parted = parted_after p (drop (at + 1) rows) rest_after (rising_drop (at + 1) rows rising)

  -- itself and those below it
  pub own_and_rest : 1 + prefix_len (is_within p) (drop (at + 1) rows) ≡ prefix_len (is_within p) (drop at rows)
  own_and_rest =
      let test : starts_with bytes_eq (get_or rows at ([], Dir)).0 p ≡ true =
      (test_is p (get_or rows at ([], Dir)).0).1 [] (stands.here ([], Dir) ∙ at_itself p) in
      omega
      (arith, ap (prefix_len (is_within p)) begins ∙ within_more p (get_or rows at ([], Dir)) (drop (at + 1) rows) test)

  pub own_counts : 0 < prefix_len (is_within p) (drop at rows)
  own_counts = omega (arith, own_and_rest)

  -- they fit
  pub rest_fits : at + (1 + prefix_len (is_within p) (drop (at + 1) rows)) ≤ length rows
  rest_fits = omega (arith, own_and_rest, prefix_len-le-length (is_within p) (drop at rows), length-drop at rows, stands.in_range)
