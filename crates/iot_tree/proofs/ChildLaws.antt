-- The names in a directory, found among its rows.
use Rattle.std.proofs.Common.{◌≡◌, ℕ, List, [], ◌∷◌, ◌++◌, refl, sym, ap, ◌∙◌, ◌+◌, ◌<◌, Bool, true, false, ◌&&◌, Some, None, length, take}
use Rattle.std.proofs.Common.{drop, get_or, arith, Option, ◌==◌, bytes_eq, length-append}
use Rattle.std.proofs.lemmas.List.{append-nil, drop_more, drop-drop, take-append-drop}
use Rattle.std.proofs.lemmas.List.Elements.{filter_map-append}
use Rattle.std.specs.Cmp.{first_so, second_so}
use Rattle.std.specs.List.{starts_with, filter_map, prefix_len, cons_option}
use Rattle.std.specs.Ordering.{is_lt}
use borrow.Author.Tests.{eqb-true}
use Rattle.iot_text.specs.Paths.{path_cmp}
use Rattle.iot_tree.specs.Place.{AllAfter, IsRowAt}
use Rattle.iot_tree.specs.Questions.{is_within, is_child, child_of, children_of}
use Rattle.iot_tree.specs.Rows.{Rising, map_of, AreTreeRows}
use Rattle.iot_tree.specs.Tree.{Path, Row}
use Rattle.iot_tree.specs.declared.kinds.Kind.{Kind}
use Rattle.iot_tree.specs.declared.nodes.Node.TheVariants.{Dir}
use Rattle.iot_tree.proofs.CountLaws.{own_row, rest_after, own_and_rest, rising_drop}
use Rattle.iot_tree.proofs.LeafLaws.{whole_at, below_of}
use Rattle.iot_tree.proofs.PlaceLaws.{is_less}
use Rattle.iot_tree.proofs.RowLaws.{entries_rows}
use Rattle.iot_tree.proofs.WithinLaws.{IsOutside, Outside, side, outside_before, parts, inside, outside, within_more, within_none, test_is}
use Rattle.iot_tree.proofs.WithinLaws.{at_itself}

-- ---- the names in a directory

no_child : (p path : Path) → IsOutside p path → is_child p path ≡ false
no_child p path away = elim (side p path) [
  | inside rest is test ↦ absurd (away rest is)
  | outside apart test ↦ ap (λ b. (length path == length p + 1) && b) test ∙ and_false (length path == length p + 1)
]
  where
    and_false : (b : Bool) → (b && false) ≡ false
    and_false true = refl
    and_false false = refl

not_longer : (n : ℕ) → (n == n + 1) ≡ false
not_longer n = by_test (n == n + 1) refl
  where
    by_test : (b : Bool) → (n == n + 1) ≡ b → (n == n + 1) ≡ false
    by_test true is = absurd (omega (arith, eqb-true n (n + 1) is))
    by_test false is = is

not_own_child : (p : Path) → is_child p p ≡ false
not_own_child p = ap (λ b. b && starts_with bytes_eq p p) (not_longer (length p))

pub no_children : (p : Path) (rows : List Row) → Outside p rows → filter_map (child_of p) rows ≡ []
no_children p [] out = refl
no_children p (row ∷ rows) out = rw (no_child p row.0 out.0) (no_children p rows out.1)

pub children_at : (rows : List Row) → AreTreeRows rows → (p : Path) (at : ℕ) → IsRowAt rows p at
    → filter_map (child_of p) (take (prefix_len (is_within p) (drop at rows)) (drop at rows)) ≡ children_of (map_of rows) p
children_at rows all p at stands =
    let whole = whole_at rows all p at stands ([], Dir) in
    let here = stands.here ([], Dir) in
    let row : Row = get_or rows at ([], Dir) in
    let behind : List Row = drop (at + 1) rows in
    let split = parts p behind (rest_after rows all.rising p at stands) (rising_drop (at + 1) rows all.rising) in
    let n : ℕ = prefix_len (is_within p) behind in
    let kept : filter_map (child_of p) behind ≡ filter_map (child_of p) (take n behind) =
    ap (filter_map (child_of p)) (sym (take-append-drop n behind)) ∙ filter_map-append (child_of p) (take n behind) (drop n behind)
    ∙ ap (λ (rest : List (List ℕ × Kind)). filter_map (child_of p) (take n behind) ++ rest) (no_children p (drop n behind) split.1)
    ∙ append-nil (filter_map (child_of p) (take n behind)) in
    let own : is_child p row.0 ≡ false = ap (is_child p) here ∙ not_own_child p in
    let step : (rest : List Row) → filter_map (child_of p) (row ∷ rest) ≡ filter_map (child_of p) rest = λ rest. rw own refl in
    let block : take (prefix_len (is_within p) (drop at rows)) (drop at rows) ≡ row ∷ take n behind =
    ap (λ (back : List Row). take (prefix_len (is_within p) back) back) (drop_more rows at ([], Dir) stands.in_range)
    ∙ ap (λ k. take k (row ∷ behind)) (within_more p row behind ((test_is p row.0).1 [] (here ∙ at_itself p))) in
    sym (ap (filter_map (child_of p)) (entries_rows rows all.rising ∙ whole) ∙ filter_map-append (child_of p) (take at rows) (row ∷ behind)
    ∙ ap (λ (front : List (List ℕ × Kind)). front ++ filter_map (child_of p) (row ∷ behind))
    (no_children p (take at rows) (outside_before p (take at rows) stands.before))
    ∙ step behind ∙ kept ∙ sym (step (take n behind)) ∙ ap (filter_map (child_of p)) (sym block))

-- ---- from a name in the directory to the next one

-- a row whose path has not one name more is none
not_child : (p : Path) (row : Row) → is_child p row.0 ≡ false → child_of p row ≡ None
not_child p row other = rw other refl

-- a name in the directory has a path that is longer by one
child_length : (p : Path) (row : Row) (child : List ℕ × Kind) → child_of p row ≡ Some child → length row.0 ≡ length p + 1
child_length p row child is = by_test (length row.0 == length p + 1) refl
  where
    none_is : (o : Option (List ℕ × Kind)) (child : List ℕ × Kind) → o ≡ None → o ≡ Some child → ⊥
    none_is o child none some = let never : None ≡ Some child = sym none ∙ some in cc

    by_test : (b : Bool) → (length row.0 == length p + 1) ≡ b → length row.0 ≡ length p + 1
    by_test true same = eqb-true (length row.0) (length p + 1) same
    by_test false other =
        absurd (none_is (child_of p row) child (not_child p row (ap (λ b. b && starts_with bytes_eq row.0 p) other)) is)

-- a path below such a path is longer by more
deeper : (p q path : Path) (name : List ℕ) (tail : Path) → length q ≡ length p + 1 → path ≡ q ++ name ∷ tail → is_child p path ≡ false
deeper p q path name tail long is = by_test (length path == length p + 1) refl
  where
    by_test : (b : Bool) → (length path == length p + 1) ≡ b → is_child p path ≡ false
    by_test true same =
        absurd (omega (arith, eqb-true (length path) (length p + 1) same, ap length is, length-append q (name ∷ tail), long))
    by_test false other = ap (λ b. b && starts_with bytes_eq path p) other

-- so the rows below it have no such name
skip_below : (p q : Path) (rows : List Row) → length q ≡ length p + 1 → AllAfter q rows
    → filter_map (child_of p) rows ≡ filter_map (child_of p) (drop (prefix_len (is_within q) rows) rows)
skip_below p q [] long below = refl
skip_below p q (row ∷ rows) long below = elim (side q row.0) [
  | inside rest is test ↦
      let under = below_of q row.0 rest is (is_less _ (first_so _ _ below)) in
      let none : child_of p row ≡ None = not_child p row (deeper p q row.0 under.0 under.1 long under.2) in
      ap (λ (o : Option (List ℕ × Kind)). cons_option o (filter_map (child_of p) rows)) none
      ∙ skip_below p q rows long (second_so (is_lt (path_cmp q row.0)) _ below)
      ∙ ap (λ n. filter_map (child_of p) (drop n (row ∷ rows))) (sym (within_more q row rows test))
  | outside away test ↦ ap (λ n. filter_map (child_of p) (drop n (row ∷ rows))) (sym (within_none q row rows test))
]

-- the names from that of a row on: this one, and those after the rows at or below it
pub child_first : (p : Path) (rows : List Row) → Rising rows → (at : ℕ) (row : Row) → at < length rows → row ≡ get_or rows at row
    → (child : List ℕ × Kind) → child_of p row ≡ Some child
    → filter_map (child_of p) (drop at rows)
    ≡ child ∷ filter_map (child_of p) (drop (at + prefix_len (is_within row.0) (drop at rows)) rows)
child_first p rows rising at row lt is child found =
    let stands = own_row rows rising at row lt is in
    let behind : List Row = drop (at + 1) rows in
    let n : ℕ = prefix_len (is_within row.0) behind in
    let begins : drop at rows ≡ row ∷ behind = drop_more rows at row lt ∙ ap (λ (r : Row). r ∷ behind) (sym is) in
    let count : at + prefix_len (is_within row.0) (drop at rows) ≡ at + 1 + n =
    omega (arith, own_and_rest rows rising row.0 at stands) in
    ap (filter_map (child_of p)) begins
    ∙ ap (λ (o : Option (List ℕ × Kind)). cons_option o (filter_map (child_of p) behind)) found
    ∙ ap (λ (kids : List (List ℕ × Kind)). child ∷ kids)
    (skip_below p row.0 behind (child_length p row child found) (rest_after rows rising row.0 at stands)
    ∙ ap (filter_map (child_of p)) (drop-drop n (at + 1) rows) ∙ ap (λ m. filter_map (child_of p) (drop m rows)) (sym count))

-- a row that is none is passed over
pub child_later : (p : Path) (rows : List Row) (at : ℕ) (row : Row) → at < length rows → row ≡ get_or rows at row → child_of p row ≡ None
    → filter_map (child_of p) (drop at rows) ≡ filter_map (child_of p) (drop (at + 1) rows)
child_later p rows at row lt is none =
    ap (filter_map (child_of p)) (drop_more rows at row lt ∙ ap (λ (r : Row). r ∷ drop (at + 1) rows) (sym is))
    ∙ ap (λ (o : Option (List ℕ × Kind)). cons_option o (filter_map (child_of p) (drop (at + 1) rows))) none
