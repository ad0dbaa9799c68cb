-- Paths that no row lies below, and what that lets go or come.
use Rattle.std.proofs.Common.{◌≡◌, ℕ, List, [], ◌∷◌, ◌++◌, refl, sym, ap, ◌∙◌, ◌+◌, false, Some, None, take, drop, get_or, arith, cond}
use Rattle.std.proofs.Common.{IsSome, Option, append_assoc, subst, ◌↔◌, nat_lt}
use Rattle.std.proofs.lemmas.Bool.{ltb-false}
use Rattle.std.proofs.lemmas.List.{append-nil, drop_more, take-append-drop}
use Rattle.std.specs.Cmp.{first_so, second_so}
use Rattle.std.specs.FinMap.{find, get, remove}
use Rattle.std.specs.FinMap.Entries.{below_all}
use Rattle.std.specs.List.{prefix_len}
use Rattle.std.specs.Ordering.{eq_by_cmp}
use Rattle.std.specs.declared.cmp.Ordering.TheVariants.{Less}
use Rattle.iot_text.specs.Paths.{path_cmp}
use Rattle.iot_text.proofs.PathsLaws.{above_first}
use Rattle.iot_tree.specs.Place.{AllAfter, IsRowAt, IsGap, without}
use Rattle.iot_tree.specs.Questions.{is_within}
use Rattle.iot_tree.specs.Rows.{Rising, map_of, AreTreeRows}
use Rattle.iot_tree.specs.Tree.{Path, Row, IsTree}
use Rattle.iot_tree.specs.Updates.{IsLeaf, FitsRemove}
use Rattle.iot_tree.specs.declared.nodes.Node.{Node}
use Rattle.iot_tree.specs.declared.nodes.Node.TheVariants.{Dir}
use Rattle.iot_tree.proofs.PlaceLaws.{is_less, front_before, back_after}
use Rattle.iot_tree.proofs.RowLaws.{get_rows, get_middle, get_in_gap}
use Rattle.iot_tree.proofs.TreeLaws.{apart, none_not_some, ancestors}
use Rattle.iot_tree.proofs.UpdateLaws.{tree_removed}
use Rattle.iot_tree.proofs.WithinLaws.{Outside, side, not_less, outside_before, find_last, find_outside, sorted_back, within_none, parts}
use Rattle.iot_tree.proofs.WithinLaws.{inside, outside}
use Rattle.iot_tree.proofs.WithoutLaws.{without_at, sorted_without, remove_is}

none_zero : (p : Path) (rows : List Row) → nat_lt 0 (prefix_len (is_within p) rows) ≡ false → prefix_len (is_within p) rows ≡ 0
none_zero p rows none = omega (arith, ltb-false 0 (prefix_len (is_within p) rows) none)

-- a path below p has a name after it
pub below_of : (p path rest : Path) → path ≡ p ++ rest → path_cmp p path ≡ Less
    → (name : List ℕ) × (tail : Path) × (path ≡ p ++ name ∷ tail)
below_of p path [] is lt = absurd (not_less p (subst (λ (other : Path). path_cmp p other ≡ Less) (is ∙ append-nil p) lt))
below_of p path (name ∷ rest) is lt = (name, rest, is)

-- A path's row among the rows of a tree.
module _ (front : List Row) (row : Row) (back : List Row) (all : AreTreeRows (front ++ row ∷ back)) where
  below : AllAfter row.0 back
  below = back_after front row back all.rising

  rising_back : Rising back
  rising_back = second_so (below_all path_cmp row.0 back) _ (sorted_back front (row ∷ back) all.rising)

  -- if no row after it is below it, none is
  pub leaf_none : Outside row.0 back → IsLeaf (map_of (front ++ row ∷ back)) row.0
  leaf_none out path found =
      let here : eq_by_cmp path_cmp path row.0
      ≡ false =
      apart path row.0
      (λ is. not_less row.0
      (subst (λ (other : Path). path_cmp row.0 other ≡ Less) (sym found.2 ∙ is) (above_first row.0 found.0 found.1))) in
      get_rows (front ++ row ∷ back) all.rising path
      ∙ ap (λ (path : Path). find path_cmp path (front ++ row ∷ back)) found.2
      ∙ find_last (row.0 ++ found.0 ∷ found.1) front (row ∷ back)
      (find_outside row.0 (found.0 ∷ found.1) front (outside_before row.0 front (front_before front row back all.rising)))
      ∙ ap (λ (path : Path). find path_cmp path (row ∷ back)) (sym found.2)
      ∙ ap (λ b. cond b (Some row.1) (find path_cmp path back)) here
      ∙ ap (λ (path : Path). find path_cmp path back) found.2 ∙ find_outside row.0 (found.0 ∷ found.1) back out

  pub leaf_if : nat_lt 0 (prefix_len (is_within row.0) back) ≡ false → IsLeaf (map_of (front ++ row ∷ back)) row.0
  leaf_if none = leaf_none (subst (λ n. Outside row.0 (drop n back)) (none_zero row.0 back none) (parts row.0 back below rising_back).1)

-- and if none is, no row after it is
first_apart : (front : List Row) (row : Row) (back : List Row) → AreTreeRows (front ++ row ∷ back)
    → IsLeaf (map_of (front ++ row ∷ back)) row.0 → nat_lt 0 (prefix_len (is_within row.0) back) ≡ false
first_apart front row [] all leaf = refl
first_apart front row (next ∷ back) all leaf = elim (side row.0 next.0) [
  | outside away test ↦ ap (nat_lt 0) (within_none row.0 next back test)
  | inside rest is test ↦
      let lt = is_less _ (first_so _ _ (back_after front row (next ∷ back) all.rising)) in
      let whole : (front ++ row ∷ []) ++ next ∷ back ≡ front ++ row ∷ next ∷ back = append_assoc front (row ∷ []) (next ∷ back) in
      let here = subst (λ (rows : List Row). get (map_of rows) next.0 ≡ Some next.1) whole
      (get_middle (front ++ row ∷ []) next back (subst Rising (sym whole) all.rising)) in
      absurd (none_not_some _ next.1 (leaf next.0 (below_of row.0 next.0 rest is lt)) here)
]

-- The same of a place.
module _ (rows : List Row) (all : AreTreeRows rows) (p : Path) where
  pub whole_at : (at : ℕ) → IsRowAt rows p at → (d : Row) → rows ≡ take at rows ++ get_or rows at d ∷ drop (at + 1) rows
  whole_at at stands d =
      sym (take-append-drop at rows) ∙ ap (λ (back : List Row). take at rows ++ back) (drop_more rows at d stands.in_range)

  pub leaf_at : (at : ℕ) → IsRowAt rows p at → (nat_lt 0 (prefix_len (is_within p) (drop (at + 1) rows)) ≡ false) ↔ IsLeaf (map_of rows) p
  leaf_at at stands =
      let whole = whole_at at stands ([], Dir) in
      let here = stands.here ([], Dir) in
      let tree : AreTreeRows (take at rows ++ get_or rows at ([], Dir) ∷ drop (at + 1) rows) = subst AreTreeRows whole all in (
        (λ none. subst (λ (path : Path). IsLeaf (map_of rows) path) here
            (subst (λ (rest : List Row). IsLeaf (map_of rest) (get_or rows at ([], Dir)).0) (sym whole)
            (leaf_if (take at rows) (get_or rows at ([], Dir)) (drop (at + 1) rows) tree
            (subst (λ (path : Path). nat_lt 0 (prefix_len (is_within path) (drop (at + 1) rows)) ≡ false) (sym here) none)))),
        (λ leaf. subst (λ (path : Path). nat_lt 0 (prefix_len (is_within path) (drop (at + 1) rows)) ≡ false) here
            (first_apart (take at rows) (get_or rows at ([], Dir)) (drop (at + 1) rows) tree
            (subst (λ (rest : List Row). IsLeaf (map_of rest) (get_or rows at ([], Dir)).0) whole
            (subst (λ (path : Path). IsLeaf (map_of rows) path) (sym here) leaf)))),
      )

  -- below a path without a row there is none
  pub leaf_in_gap : (gap : ℕ) → IsGap rows p gap → IsLeaf (map_of rows) p
  leaf_in_gap gap is_gap path found = by_node (get (map_of rows) path) refl
    where
      by_node : (o : Option Node) → get (map_of rows) path ≡ o → get (map_of rows) path ≡ None
      by_node None is = is
      by_node (Some node) is =
          let mapped : IsSome (get (map_of rows) (p ++ found.0 ∷ found.1)) = subst IsSome (sym is ∙ ap (get (map_of rows)) found.2) refl in
          absurd (none_not_some _ Dir (get_in_gap rows all.rising p gap is_gap) (ancestors (map_of rows) all.tree p found.0 found.1 mapped))

-- ---- the tree without a row

-- The rows without that of a path.
module _ (rows : List Row) (all : AreTreeRows rows) (p : Path) (at : ℕ) (stands : IsRowAt rows p at) where
  left : without p rows ≡ take at rows ++ drop (at + 1) rows
  left =
      let whole = whole_at rows all p at stands ([], Dir) in
      let rising : Rising (take at rows ++ get_or rows at ([], Dir) ∷ drop (at + 1) rows) = subst Rising whole all.rising in
      ap (without p) whole
      ∙ without_at p (take at rows) (get_or rows at ([], Dir)) (drop (at + 1) rows) stands.before (stands.here ([], Dir))
      (subst (λ (path : Path). AllAfter path (drop (at + 1) rows)) (stands.here ([], Dir))
      (back_after (take at rows) (get_or rows at ([], Dir)) (drop (at + 1) rows) rising))

  pub removed_map : map_of (take at rows ++ drop (at + 1) rows) ≡ remove (map_of rows) p
  removed_map = ap map_of (sym left) ∙ remove_is p rows all.rising

  pub removed_tree : FitsRemove (map_of rows) p → AreTreeRows (take at rows ++ drop (at + 1) rows)
  removed_tree fits = record {
    rising = subst Rising left (sorted_without p rows all.rising);
    tree = subst IsTree (sym removed_map) (tree_removed (map_of rows) all.tree p fits);
  }
