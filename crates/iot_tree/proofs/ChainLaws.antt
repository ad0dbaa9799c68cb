-- In the rows of a tree each row follows the one before it.
use Rattle.std.proofs.Common.{◌≡◌, ◌≢◌, ℕ, List, [], ◌∷◌, ◌++◌, Some, IsSome, refl, sym, ap, ◌∙◌, append_assoc, option_and_then}
use Rattle.std.proofs.Common.{subst, inl, inr}
use Rattle.std.specs.Cmp.{first_so}
use Rattle.std.specs.Cmp.Derive.{both_true}
use Rattle.std.specs.FinMap.{get, find}
use Rattle.std.specs.Ordering.{is_lt}
use Rattle.std.specs.declared.cmp.Ordering.TheVariants.{Less}
use Rattle.iot_text.specs.Paths.{path_cmp, parent_of}
use Rattle.iot_text.proofs.PathsLaws.{above_first, between, parent_of-push}
use Rattle.iot_tree.specs.Follows.{HasDir, Follows}
use Rattle.iot_tree.specs.Place.{AllBefore, AllAfter}
use Rattle.iot_tree.specs.Rows.{Rising, map_of, AreTreeRows}
use Rattle.iot_tree.specs.Tree.{Path, Row}
use Rattle.iot_tree.specs.declared.nodes.Node.TheVariants.{Dir}
use Rattle.iot_tree.proofs.AncestorLaws.{ends, at_root, in_name, below_not_root}
use Rattle.iot_tree.proofs.PathLaws.{order, lower, same, higher}
use Rattle.iot_tree.proofs.PlaceLaws.{find_gap, is_less, below_lower, before_higher, before_push, front_before, back_after}
use Rattle.iot_tree.proofs.RowLaws.{get_rows, get_middle, one_of_two}
use Rattle.iot_tree.proofs.TreeLaws.{none_not_some}

module _ (front : List Row) (last row : Row) (back : List Row) (all : AreTreeRows (front ++ last ∷ row ∷ back)) where
  parts : front ++ last ∷ row ∷ back ≡ (front ++ last ∷ []) ++ row ∷ back
  parts = sym (append_assoc front (last ∷ []) (row ∷ back))

  rising : Rising ((front ++ last ∷ []) ++ row ∷ back)
  rising = subst Rising parts all.rising

  rises : path_cmp last.0 row.0 ≡ Less
  rises = is_less _ (first_so _ _ (back_after front last (row ∷ back) all.rising))

  -- a path that the last row comes before, and that is above the next row, has no row
  none_between : (q : Path) → path_cmp last.0 q ≡ Less → path_cmp q row.0 ≡ Less → get (map_of (front ++ last ∷ row ∷ back)) q ≢ Some Dir
  none_between q late early =
      let before : AllBefore q (front ++ last ∷ []) =
      before_push q front last (before_higher last.0 q front late (front_before front last (row ∷ back) all.rising)) late in
      let after : AllAfter q (row ∷ back) =
      both_true (ap is_lt early) (below_lower q row.0 back early (back_after (front ++ last ∷ []) row back rising)) in
      none_not_some _ Dir
      (get_rows _ all.rising q ∙ ap (find path_cmp q) parts ∙ find_gap q (front ++ last ∷ []) (row ∷ back) before after)

  found : (q : Path) (name : List ℕ) → row.0 ≡ q ++ name ∷ [] → get (map_of (front ++ last ∷ row ∷ back)) q ≡ Some Dir → HasDir last q
  found q name is known = elim (order q last.0) [
    | same here ↦
        let dir : get (map_of (front ++ last ∷ row ∷ back)) last.0 ≡ Some Dir =
        subst (λ (p : Path). get (map_of (front ++ last ∷ row ∷ back)) p ≡ Some Dir) here known in
        inl (sym here, one_of_two _ last.1 Dir (get_middle front last (row ∷ back) all.rising) dir)
    | lower early ↦ inr (between q last.0 (name ∷ []) early (subst (λ (p : Path). path_cmp last.0 p ≡ Less) is rises))
    | higher late ↦
        let below : path_cmp q row.0 ≡ Less = subst (λ (p : Path). path_cmp q p ≡ Less) (sym is) (above_first q name []) in
        absurd (none_between q late below known)
  ]

  get_row : get (map_of (front ++ last ∷ row ∷ back)) row.0 ≡ Some row.1
  get_row = subst (λ (rows : List Row). get (map_of rows) row.0 ≡ Some row.1) (sym parts) (get_middle (front ++ last ∷ []) row back rising)

  mapped : IsSome (get (map_of (front ++ last ∷ row ∷ back)) row.0)
  mapped = rw get_row refl

  -- a row of a tree follows the row before it
  pub follows : Follows last row
  follows = record {
    rises = rises;
    parent = elim (ends row.0) [
      | at_root is ↦ absurd (not_first last.0 (subst (λ (p : Path). path_cmp last.0 p ≡ Less) is rises))
      | in_name q name is ↦
          let above : parent_of row.0 ≡ Some q = ap parent_of is ∙ parent_of-push q name in
          let below_root : row.0 ≢ [] = λ empty. below_not_root q name [] (sym is ∙ empty) in
          let known : get (map_of (front ++ last ∷ row ∷ back)) q ≡ Some Dir =
          ap (option_and_then (get (map_of (front ++ last ∷ row ∷ back)))) (sym above) ∙ all.tree.parents row.0 below_root mapped in
          rw above (found q name is known)
    ];
  }
    where
      not_first : (p : Path) → path_cmp p [] ≢ Less
      not_first [] is = cc
      not_first (name ∷ rest) is = cc

-- each row follows the one before it
abbrev pub Chained : Row → List Row → Type 0
Chained last [] = Unit {0}
Chained last (row ∷ rows) = Follows last row × Chained row rows

pub chained : (front : List Row) (last : Row) (rows : List Row) → AreTreeRows (front ++ last ∷ rows) → Chained last rows
chained front last [] all = tt
chained front last (row ∷ rows) all = (
  follows front last row rows all,
  chained (front ++ last ∷ []) row rows (subst AreTreeRows (sym (append_assoc front (last ∷ []) (row ∷ rows))) all),
)
