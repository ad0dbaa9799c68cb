-- The last rows, put at the place of a path among the others.
use Rattle.std.proofs.Common.{◌≡◌, ℕ, List, [], ◌∷◌, ◌++◌, sym, ap, ◌∙◌, ◌+◌, ◌≤◌, length, take, drop, get_or, arith, append_assoc, subst}
use Rattle.std.proofs.Common.{◌-◌}
use Rattle.std.proofs.lemmas.List.{drop_more, take-append-drop, take-append-le, drop-append-le, length-take-le, length-drop}
use Rattle.iot_tree.specs.Place.{AllAfter, IsRowAt, IsGap, without, IsPutAt}
use Rattle.iot_tree.specs.Rows.{Rising}
use Rattle.iot_tree.specs.Tree.{Path, Row}
use Rattle.iot_tree.specs.declared.nodes.Node.TheVariants.{Dir}
use Rattle.iot_tree.proofs.PlaceLaws.{back_after}
use Rattle.iot_tree.proofs.WithoutLaws.{without_gap, without_at}

module _ (o m : List Row) (q : Path) (rising : Rising o) (new : List Row) where
  row_put : (at : ℕ) → IsRowAt o q at
      → ((a b c : List Row) → take at (o ++ m) ++ drop (at + 1) (o ++ m) ≡ a ++ (b ++ c) → length a ≡ at → length b ≡ length o - at - 1
      → new ≡ a ++ (c ++ b))
      → IsPutAt o m q new
  row_put at stands rotated =
      let row : Row = get_or o at ([], Dir) in
      let whole : o ≡ take at o ++ row ∷ drop (at + 1) o = sym (take-append-drop at o)
      ∙ ap (λ (back : List Row). take at o ++ back) (drop_more o at ([], Dir) stands.in_range) in
      let below : AllAfter q (drop (at + 1) o) =
      subst (λ (path : Path). AllAfter path (drop (at + 1) o)) (stands.here ([], Dir))
      (back_after (take at o) row (drop (at + 1) o) (subst Rising whole rising)) in
      record {
        front = take at o;
        back = drop (at + 1) o;
        whole = rotated (take at o) (drop (at + 1) o) m
            (λ i. take-append-le at o m (omega (arith, stands.in_range)) i
            ++ drop-append-le (at + 1) o m (omega (arith, stands.in_range)) i)
            (length-take-le at o (omega (arith, stands.in_range))) (length-drop (at + 1) o ∙ omega arith);
        rest = sym (ap (without q) whole ∙ without_at q (take at o) row (drop (at + 1) o) stands.before (stands.here ([], Dir)) below);
        before = stands.before;
        after = below;
      }

  gap_put : (gap : ℕ) → IsGap o q gap
      → ((a b c : List Row) → o ++ m ≡ a ++ (b ++ c) → length a ≡ gap → length b ≡ length o - gap → new ≡ a ++ (c ++ b)) → IsPutAt o m q new
  gap_put gap is_gap rotated = record {
    front = take gap o;
    back = drop gap o;
    whole =
        rotated (take gap o) (drop gap o) m
        (ap (λ (rows : List Row). rows ++ m) (sym (take-append-drop gap o)) ∙ append_assoc (take gap o) (drop gap o) m)
        (length-take-le gap o is_gap.in_range) (length-drop gap o);
    rest = sym (ap (without q) (sym (take-append-drop gap o)) ∙ without_gap q (take gap o) (drop gap o) is_gap.before is_gap.after);
    before = is_gap.before;
    after = is_gap.after;
  }

-- the last rows go to the place of q among the others
module _ (r : List Row) (k : ℕ) (le : k ≤ length r) (q : Path) (rising : Rising (take k r)) (new : List Row) where
  pub put_row : (at : ℕ) → IsRowAt (take k r) q at
      → ((a b c : List Row) → take at r ++ drop (at + 1) r ≡ a ++ (b ++ c) → length a ≡ at → length b ≡ k - at - 1 → new ≡ a ++ (c ++ b))
      → IsPutAt (take k r) (drop k r) q new
  put_row at stands rotated = row_put (take k r) (drop k r) q rising new at stands (λ a b c whole first second.
      rotated a b c (ap (λ (rows : List Row). take at rows ++ drop (at + 1) rows) (sym (take-append-drop k r)) ∙ whole) first
      (second ∙ ap (λ n. n - at - 1) (length-take-le k r le)))

  pub put_gap : (gap : ℕ) → IsGap (take k r) q gap
      → ((a b c : List Row) → r ≡ a ++ (b ++ c) → length a ≡ gap → length b ≡ k - gap → new ≡ a ++ (c ++ b))
      → IsPutAt (take k r) (drop k r) q new
  put_gap gap is_gap rotated = gap_put (take k r) (drop k r) q rising new gap is_gap (λ a b c whole first second.
      rotated a b c (sym (take-append-drop k r) ∙ whole) first (second ∙ ap (λ n. n - gap) (length-take-le k r le)))
