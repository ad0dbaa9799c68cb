-- Maps with new values.
use Rattle.std.proofs.Common.{◌≡◌, ◌&&◌, List, [], ◌∷◌, Some, option_map, refl, sym, ap, ◌∙◌, subst, inl, inr}
use lib.Dec.{T}
use Rattle.std.specs.Ordering.{is_lt}
use Rattle.std.specs.FinMap.{FinMap, get, entries, entries_sorted, find, is_sorted, get-from_sorted, get-entries, entries-from_sorted}
use Rattle.std.specs.FinMap.Entries.{below_all}
use Rattle.iot_text.specs.Paths.{path_cmp}
use Rattle.iot_tree.specs.Tree.{Path}
use Rattle.iot_tree.proofs.TreeLaws.{same_or_apart}
use Rattle.iot_prune.proofs.WalkLaws.{tie}
use Rattle.iot_stamp.specs.Mapped.{mapped, mapped_entries}

module _ {A B : Type 0} (f : Path → A → B) where
  below_mapped : (p : Path) (es : List (Path × A)) → below_all path_cmp p (mapped_entries f es) ≡ below_all path_cmp p es
  below_mapped p [] = refl
  below_mapped p (e ∷ es) = ap (λ b. is_lt (path_cmp p e.0) && b) (below_mapped p es)

  pub sorted_mapped : (es : List (Path × A)) → is_sorted path_cmp (mapped_entries f es) ≡ is_sorted path_cmp es
  sorted_mapped [] = refl
  sorted_mapped (e ∷ es) = λ i. below_mapped e.0 es i && sorted_mapped es i

  mapped_sorted : (m : FinMap path_cmp A) → T (is_sorted path_cmp (mapped_entries f (entries m)))
  mapped_sorted m = subst T (sym (sorted_mapped (entries m))) (entries_sorted m)

  -- the rows of a map with new values
  pub entries_of_mapped : (m : FinMap path_cmp A) → entries (mapped f m) ≡ mapped_entries f (entries m)
  entries_of_mapped m = entries-from_sorted path_cmp (mapped_entries f (entries m)) (mapped_sorted m)

  find_mapped : (q : Path) (es : List (Path × A)) → find path_cmp q (mapped_entries f es) ≡ option_map (f q) (find path_cmp q es)
  find_mapped q [] = refl
  find_mapped q (e ∷ es) = elim (same_or_apart q e.0) [
    | inl here ↦ rw (tie q e.0 here) (ap (λ (path : Path). Some (f path e.1)) (sym here))
    | inr away ↦ rw away (find_mapped q es)
  ]

  -- what a map with new values has at a path
  pub get_mapped : (m : FinMap path_cmp A) (q : Path) → get (mapped f m) q ≡ option_map (f q) (get m q)
  get_mapped m q =
      get-from_sorted path_cmp (mapped_entries f (entries m)) q (mapped_sorted m)
      ∙ find_mapped q (entries m) ∙ ap (option_map (f q)) (sym (get-entries m q))
