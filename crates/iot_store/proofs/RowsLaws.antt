-- The stamps of a tree in the order of its rows, and what is said of each row with its stamp.
use Rattle.std.proofs.Common.{◌≡◌, ℕ, suc, ◌+◌, ◌<◌, ◌≤◌, ◌^◌, true, false, List, [], ◌∷◌, map, length, drop, IsTrue, Some, None}
use Rattle.std.proofs.Common.{inl, inr, refl, sym, ap, ◌∙◌, subst, arith}
use Rattle.std.proofs.lemmas.List.{drop_all}
use Rattle.std.proofs.lemmas.Option.{none-some, same_Some}
use Rattle.std.specs.Cmp.{first_so, second_so, tied_itself}
use Rattle.std.specs.Ordering.{eq_by_cmp, is_eq}
use Rattle.std.specs.FinMap.{get, find, is_sorted, entries, entries_sorted, get-entries, same_entries_map}
use Rattle.std.specs.FinMap.Entries.{below_all}
use Rattle.std.specs.List.{AllByRecursion}
use Rattle.iot_text.specs.Paths.{path_cmp}
use Rattle.iot_text.proofs.PathsLaws.{path_total}
use Rattle.iot_tree.specs.Snapshots.{is_known}
use Rattle.iot_tree.specs.Tree.{IsWhole, Nodes, Path, Row}
use Rattle.iot_tree.specs.declared.nodes.Node.{Node}
use Rattle.iot_tree.specs.declared.nodes.Node.TheVariants.{FarDir, FarFile}
use Rattle.iot_tree.proofs.EachLaws.{found_row}
use Rattle.iot_tree.proofs.RowLaws.{is_tested}
use Rattle.iot_tree.proofs.TreeLaws.{same_or_apart}
use Rattle.iot_views.specs.Rules.{IsNumber}
use Rattle.iot_stamp.specs.Agreement.{IsPositive, UpTo}
use Rattle.iot_stamp.specs.Mapped.{mapped_entries}
use Rattle.iot_stamp.specs.Pairing.{AreStamps, FarRowsZero, paired, stamps_of}
use Rattle.iot_stamp.specs.Stamps.{Entry, Stamps, nodes_of}
use Rattle.iot_stamp.proofs.FoundLaws.{none_after}
use Rattle.iot_stamp.proofs.MappedLaws.{entries_of_mapped}
use Rattle.iot_stamp.proofs.PairingLaws.{entries_paired}
use Rattle.iot_stamp.proofs.PrunedLaws.{whole_known}
use Rattle.iot_stamp.proofs.StampsLaws.{node_some}
use Rattle.iot_store.specs.Bodies.{stamps_in_order}
use Rattle.iot_store.specs.Reading.{FitStamps}

-- ---- rows with their stamps, and the two apart

paired_again : (es : List Entry) → paired (mapped_entries (λ p (row : Node × ℕ). row.0) es) (map (λ (e : Entry). e.1.1) es) ≡ es
paired_again [] = refl
paired_again (e ∷ es) = ap (λ (rest : List Entry). e ∷ rest) (paired_again es)

-- a stamped tree is made of its rows and its stamps in their order
pub stamps_again : (s : Stamps) → stamps_of (entries (nodes_of s)) (stamps_in_order s) ≡ s
stamps_again s =
    same_entries_map _ _
    (entries_paired (nodes_of s) (stamps_in_order s)
    ∙ ap (λ (rows : List Row). paired rows (stamps_in_order s)) (entries_of_mapped (λ p (row : Node × ℕ). row.0) s)
    ∙ paired_again (entries s))

-- ---- of each entry, by what is found

tie : (p q : Path) → p ≡ q → eq_by_cmp path_cmp p q ≡ true
tie p q is = ap (eq_by_cmp path_cmp p) (sym is) ∙ ap is_eq (tied_itself path_total p)

module _ {V : Type 0} (P : Path → V → Type 0) where
  abbrev pub EachEntry : List (Path × V) → Type 0
  EachEntry es = AllByRecursion (λ (e : Path × V). P e.0 e.1) es

  -- what is found in order is each entry
  each_found : (es : List (Path × V)) → IsTrue (is_sorted path_cmp es) → ((p : Path) (v : V) → find path_cmp p es ≡ Some v → P p v)
      → EachEntry es
  each_found [] rising found = tt
  each_found (e ∷ es) rising found =
      (found e.0 e.1 (rw (tie e.0 e.0 refl) refl), each_found es (second_so (below_all path_cmp e.0 es) _ rising) later)
    where
      later : (p : Path) (v : V) → find path_cmp p es ≡ Some v → P p v
      later p v is = elim (same_or_apart p e.0) [
        | inl here ↦
            let none : find path_cmp p es ≡ None =
            ap (λ (q : Path). find path_cmp q es) here ∙ none_after e.0 es (first_so (below_all path_cmp e.0 es) _ rising) in
            absurd (none-some v (sym none ∙ is))
        | inr away ↦ found p v (rw away is)
      ]

  -- and the other way round
  found_each : (es : List (Path × V)) → EachEntry es → (p : Path) (v : V) → find path_cmp p es ≡ Some v → P p v
  found_each [] each p v is = absurd (none-some v is)
  found_each (e ∷ es) each p v is = elim (same_or_apart p e.0) [
    | inl here ↦
        let found : find path_cmp p (e ∷ es) ≡ Some e.1 = rw (tie p e.0 here) refl in
        let same : e.1 ≡ v = same_Some _ _ (sym found ∙ is) in
        subst (λ (x : V). P p x) same (subst (λ (q : Path). P q e.1) (sym here) each.0)
    | inr away ↦ found_each es each.1 p v (rw away at is)
  ]

-- ---- rows and stamps that fit

-- what is asked of a row and its stamp
abbrev FitAt : (commits : ℕ) → Path → Node × ℕ → Type 0
FitAt commits p row = (is_known row.0 ≡ true) × (0 < row.1) × (row.1 ≤ commits + 1)

fit_from : (es : List Entry) (commits : ℕ) → EachEntry (FitAt commits) es
    → FitStamps (mapped_entries (λ p (row : Node × ℕ). row.0) es) (map (λ (e : Entry). e.1.1) es) commits
fit_from [] commits each = tt
fit_from (e ∷ es) commits each = (each.0.0, each.0.1, each.0.2, fit_from es commits each.1)

fit_into : (rows : List Row) (stamps : List ℕ) (commits : ℕ) → FitStamps rows stamps commits
    → EachEntry (FitAt commits) (paired rows stamps)
fit_into [] [] commits fit = tt
fit_into [] (stamp ∷ stamps) commits fit = absurd fit
fit_into (row ∷ rows) [] commits fit = absurd fit
fit_into (row ∷ rows) (stamp ∷ stamps) commits fit = ((fit.0, fit.1, fit.2), fit_into rows stamps commits fit.3)

pub fit_count : (rows : List Row) (stamps : List ℕ) (commits : ℕ) → FitStamps rows stamps commits → length stamps ≡ length rows
fit_count [] [] commits fit = refl
fit_count [] (stamp ∷ stamps) commits fit = absurd fit
fit_count (row ∷ rows) [] commits fit = absurd fit
fit_count (row ∷ rows) (stamp ∷ stamps) commits fit = ap suc (fit_count rows stamps commits fit.3)

fit_far : (rows : List Row) (stamps : List ℕ) (commits : ℕ) → FitStamps rows stamps commits → FarRowsZero rows stamps
fit_far [] [] commits fit = tt
fit_far [] (stamp ∷ stamps) commits fit = absurd fit
fit_far (row ∷ rows) [] commits fit = absurd fit
fit_far (row ∷ rows) (stamp ∷ stamps) commits fit =
    ((λ far. let clash : true ≡ false = sym fit.0 ∙ far in absurd cc), fit_far rows stamps commits fit.3)

fit_known : (rows : List Row) (stamps : List ℕ) (commits : ℕ) → FitStamps rows stamps commits
    → AllByRecursion (λ (row : Row). is_known row.1 ≡ true) rows
fit_known [] [] commits fit = tt
fit_known [] (stamp ∷ stamps) commits fit = absurd fit
fit_known (row ∷ rows) [] commits fit = absurd fit
fit_known (row ∷ rows) (stamp ∷ stamps) commits fit = (fit.0, fit_known rows stamps commits fit.3)

-- each has a spelling
pub fit_numbers : (rows : List Row) (stamps : List ℕ) (commits : ℕ) → commits + 1 < 2 ^ 64 → FitStamps rows stamps commits
    → AllByRecursion IsNumber stamps
fit_numbers [] [] commits few fit = tt
fit_numbers [] (stamp ∷ stamps) commits few fit = absurd fit
fit_numbers (row ∷ rows) [] commits few fit = absurd fit
fit_numbers (row ∷ rows) (stamp ∷ stamps) commits few fit =
    (omega (arith, few, fit.2), fit_numbers rows stamps commits few fit.3)

pub fit_are : (rows : List Row) (stamps : List ℕ) (commits : ℕ) → FitStamps rows stamps commits → AreStamps rows stamps
fit_are rows stamps commits fit = record { count = fit_count rows stamps commits fit; far = fit_far rows stamps commits fit }

module _ (t : Nodes) (stamps : List ℕ) (commits : ℕ) (fit : FitStamps (entries t) stamps commits) where
  pub fit_whole : IsWhole t
  fit_whole =
      let known : (p : Path) (node : Node) → get t p ≡ Some node → is_known node ≡ true =
      λ p node is. found_row (λ _ a. is_known a ≡ true) (entries t) (fit_known (entries t) stamps commits fit) p node
      (sym (get-entries t p) ∙ is) in
      record {
        no_far_dir = λ p is. let clash : false ≡ true = known p FarDir is in absurd cc;
        no_far_file = λ p mode is. let clash : false ≡ true = known p (FarFile mode) is in absurd cc;
      }

  fit_at : (p : Path) (a : Node) (n : ℕ) → get (stamps_of (entries t) stamps) p ≡ Some (a, n) → FitAt commits p (a, n)
  fit_at p a n is =
      found_each (FitAt commits) (paired (entries t) stamps) (fit_into (entries t) stamps commits fit) p (a, n)
      (ap (find path_cmp p) (sym (entries_paired t stamps)) ∙ sym (get-entries (stamps_of (entries t) stamps) p) ∙ is)

  pub fit_positive : IsPositive (stamps_of (entries t) stamps)
  fit_positive p a n is = (fit_at p a n is).1

  pub fit_within : UpTo (stamps_of (entries t) stamps) (commits + 1)
  fit_within p a n is = (fit_at p a n is).2

-- the rows and the stamps of a whole tree whose stamps are positive and up to this one
pub stamps_fit : (s : Stamps) (commits : ℕ) → IsWhole (nodes_of s) → IsPositive s → UpTo s (commits + 1)
    → FitStamps (entries (nodes_of s)) (stamps_in_order s) commits
stamps_fit s commits whole positive within =
    subst (λ (rows : List Row). FitStamps rows (stamps_in_order s) commits)
    (sym (entries_of_mapped (λ p (row : Node × ℕ). row.0) s))
    (fit_from (entries s) commits
    (each_found (FitAt commits) (entries s) (is_tested _ (entries_sorted s)) (λ p row found.
    let here = get-entries s p ∙ found in (
      whole_known (nodes_of s) whole p row.0 (node_some s p row.0 row.1 here),
      positive p row.0 row.1 here,
      within p row.0 row.1 here,
    ))))

-- ---- a loop over rows and their stamps

-- the rows and stamps from a place on fit exactly if all do
pub record FitOnWay (rows : List Row) (stamps : List ℕ) (commits i : ℕ) : Type 0 where
  pub rest : FitStamps rows stamps commits → FitStamps (drop i rows) (drop i stamps) commits
  pub whole : FitStamps (drop i rows) (drop i stamps) commits → FitStamps rows stamps commits

module _ (rows : List Row) (stamps : List ℕ) (commits i : ℕ) (way : FitOnWay rows stamps commits i) where
  pub all_fit : length rows ≤ i → length stamps ≤ i → FitStamps rows stamps commits
  all_fit rows_past stamps_past =
      way.whole
      (subst (λ (rs : List Row). FitStamps rs (drop i stamps) commits) (sym (drop_all i rows rows_past))
      (subst (λ (ss : List ℕ). FitStamps [] ss commits) (sym (drop_all i stamps stamps_past)) tt))
