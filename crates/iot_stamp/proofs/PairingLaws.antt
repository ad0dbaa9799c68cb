-- Rows with their stamps beside them.
use Rattle.std.proofs.Common.{◌≡◌, ℕ, zero, Bool, true, false, ◌&&◌, List, [], ◌∷◌, map, cond, length}
use Rattle.std.proofs.Common.{Some, refl, sym, ap, subst, ◌∙◌, arith}
use lib.Dec.{T}
use Rattle.std.specs.Ordering.{is_lt, eq_by_cmp}
use Rattle.std.specs.FinMap.{entries, entries_sorted, find, is_sorted, get-entries}
use Rattle.std.specs.FinMap.{entries-from_sorted, same_entries_map}
use Rattle.std.specs.FinMap.Entries.{below_all}
use Rattle.iot_text.specs.Paths.{path_cmp}
use Rattle.iot_tree.specs.Tree.{Nodes, Row, Path}
use Rattle.iot_tree.specs.declared.nodes.Node.{Node}
use Rattle.iot_stamp.proofs.MappedLaws.{entries_of_mapped}
use Rattle.iot_stamp.specs.Mapped.{mapped_entries}
use Rattle.iot_stamp.specs.Stamps.{Entry, nodes_of, stamp_in, FarZero}
use Rattle.iot_tree.specs.Snapshots.{is_known}
use Rattle.iot_stamp.specs.Pairing.{paired, FarRowsZero, stamps_of}
use Rattle.iot_stamp.proofs.FoundLaws.{never}
use Rattle.iot_stamp.proofs.RefreshLaws.{some_one}

below_paired : (p : Path) (rows : List Row) (stamps : List ℕ) → below_all path_cmp p (paired rows stamps) ≡ below_all path_cmp p rows
below_paired p [] stamps = refl
below_paired p (row ∷ rows) [] = ap (λ (b : Bool). is_lt (path_cmp p row.0) && b) (below_paired p rows [])
below_paired p (row ∷ rows) (stamp ∷ stamps) = ap (λ (b : Bool). is_lt (path_cmp p row.0) && b) (below_paired p rows stamps)

pub sorted_paired : (rows : List Row) (stamps : List ℕ) → is_sorted path_cmp (paired rows stamps) ≡ is_sorted path_cmp rows
sorted_paired [] stamps = refl
sorted_paired (row ∷ rows) [] = λ i. below_paired row.0 rows [] i && sorted_paired rows [] i
sorted_paired (row ∷ rows) (stamp ∷ stamps) = λ i. below_paired row.0 rows stamps i && sorted_paired rows stamps i

rows_paired : (rows : List Row) (stamps : List ℕ) → mapped_entries (λ p (row : Node × ℕ). row.0) (paired rows stamps) ≡ rows
rows_paired [] stamps = refl
rows_paired (row ∷ rows) [] = ap (λ (rest : List Row). row ∷ rest) (rows_paired rows [])
rows_paired (row ∷ rows) (stamp ∷ stamps) = ap (λ (rest : List Row). row ∷ rest) (rows_paired rows stamps)

stamps_paired : (rows : List Row) (stamps : List ℕ) → length stamps ≡ length rows → map (λ (e : Entry). e.1.1) (paired rows stamps) ≡ stamps
stamps_paired [] [] is = refl
stamps_paired [] (stamp ∷ stamps) is = absurd (omega (arith, is))
stamps_paired (row ∷ rows) [] is = absurd (omega (arith, is))
stamps_paired (row ∷ rows) (stamp ∷ stamps) is = ap (λ (rest : List ℕ). stamp ∷ rest) (stamps_paired rows stamps (omega (arith, is)))

module _ (t : Nodes) (stamps : List ℕ) where
  pub entries_paired : entries (stamps_of (entries t) stamps) ≡ paired (entries t) stamps
  entries_paired =
      entries-from_sorted path_cmp (paired (entries t) stamps) (subst T (sym (sorted_paired (entries t) stamps)) (entries_sorted t))

  pub nodes_paired : nodes_of (stamps_of (entries t) stamps) ≡ t
  nodes_paired =
      same_entries_map _ _
      (entries_of_mapped (λ p (row : Node × ℕ). row.0) (stamps_of (entries t) stamps)
      ∙ ap (mapped_entries (λ p (row : Node × ℕ). row.0)) entries_paired ∙ rows_paired (entries t) stamps)

  pub list_paired : length stamps ≡ length (entries t) → map (λ (e : Entry). e.1.1) (entries (stamps_of (entries t) stamps)) ≡ stamps
  list_paired is = ap (map (λ (e : Entry). e.1.1)) entries_paired ∙ stamps_paired (entries t) stamps is

far_found : (p : Path) (rows : List Row) (stamps : List ℕ) (a : Node) (n : ℕ) → FarRowsZero rows stamps
    → find path_cmp p (paired rows stamps) ≡ Some (a, n) → is_known a ≡ false → n ≡ 0
far_found p [] stamps a n far found unknown = absurd (never (a, n) found)
far_found p (row ∷ rows) [] a n far found unknown = by (far_found p rows [] a n far) (eq_by_cmp path_cmp p row.0) found
  where
    by : (find path_cmp p (paired rows []) ≡ Some (a, n) → is_known a ≡ false → n ≡ 0) → (b : Bool)
        → cond b (Some (row.1, zero)) (find path_cmp p (paired rows [])) ≡ Some (a, n) → n ≡ 0
    by later true is = ap stamp_in (sym is)
    by later false is = later is unknown
far_found p (row ∷ rows) (stamp ∷ stamps) a n far found unknown = by (far_found p rows stamps a n far.1) (eq_by_cmp path_cmp p row.0) found
  where
    by : (find path_cmp p (paired rows stamps) ≡ Some (a, n) → is_known a ≡ false → n ≡ 0) → (b : Bool)
        → cond b (Some (row.1, stamp)) (find path_cmp p (paired rows stamps)) ≡ Some (a, n) → n ≡ 0
    by later true is =
        let both : (row.1, stamp) ≡ (a, n) = some_one (row.1, stamp) (a, n) is in
        ap (λ (r : Node × ℕ). r.1) (sym both) ∙ far.0 (ap (λ (r : Node × ℕ). is_known r.0) both ∙ unknown)
    by later false is = later is unknown

pub far_paired : (t : Nodes) (stamps : List ℕ) → FarRowsZero (entries t) stamps → FarZero (stamps_of (entries t) stamps)
far_paired t stamps far p a n found unknown =
    far_found p (entries t) stamps a n far
    (ap (find path_cmp p) (sym (entries_paired t stamps)) ∙ sym (get-entries (stamps_of (entries t) stamps) p) ∙ found) unknown
