-- The outcome of a merge.
use Rattle.iot_stamp.proofs.StampsLaws.{nodes_with}
use Rattle.iot_tree.proofs.PruneLaws.{pruned_tree}
use Rattle.std.proofs.Common.{not, ◌||◌, ◌≡◌, ℕ, Bool, true, false, cond, IsTrue, List, [], ◌∷◌, map, Option, Some, None}
use Rattle.std.proofs.Common.{option_map}
use Rattle.std.proofs.Common.{refl, sym, ap, subst, ◌∙◌}
use Rattle.std.specs.FinMap.{get, same_map, entries, entries_sorted, from_sorted, is_sorted, entries-from_sorted}
use Rattle.std.specs.FinMap.{same_entries_map}
use Rattle.std.proofs.lemmas.List.{length-map}
use Rattle.iot_text.specs.Paths.{path_cmp, parent_of}
use Rattle.iot_text.proofs.PathsLaws.{path_total, path_same}
use Rattle.iot_tree.specs.Tree.{IsTree, Row, Path}
use Rattle.iot_tree.specs.Rows.{IsFirstBadRow}
use Rattle.iot_tree.specs.declared.nodes.Node.{Node}
use Rattle.iot_stamp.proofs.MappedLaws.{entries_of_mapped, get_mapped, sorted_mapped}
use Rattle.iot_stamp.specs.Mapped.{mapped, mapped_entries}
use Rattle.iot_stamp.specs.Stamps.{Entry, Stamps, nodes_of, FarZero, pruned, stamp_at}
use Rattle.iot_tree.proofs.RowLaws.{tested, is_tested}
use Rattle.iot_tree.specs.Snapshots.{is_known, prune}
use Rattle.iot_stamp.specs.Agreement.{IsCutTo, IsRefresh}
use Rattle.iot_stamp.proofs.CutsLaws.{refresh_cut}
use Rattle.iot_tree.specs.declared.want.Want.{Want}
use Rattle.iot_stamp.proofs.RefreshLaws.{merge_is_pruned}
use Rattle.iot_stamp.specs.Refresh.{known_with_stamps, asked, zeroed, joined, merged, has_row, stays}
use Rattle.iot_stamp.specs.Pairing.{paired, FarRowsZero, AreStamps}
use Rattle.iot_held.specs.Weave.{woven}
use Rattle.iot_held.proofs.FrontLaws.{take_tree}
use Rattle.iot_stamp.proofs.ChangesLaws.{rows_in, stamps_in, paired_is, map_back}
use Rattle.iot_held.proofs.WeaveLaws.{joined_woven}

-- if there is a first bad row, there is no tree
pub bad_no_tree : (rows : List Row) (at : ℕ) → IsTrue (is_sorted path_cmp rows) → IsFirstBadRow rows at → IsTree (from_sorted rows) → ⊥
bad_no_tree rows at rising bad tree = bad.bad (take_tree rows (record { rising = rising; tree = tree }) at)

-- the stamps, with 0 for each far row
abbrev pub zeroed_in : List Entry → List ℕ
zeroed_in es = map (λ (e : Entry). cond (is_known e.1.0) e.1.1 0) es

pub paired_zeroed : (es : List Entry) → paired (rows_in es) (zeroed_in es) ≡ mapped_entries zeroed es
paired_zeroed [] = refl
paired_zeroed (e ∷ es) = ap (λ (rest : List Entry). (e.0, zeroed e.0 e.1) ∷ rest) (paired_zeroed es)

far_rows : (es : List Entry) → FarRowsZero (rows_in es) (zeroed_in es)
far_rows [] = tt
far_rows (e ∷ es) = (λ far. ap (λ b. cond b e.1.1 0) far, far_rows es)

pub are_stamps : (es : List Entry) → AreStamps (rows_in es) (zeroed_in es)
are_stamps es = record {
  count = length-map es (λ (e : Entry). cond (is_known e.1.0) e.1.1 0) ∙ sym (length-map es (λ (e : Entry). (e.0, e.1.0)));
  far = far_rows es;
}

pub rows_rise_in : (es : List Entry) → IsTrue (is_sorted path_cmp es) → IsTrue (is_sorted path_cmp (rows_in es))
rows_rise_in es rising = sorted_mapped (λ p (row : Node × ℕ). row.0) es ∙ rising

-- the stamped tree of entries in order, with 0 at each far row
zeroed_entries : (es : List Entry) → IsTrue (is_sorted path_cmp es) → entries (mapped zeroed (from_sorted es)) ≡ mapped_entries zeroed es
zeroed_entries es rising =
    entries_of_mapped zeroed (from_sorted es) ∙ ap (mapped_entries zeroed) (entries-from_sorted path_cmp es (tested _ rising))

pub nodes_sorted : (es : List Entry) → IsTrue (is_sorted path_cmp es)
    → nodes_of (mapped zeroed (from_sorted es)) ≡ from_sorted (rows_in es)
nodes_sorted es rising = same_entries_map _ _ (
    entries_of_mapped (λ p (row : Node × ℕ). row.0) (mapped zeroed (from_sorted es))
    ∙ ap (mapped_entries (λ p (row : Node × ℕ). row.0)) (zeroed_entries es rising) ∙ nodes_stay es
    ∙ sym (entries-from_sorted path_cmp (rows_in es) (tested _ (rows_rise_in es rising))))
  where
    nodes_stay : (es : List Entry) → mapped_entries (λ p (row : Node × ℕ). row.0) (mapped_entries zeroed es) ≡ rows_in es
    nodes_stay [] = refl
    nodes_stay (e ∷ es) = ap (λ (rest : List Row). (e.0, e.1.0) ∷ rest) (nodes_stay es)

pub map_of_entries : (t : Stamps) (es : List Entry) → IsTrue (is_sorted path_cmp es)
    → entries t ≡ mapped_entries zeroed es → t ≡ mapped zeroed (from_sorted es)
map_of_entries t es rising is = same_entries_map _ _ (is ∙ sym (zeroed_entries es rising))

-- ---- the merge

module _ (m : Stamps) (held : List Row) (stamps : List ℕ) (held_by : held ≡ entries (nodes_of m))
    (stamps_by : stamps ≡ stamps_in (entries m)) where
  module _ (rows : List Entry) (gone : List Path) (out : List Entry) (rising : IsTrue (is_sorted path_cmp rows))
      (out_by : out ≡ woven (stays rows gone) (paired held stamps) rows) where
    out_is : out ≡ entries (joined m rows gone)
    out_is = out_by ∙ ap (λ (hs : List Entry). woven (stays rows gone) hs rows) (paired_is m held stamps held_by stamps_by)
        ∙ joined_woven m rows gone rising

    pub out_rising : IsTrue (is_sorted path_cmp out)
    out_rising =
        subst (λ (es : List Entry). IsTrue (is_sorted path_cmp es)) (sym out_is) (is_tested _ (entries_sorted (joined m rows gone)))

    pub out_map : mapped zeroed (from_sorted out) ≡ merged m rows gone
    out_map = ap (mapped zeroed) (ap from_sorted out_is ∙ map_back (joined m rows gone))

-- ---- nothing new

stays_all : (row : Entry) → stays [] [] row ≡ true
stays_all row = by (is_known row.1.0) (parent_of row.0)
  where
    by : (known : Bool) (parent : Option Path) → (known || not (has_row [] parent)) ≡ true
    by true parent = refl
    by false None = refl
    by false (Some parent) = refl

woven_alone : (es : List Entry) → woven (stays [] []) es [] ≡ es
woven_alone [] = refl
woven_alone (e ∷ es) = rw (stays_all e) (ap (λ (rest : List Entry). e ∷ rest) (woven_alone es))

zeroed_stays : (t : Stamps) → FarZero t → mapped zeroed t ≡ t
zeroed_stays t far = same_map path_total path_same _ _ (λ p. get_mapped zeroed t p ∙ by p (get t p) refl)
  where
    at : (a : Node) (n : ℕ) (b : Bool) → is_known a ≡ b → (b ≡ false → n ≡ 0) → ◌≡◌ {A = ℕ} (cond b n 0) n
    at a n true is zero = refl
    at a n false is zero = sym (zero refl)

    by : (p : Path) (row : Option (Node × ℕ)) → get t p ≡ row → option_map (zeroed p) row ≡ row
    by p None is = refl
    by p (Some (a, n)) is =
        ap (λ (stamp : ℕ). Some (a, stamp)) (at a n (is_known a) refl (far p a n is))

-- a merge of nothing changes nothing
pub merged_nothing : (t : Stamps) → FarZero t → merged t [] [] ≡ t
merged_nothing t far =
    ap (mapped zeroed) (same_entries_map _ _ (sym (joined_woven t [] [] cc) ∙ woven_alone (entries t))) ∙ zeroed_stays t far

-- ---- the merge of what cuts a tree down

module _ (held s : Stamps) (k : Path → Bool) (rows : List Entry) (gone : List Path) (tree : IsTree (nodes_of held)) (far : FarZero held)
    (is : IsCutTo held s k rows gone) where
  -- it is the pruned tree
  pub cut_is : merged held rows gone ≡ pruned s k
  cut_is =
      (λ i. merged held (is.rows_are i) (is.gone_are i)) ∙ merge_is_pruned held s k tree far is.tree is.whole is.knows is.agrees

  -- which is a tree
  pub cut_tree : IsTree (nodes_of (merged held rows gone))
  cut_tree =
      subst (λ (t : Stamps). IsTree (nodes_of t)) (sym cut_is)
      (subst IsTree (sym (nodes_with (stamp_at s) (prune (nodes_of s) k))) (pruned_tree (nodes_of s) k is.tree))

-- the same of a refresh
pub refresh_is : (held s : Stamps) (want : Want) (rows : List Entry) (gone : List Path) → IsTree (nodes_of held) → FarZero held
    → IsRefresh held s want rows gone → merged held rows gone ≡ pruned s (asked s (known_with_stamps held) want)
refresh_is held s want rows gone tree far is =
    cut_is held s (asked s (known_with_stamps held) want) rows gone tree far (refresh_cut held s want rows gone is)

pub refresh_tree : (held s : Stamps) (want : Want) (rows : List Entry) (gone : List Path) → IsTree (nodes_of held) → FarZero held
    → IsRefresh held s want rows gone → IsTree (nodes_of (merged held rows gone))
refresh_tree held s want rows gone tree far is =
    cut_tree held s (asked s (known_with_stamps held) want) rows gone tree far (refresh_cut held s want rows gone is)
