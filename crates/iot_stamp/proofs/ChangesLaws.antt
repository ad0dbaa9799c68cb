-- What a server answers that changed.
use Rattle.std.proofs.Common.{◌≡◌, ℕ, Bool, ◌||◌, cond, IsTrue, List, [], ◌∷◌, map, Some, None, is_some, true, false, length, refl, sym}
use Rattle.std.proofs.Common.{ap, subst, ◌∙◌, Result, Ok, Err, IfOk}
use Rattle.std.proofs.lemmas.List.{length-map}
use Rattle.std.specs.List.{filter_map, cons_option}
use Rattle.std.specs.Ordering.{is_lt}
use Rattle.std.specs.FinMap.{get, entries, entries_sorted, is_sorted, from_sorted, retain_keys, entries-from_sorted, same_entries_map}
use Rattle.std.specs.FinMap.Entries.{below_all}
use Rattle.std.specs.Cmp.{first_so, second_so}
use Rattle.iot_text.specs.Paths.{path_cmp}
use Rattle.iot_prune.proofs.WalkLaws.{Before}
use Rattle.iot_tree.specs.Snapshots.{ArePathsRising}
use Rattle.iot_tree.specs.Tree.{Row, Path}
use Rattle.iot_tree.specs.declared.changes.Changes.{Changes}
use Rattle.iot_tree.specs.declared.nodes.Node.{Node}
use Rattle.iot_tree.specs.declared.want.Want.{Want}
use Rattle.iot_tree.proofs.PlaceLaws.{is_less}
use Rattle.iot_tree.proofs.RowLaws.{is_tested}
use Rattle.iot_stamp.specs.Pairing.{paired, stamps_of}
use Rattle.iot_stamp.specs.Passes.{kept, sending}
use Rattle.iot_stamp.specs.Refresh.{asked, changes_on, is_new, gone_path, gone_paths, changed_rows}
use Rattle.iot_stamp.specs.Stamps.{Entry, Stamps, nodes_of, pruned}
use Rattle.iot_stamp.proofs.MappedLaws.{entries_of_mapped}
use Rattle.iot_stamp.proofs.SendingLaws.{sent_rows}

abbrev pub rows_in : List Entry → List Row
rows_in es = map (λ (e : Entry). (e.0, e.1.0)) es

abbrev pub stamps_in : List Entry → List ℕ
stamps_in es = map (λ (e : Entry). e.1.1) es

paired_back : (es : List Entry) → paired (rows_in es) (stamps_in es) ≡ es
paired_back [] = refl
paired_back (e ∷ es) = ap (λ (rest : List Entry). e ∷ rest) (paired_back es)

pub map_back : (t : Stamps) → from_sorted {R = path_cmp} (entries t) ≡ t
map_back t = same_entries_map _ _ (entries-from_sorted path_cmp (entries t) (entries_sorted t))

-- the rows of a stamped tree, with its stamps
module _ (m : Stamps) (rows : List Row) (stamps : List ℕ) (rows_by : rows ≡ entries (nodes_of m))
    (stamps_by : stamps ≡ stamps_in (entries m)) where
  rows_are : rows ≡ rows_in (entries m)
  rows_are = rows_by ∙ entries_of_mapped (λ p (row : Node × ℕ). row.0) m

  pub count_is : length stamps ≡ length rows
  count_is =
      ap length stamps_by ∙ length-map (entries m) (λ (e : Entry). e.1.1) ∙ sym (length-map (entries m) (λ (e : Entry). (e.0, e.1.0)))
      ∙ ap length (sym rows_are)

  pub paired_is : paired rows stamps ≡ entries m
  paired_is = (λ i. paired (rows_are i) (stamps_by i)) ∙ paired_back (entries m)

  whole_is : stamps_of rows stamps ≡ m
  whole_is = ap from_sorted paired_is ∙ map_back m

  module _ (sent : List (Path × ℕ)) (want : Want) (listed : List Path) where
    rows_answer : (out : List Entry)
        → out ≡ filter_map (sending (stamps_of rows stamps) sent (kept (stamps_of rows stamps) sent want listed)) rows
        → out ≡ changed_rows m sent (kept m sent want listed)
    rows_answer out out_by =
        out_by ∙ (λ i. filter_map (sending (whole_is i) sent (kept (whole_is i) sent want listed)) (rows_by i))
        ∙ sent_rows m sent (kept m sent want listed)

    gone_answer : (gone : List Path) → gone ≡ gone_paths (stamps_of rows stamps) sent (kept (stamps_of rows stamps) sent want listed)
        → gone ≡ gone_paths m sent (kept m sent want listed)
    gone_answer gone gone_by = gone_by ∙ (λ i. gone_paths (whole_is i) sent (kept (whole_is i) sent want listed))

    -- what is answered, whichever way the paths are said that it is cut down to
    pub answer_is : {E : Type 0} (k : Path → Bool) → kept m sent want listed ≡ k → (r : Result Changes E)
        → IfOk r (λ changes. changes.rows
        ≡ filter_map (sending (stamps_of rows stamps) sent (kept (stamps_of rows stamps) sent want listed)) rows)
        → IfOk r (λ changes. changes.gone ≡ gone_paths (stamps_of rows stamps) sent (kept (stamps_of rows stamps) sent want listed))
        → IfOk r (λ changes. changes ≡ changes_on m sent k)
    answer_is k same (Ok changes) rows_are gone_are =
        (λ i. record { rows = rows_answer changes.rows rows_are i; gone = gone_answer changes.gone gone_are i })
        ∙ ap (changes_on m sent) same
    answer_is k same (Err e) rows_are gone_are = rows_are

-- nothing is listed
pub none_listed : (m : Stamps) (sent : List (Path × ℕ)) (want : Want) → kept m sent want [] ≡ asked m sent want
none_listed m sent want = λ i q. or_nothing (asked m sent want q) i
  where
    or_nothing : (b : Bool) → (b || false) ≡ b
    or_nothing true = refl
    or_nothing false = refl

-- ---- the order of what is sent

pub changed_rising : (s : Stamps) (sent : List (Path × ℕ)) (k : Path → Bool) → IsTrue (is_sorted path_cmp (changed_rows s sent k))
changed_rising s sent k = is_tested _ (entries_sorted (retain_keys (pruned s k) (is_new s sent k)))

module _ (t : Stamps) where
  before_gone : (p : Path) (es : List (Path × ℕ)) → IsTrue (below_all path_cmp p es) → Before p (filter_map (gone_path t) es)
  before_gone p [] below = tt
  before_gone p (e ∷ es) below =
      let rest = before_gone p es (second_so (is_lt (path_cmp p e.0)) _ below) in
      elim (is_some (get t e.0)) as (λ b. Before p (cons_option (cond b None (Some e.0)) (filter_map (gone_path t) es))) [
        | true ↦ rest
        | false ↦ (is_less _ (first_so (is_lt (path_cmp p e.0)) _ below), rest)
      ]

  pub gone_rising : (es : List (Path × ℕ)) → IsTrue (is_sorted path_cmp es) → ArePathsRising (filter_map (gone_path t) es)
  gone_rising [] rising = tt
  gone_rising (e ∷ es) rising =
      let rest = gone_rising es (second_so (below_all path_cmp e.0 es) _ rising) in
      elim (is_some (get t e.0)) as (λ b. ArePathsRising (cons_option (cond b None (Some e.0)) (filter_map (gone_path t) es))) [
        | true ↦ rest
        | false ↦ (before_gone e.0 es (first_so (below_all path_cmp e.0 es) _ rising), rest)
      ]

-- what is answered rises
pub answer_rising : {E : Type 0} (s : Stamps) (sent : List (Path × ℕ)) (k : Path → Bool) → IsTrue (is_sorted path_cmp sent)
    → (r : Result Changes E) → IfOk r (λ changes. changes ≡ changes_on s sent k)
    → IfOk r (λ changes. IsTrue (is_sorted path_cmp changes.rows) × ArePathsRising changes.gone)
answer_rising s sent k rising (Ok changes) is =
    subst (λ (all : Changes). IsTrue (is_sorted path_cmp all.rows) × ArePathsRising all.gone) (sym is)
    (changed_rising s sent k, gone_rising (pruned s k) sent rising)
answer_rising s sent k rising (Err e) is = is
