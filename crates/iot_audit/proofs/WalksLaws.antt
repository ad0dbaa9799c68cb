-- Labels that are run to the end: their entries, and what these print beside the records.
use Rattle.std.proofs.Common.{◌≡◌, ◌∙◌, ◌+◌, ◌≤◌, ℕ, suc, Bool, true, false, refl, sym, ap, subst, arith, List, [], ◌∷◌, ◌++◌, map, length, drop}
use Rattle.std.proofs.Common.{Option, Some, None, length-append}
use Rattle.std.specs.Cmp.Lexicographic.{bytes_decides, pointwise_decides}
use Rattle.std.specs.Prelude.{nat_le, slice_get, if◌then◌else◌}
use Rattle.std.proofs.lemmas.Bool.Decides.{nat_tests}
use Rattle.iot_audit.specs.Audits.{AreEntriesOf, Reached, agrees, are_same, entry_of, if_agrees}
use Rattle.iot_audit.specs.Audits.{records_after, said, told, walked, walked_in, with_script}
use Rattle.iot_audit.specs.Scripts.{AreScriptsOf, code_named}
use Rattle.iot_audit.specs.declared.scripts.Scripts.{Scripts}
use Rattle.iot_event.specs.declared.event.Event.{Event}
use Rattle.iot_exec.specs.Serial.{Entry, run_entry, serial_from, tree_from}
use Rattle.iot_lang.specs.Code.{Code}
use Rattle.iot_store.specs.declared.image.Image.{Image}
use Rattle.iot_tree.specs.Tree.{Nodes}
use Rattle.iot_tree.specs.declared.labels.Label.{Label}
use Rattle.iot_tree.specs.declared.labels.Way.{Way}

abbrev pub Lines : Type 0
Lines = List (List ℕ)

abbrev pub Row : Type 0
Row = Label × Option Lines

-- the records agree with what is printed
abbrev pub Agree : List Row → List Lines → Type 0
Agree [] [] = Unit {0}
Agree (row ∷ rows) (lines ∷ more) = (agrees row.1 lines ≡ true) × Agree rows more
Agree rows lines = ⊥

abbrev pub labels_in : List Row → List Label
labels_in rows = map (λ (row : Row). row.0) rows

-- the entries of labels that were run to this tree
pub record Served (events : List Event) (rows : List Row) (t u : Nodes) : Type 0 where
  pub entries : List (Entry Way)
  pub made : AreEntriesOf events (labels_in rows) entries
  pub tree : tree_from entries t ≡ u
  pub agree : Agree rows (map said (serial_from entries t))

module _ (events : List Event) where
  -- what is run behind a label, whichever its script
  abbrev Behind : Row → List Row → (number : ℕ) (t u : Nodes) → Type 0
  Behind row rows number t u =
      (code : Code) → walked events rows (number + 1) (run_entry (entry_of code row.0) t).tree ≡ Reached u
      → Served events rows (run_entry (entry_of code row.0) t).tree u

  module _ (row : Row) (rows : List Row) (number : ℕ) (t u : Nodes) (behind : Behind row rows number t u) where
    by_record : (code : Code) → code_named row.0.script events ≡ Some code → (same : Bool)
        → agrees row.1 (said (run_entry (entry_of code row.0) t)) ≡ same
        → if_agrees same number (walked events rows (number + 1) (run_entry (entry_of code row.0) t).tree) ≡ Reached u
        → Served events (row ∷ rows) t u
    by_record code named true same is =
        let more = behind code is in
        record {
          entries = entry_of code row.0 ∷ more.entries;
          made = ((code, named, refl), more.made);
          tree = more.tree;
          agree = (same, more.agree);
        }
    by_record code named false same is = absurd cc

    by_script : (found : Option Code) → code_named row.0.script events ≡ found
        → with_script found number
        (λ code. if_agrees (agrees row.1 (said (run_entry (entry_of code row.0) t))) number
        (walked events rows (number + 1) (run_entry (entry_of code row.0) t).tree)) ≡ Reached u
        → Served events (row ∷ rows) t u
    by_script None named is = absurd cc
    by_script (Some code) named is = by_record code named (agrees row.1 (said (run_entry (entry_of code row.0) t))) refl is

  pub walked_served : (rows : List Row) (number : ℕ) (t u : Nodes) → walked events rows number t ≡ Reached u → Served events rows t u
  walked_served [] number t u is = let same : t ≡ u = cc in record { entries = []; made = tt; tree = same; agree = tt }
  walked_served (row ∷ rows) number t u is =
      by_script row rows number t u (λ code. walked_served rows (number + 1) (run_entry (entry_of code row.0) t).tree u)
      (code_named row.0.script events) refl is

  pub served_walked : (rows : List Row) (entries : List (Entry Way)) (number : ℕ) (t : Nodes) → AreEntriesOf events (labels_in rows) entries
      → Agree rows (map said (serial_from entries t)) → walked events rows number t ≡ Reached (tree_from entries t)
  served_walked [] [] number t made agree = refl
  served_walked [] (entry ∷ entries) number t made agree = absurd made
  served_walked (row ∷ rows) [] number t made agree = absurd made
  served_walked (row ∷ rows) (entry ∷ entries) number t made agree =
      let code = made.0.0 in
      let is : entry ≡ entry_of code row.0 = made.0.2 in
      let same : agrees row.1 (said (run_entry (entry_of code row.0) t)) ≡ true =
      subst (λ (e : Entry Way). agrees row.1 (said (run_entry e t)) ≡ true) is agree.0 in
      rw (made.0.1, same) (
      ap (λ (e : Entry Way). walked events rows (number + 1) (run_entry e t).tree) (sym is)
      ∙ served_walked rows entries (number + 1) (run_entry entry t).tree made.1 agree.1
      )

-- ---- the labels with their records

pub labels_told : (labels : List Label) (recorded : List Lines) → labels_in (told labels recorded) ≡ labels
labels_told [] recorded = refl
labels_told (label ∷ labels) recorded = ap (λ (l : List Label). label ∷ l) (labels_told labels (records_after recorded (length labels)))

-- lines begin with others, and end with the records
pub record EndsWith (lines recorded : List Lines) : Type 0 where
  pub early : List Lines
  pub split : lines ≡ early ++ recorded

is_few : (n m : ℕ) → nat_le n m ≡ true → n ≤ m
is_few n m is = grind (arith, nat_tests)

is_many : (n m : ℕ) → nat_le n m ≡ false → m + 1 ≤ n
is_many n m is = grind (arith, nat_tests)

no_more : (n : ℕ) → n + 1 ≤ 0 → ⊥
no_more n few = omega (arith, few)

-- lines after which there are no more than these
nothing_early : (early recorded : List Lines) (n : ℕ) → n ≡ length (early ++ recorded) → n ≤ length recorded → early ≡ []
nothing_early [] recorded n count few = refl
nothing_early (lines ∷ early) recorded n count few =
    absurd (no_more (length early) (omega (arith, count, few, length-append early recorded)))

same_lines : (lines others : Lines) → are_same lines others ≡ true → lines ≡ others
same_lines lines others same = (pointwise_decides bytes_decides lines others).0 same

same_again : (lines : Lines) → are_same lines lines ≡ true
same_again lines = (pointwise_decides bytes_decides lines lines).1 refl

agree_count : (rows : List Row) (lines : List Lines) → Agree rows lines → length lines ≡ length rows
agree_count [] [] agree = refl
agree_count [] (first ∷ more) agree = absurd agree
agree_count (row ∷ rows) [] agree = absurd agree
agree_count (row ∷ rows) (first ∷ more) agree = ap suc (agree_count rows more agree.1)

told_count : (labels : List Label) (recorded : List Lines) → length (told labels recorded) ≡ length labels
told_count [] recorded = refl
told_count (label ∷ labels) recorded = ap suc (told_count labels (records_after recorded (length labels)))

-- lines of a label, and of those behind it, of which this is known
module _ (label : Label) (labels : List Label) (lines : Lines) (more : List Lines)
    (behind : (recorded : List Lines) → length recorded ≤ length labels → Agree (told labels recorded) more → EndsWith more recorded) where
  -- the first record is the label's
  at_first : (recorded : List Lines) → nat_le (length recorded) (length labels) ≡ false → length recorded ≤ suc (length labels)
      → Agree (told (label ∷ labels) recorded) (lines ∷ more) → EndsWith (lines ∷ more) recorded
  at_first [] many few agree = absurd (no_more (length labels) (is_many 0 (length labels) many))
  at_first (first ∷ recorded) many few agree =
      let one : are_same first lines ≡ true =
      subst (λ (b : Bool). agrees (if b then None else slice_get (first ∷ recorded) 0) lines ≡ true) many agree.0 in
      let rest : Agree (told labels recorded) more =
      subst (λ (b : Bool). Agree (told labels (if b then first ∷ recorded else drop 1 (first ∷ recorded))) more) many agree.1 in
      let ends = behind recorded (omega (arith, few)) rest in
      let count : length labels ≡ length (ends.early ++ recorded) =
      sym (told_count labels recorded) ∙ sym (agree_count (told labels recorded) more rest) ∙ ap length ends.split in
      let none : ends.early ≡ [] =
      nothing_early ends.early recorded (length labels) count (omega (arith, is_many (suc (length recorded)) (length labels) many)) in
      record {
        early = [];
        split = (λ i. sym (same_lines first lines one) i ∷ (ends.split ∙ ap (λ (e : List Lines). e ++ recorded) none) i);
      }

  ends_by : (recorded : List Lines) → length recorded ≤ suc (length labels) → Agree (told (label ∷ labels) recorded) (lines ∷ more)
      → (less : Bool) → nat_le (length recorded) (length labels) ≡ less → EndsWith (lines ∷ more) recorded
  ends_by recorded few agree true is =
      let rest : Agree (told labels recorded) more =
      subst (λ (b : Bool). Agree (told labels (if b then recorded else drop 1 recorded)) more) is agree.1 in
      let ends = behind recorded (is_few (length recorded) (length labels) is) rest in
      record { early = lines ∷ ends.early; split = ap (λ (l : List Lines). lines ∷ l) ends.split }
  ends_by recorded few agree false is = at_first recorded is few agree

-- what agrees with the records ends with them
pub agree_ends : (labels : List Label) (recorded lines : List Lines) → length recorded ≤ length labels
    → Agree (told labels recorded) lines → EndsWith lines recorded
agree_ends [] [] [] few agree = record { early = []; split = refl }
agree_ends [] [] (first ∷ more) few agree = absurd agree
agree_ends [] (first ∷ recorded) lines few agree = absurd (no_more (length recorded) (omega (arith, few)))
agree_ends (label ∷ labels) recorded [] few agree = absurd agree
agree_ends (label ∷ labels) recorded (lines ∷ more) few agree =
    ends_by label labels lines more (λ later. agree_ends labels later more) recorded few agree
    (nat_le (length recorded) (length labels)) refl

fewer : (n m : ℕ) → n ≤ m → nat_le n m ≡ true
fewer n m few = grind (arith, nat_tests)

one_more : (n m : ℕ) → m + 1 ≤ n → nat_le n m ≡ false
one_more n m many = grind (arith, nat_tests)

-- and what ends with the records agrees with them
pub ends_agree : (labels : List Label) (early recorded : List Lines) → length (early ++ recorded) ≡ length labels
    → Agree (told labels recorded) (early ++ recorded)
ends_agree [] [] [] count = tt
ends_agree [] [] (first ∷ recorded) count = absurd (no_more (length recorded) (omega (arith, count)))
ends_agree [] (lines ∷ early) recorded count = absurd (no_more (length (early ++ recorded)) (omega (arith, count)))
ends_agree (label ∷ labels) [] [] count = absurd (no_more (length labels) (omega (arith, count)))
ends_agree (label ∷ labels) [] (first ∷ recorded) count =
    rw (one_more (suc (length recorded)) (length labels) (omega (arith, count)))
    (same_again first, ends_agree labels [] recorded (omega (arith, count)))
ends_agree (label ∷ labels) (lines ∷ early) recorded count =
    rw (fewer (length recorded) (length labels) (omega (arith, count, length-append early recorded)))
    (refl, ends_agree labels early recorded (omega (arith, count)))

-- the labels up to this place were run, to this tree: these records are left, and so many labels; so many were before
pub record ServedSo (scripts : Scripts) (image : Image) (i : ℕ) (records : List Lines) (number later : ℕ) (tree : Nodes) : Type 0 where
  pub walk : (events : List Event) → AreScriptsOf events scripts
      → walked_in events image ≡ walked events (told (drop i image.labels) records) (number + 1) tree
  pub number_is : number ≡ i
  pub later_is : later + i ≡ length image.labels
