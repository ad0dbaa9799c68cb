-- An image that stands for a list of commits whose scripts are declared is run to its tree.
use Rattle.std.proofs.Common.{◌≡◌, ◌∙◌, ◌<◌, ◌^◌, ℕ, zero, suc, Bool, true, false, cond, refl, sym, ap, subst, arith, List, [], ◌∷◌, ◌++◌}
use Rattle.std.proofs.Common.{map, length, get_or, Some}
use Rattle.std.proofs.lemmas.List.{length-map, map-append}
use Rattle.std.proofs.lemmas.Option.{none-some, same_Some}
use Rattle.std.proofs.lemmas.Nat.{be_bytes_8}
use Rattle.std.specs.Ordering.{eq_by_cmp}
use Rattle.std.specs.FinMap.{entries, find, get-entries, same_map, get-from_entries}
use Rattle.std.specs.List.{AllByRecursion, flat_map, zip}
use Rattle.std.specs.Int.{w64, byte_at, bytes_high_first, from_be_bytes, to_be_bytes}
use Rattle.iot_access.proofs.AccessLaws.{as_many_places}
use Rattle.iot_access.specs.Access.{access_of}
use Rattle.iot_audit.specs.Audits.{AreEntriesOf, DeclareAll, Reached, StandsForList, said, walked_in}
use Rattle.iot_audit.specs.Scripts.{code_named}
use Rattle.iot_audit.proofs.AuditedLaws.{IsRead, audited_here}
use Rattle.iot_audit.proofs.WalksLaws.{Lines}
use Rattle.iot_codec.specs.Spelling.{access_spelling, base_spelling, label_spelling, lines_spelling, number_spelling, read_spelling}
use Rattle.iot_codec.specs.Spelling.{updates_spelling}
use Rattle.iot_event.specs.declared.event.Event.{Event}
use Rattle.iot_exec.specs.Commands.{Kept, kept_files}
use Rattle.iot_exec.specs.Serial.{Entry, run_entry, serial, serial_from, tree_from}
use Rattle.iot_exec.specs.declared.ran.Ran.{Ran}
use Rattle.iot_judging.proofs.RunTreesLaws.{list_spelled}
use Rattle.iot_judging.specs.Entries.{IsSpelledEntry}
use Rattle.iot_lang.specs.Code.{Code}
use Rattle.iot_lang.specs.Scripts.{IsScript}
use Rattle.iot_limits.proofs.AccessLaws.{asked_spelled, lines_spelled, updates_spelled}
use Rattle.iot_limits.proofs.SpelledLaws.{run_is_spelled}
use Rattle.iot_limits.specs.Spelled.{AreSpelledFiles, IsSpelledTree, SpelledRun}
use Rattle.iot_machine.specs.Machine.{Commit, entries_of, tree_after}
use Rattle.iot_judging.specs.Lists.{state_of}
use Rattle.iot_judging.specs.Records.{HasList, records_from}
use Rattle.iot_machine.specs.Recorded.{label_of}
use Rattle.iot_slots.proofs.WithinLaws.{AreWithin, IsWithin, decoded_within}
use Rattle.iot_slots.specs.Decoding.{Decoded, Encodes, NotStarted, Foreign, Damaged, decoded}
use Rattle.iot_slots.specs.declared.version.Version.{Version}
use Rattle.iot_slots.specs.declared.version.Version.TheVariants.{Two}
use Rattle.iot_store.proofs.RecordsLaws.{record_alone, record_new}
use Rattle.iot_store.specs.Images.{HaveLines, HasRecorded}
use Rattle.iot_store.specs.Records.{IsRecordIn, record_spelling}
use Rattle.iot_store.specs.Rules.{header}
use Rattle.iot_store.specs.declared.commit.Commit as stored
use Rattle.iot_store.specs.declared.image.Image.{Image}
use Rattle.iot_text.proofs.PathsLaws.{path_same, path_total}
use Rattle.iot_text.specs.Paths.{path_cmp}
use Rattle.iot_tree.specs.Tree.{Nodes, Path, root_alone}
use Rattle.iot_tree.specs.declared.access.Access.{Access}
use Rattle.iot_tree.specs.declared.acts.Read.{Read}
use Rattle.iot_tree.specs.declared.labels.Label.{Label}
use Rattle.iot_tree.specs.declared.labels.Way.{Way}
use Rattle.iot_tree.specs.declared.nodes.Node.TheVariants.{Dir}
use Rattle.iot_text.specs.Paths.{IsPath}
use Rattle.iot_views.specs.Rules.{AreFiles, IsContents, IsLabel, IsNumber}
use Rattle.iot_wire.specs.Spelling.{request_spelling}

-- ---- kept files

abbrev OneFile : Type 0
OneFile = Path × List ℕ

-- the map of its entries is the map itself
kept_again : (kept : Kept) → kept_files (entries kept) ≡ kept
kept_again kept =
    same_map path_total path_same (kept_files (entries kept)) kept
    (λ q. get-from_entries path_total (entries kept) q ∙ sym (get-entries kept q))

found_good : (files : List OneFile) → AllByRecursion (λ (file : OneFile). IsPath file.0 × IsContents file.1) files
    → (p : Path) (bytes : List ℕ) → find path_cmp p files ≡ Some bytes → IsContents bytes
found_good [] good p bytes is = absurd (none-some bytes is)
found_good (file ∷ files) good p bytes is = by (eq_by_cmp path_cmp p file.0) is (found_good files good.1 p bytes)
  where
    by : (b : Bool) → cond b (Some file.1) (find path_cmp p files) ≡ Some bytes
        → (find path_cmp p files ≡ Some bytes → IsContents bytes) → IsContents bytes
    by true is rest = subst IsContents (same_Some _ _ is) good.0.1
    by false is rest = rest is

-- kept files of a label that has a spelling have one too
kept_spelled : (kept : Kept) → AreFiles (entries kept) → AreSpelledFiles kept
kept_spelled kept are = record {
  each = λ p bytes is. found_good (entries kept) are.each p bytes (sym (get-entries kept p) ∙ is);
}

-- ---- the record of a run

-- the number that its spelling spells: the number itself, if it has a spelling
spelled_number : ℕ → ℕ
spelled_number n = from_be_bytes w64 (number_spelling n)

byte_small : (k n : ℕ) → byte_at k n < 256
byte_small zero n = omega arith
byte_small (suc k) n = omega arith

all_small : (k n : ℕ) → AllByRecursion (λ (digit : ℕ). digit < 256) (bytes_high_first k n)
all_small zero n = tt
all_small (suc k) n = (byte_small k n, all_small k n)

each_small : (digits : List ℕ) → AllByRecursion (λ (digit : ℕ). digit < 256) digits → (i : ℕ) → get_or digits i 0 < 256
each_small [] all i = omega arith
each_small (digit ∷ digits) all zero = all.0
each_small (digit ∷ digits) all (suc i) = each_small digits all.1 i

spelling_small : (n i : ℕ) → get_or (to_be_bytes w64 n) i 0 < 256
spelling_small n = each_small (to_be_bytes w64 n) (all_small 8 n)

below_limit : (digits : List ℕ) → ((i : ℕ) → get_or digits i 0 < 256) → from_be_bytes w64 digits < 2 ^ 64
below_limit digits small = omega (arith, small 0, small 1, small 2, small 3, small 4, small 5, small 6, small 7)

number_again : (n : ℕ) → number_spelling (spelled_number n) ≡ number_spelling n
unfolding number_spelling spelled_number
number_again n = be_bytes_8 (to_be_bytes w64 n) (from_be_bytes w64 (to_be_bytes w64 n)) refl (spelling_small n) refl

number_fits : (n : ℕ) → spelled_number n < 2 ^ 64
unfolding number_spelling spelled_number
number_fits n = below_limit (to_be_bytes w64 n) (spelling_small n)

all_fit : (places : List ℕ) → AllByRecursion IsNumber (map spelled_number places)
all_fit [] = tt
all_fit (place ∷ places) = (number_fits place, all_fit places)

-- base reads with such places are spelled in the same way
same_bases : (reads : List Read) (places : List ℕ)
    → flat_map base_spelling (zip reads (map spelled_number places)) ≡ flat_map base_spelling (zip reads places)
same_bases [] places = refl
same_bases (read ∷ reads) [] = refl
same_bases (read ∷ reads) (place ∷ places) =
    ap (λ (number : List ℕ). (read_spelling read ++ number) ++ flat_map base_spelling (zip reads (map spelled_number places)))
    (number_again place)
    ∙ ap (λ (more : List ℕ). base_spelling (read, place) ++ more) (same_bases reads places)

zip_count : (reads : List Read) (places : List ℕ) → length (zip reads (map spelled_number places)) ≡ length (zip reads places)
zip_count [] places = refl
zip_count (read ∷ reads) [] = refl
zip_count (read ∷ reads) (place ∷ places) = ap suc (zip_count reads places)

-- an access, with the places that are spelled
abbrev spelled_access : Access → Access
spelled_access access = record access { places = map spelled_number access.places }

same_spelling : (label : Label) (access : Access) (lines : Lines)
    → record_spelling label (spelled_access access) lines ≡ record_spelling label access lines
unfolding request_spelling access_spelling
same_spelling label access lines =
    ap (λ (bases : List ℕ). 2 ∷ (label_spelling label ++ ((bases ++ updates_spelling access.updates) ++ lines_spelling lines)))
    (λ i. number_spelling (zip_count access.reads access.places i) ++ same_bases access.reads access.places i)

-- a body that is spelled as the record of a run on a tree, and is a record, is that of the same lines
module _ (commit : Commit) (t : Nodes) (label : IsLabel (label_of commit)) (script : IsScript commit.entry.script) (spelled : IsSpelledTree t)
  where
    abbrev pub here_run : Ran
    here_run = run_entry commit.entry t

    its_run : SpelledRun here_run
    its_run =
        run_is_spelled commit.entry.script commit.entry.kept t commit.entry.budget script (kept_spelled commit.entry.kept label.kept) spelled

    pub after_run : IsSpelledTree here_run.tree
    after_run = its_run.tree

    -- the commit whose record that is
    abbrev its_commit : stored.Commit
    its_commit = record {
      label = label_of commit;
      access = spelled_access (access_of here_run.acts t);
      lines = said here_run;
    }

    spelled_record : IsRecordIn Two (record_spelling (label_of commit) (access_of here_run.acts t) (said here_run)) its_commit
    spelled_record = record {
      value = (
        label,
        (
          record {
            bases = record {
              even = length-map (access_of here_run.acts t).places spelled_number ∙ as_many_places here_run.acts t;
              reads = asked_spelled here_run.acts t its_run.acts spelled;
              places = all_fit (access_of here_run.acts t).places;
            };
            updates = updates_spelled here_run.acts its_run.acts;
          },
          lines_spelled here_run.acts its_run.acts,
        ),
      );
      spelled = same_spelling (label_of commit) (access_of here_run.acts t) (said here_run);
    }

    pub record_says : (version : Version) (body : List ℕ) (found : stored.Commit) → length body < 2 ^ 64 → IsRecordIn version body found
        → body ≡ record_spelling (label_of commit) (access_of here_run.acts t) (said here_run) → found.lines ≡ said here_run
    record_says version body found short is spelling =
        ap (λ (c : stored.Commit). c.lines)
        (record_alone Two body found its_commit short (record_new version body found is)
        (subst (λ (b : List ℕ). IsRecordIn Two b its_commit) (sym spelling) spelled_record))

-- ---- lists of commits

-- each of these commits has a spelling
abbrev AreSpelled : List Commit → Type 0
AreSpelled commits = AllByRecursion (λ (commit : Commit). IsLabel (label_of commit) × IsScript commit.entry.script) commits

records_say : (version : Version) (n : ℕ) (commits : List Commit) (t : Nodes) (bodies : List (List ℕ)) (recorded : List Lines) → n < 2 ^ 64
    → AreWithin n bodies → HaveLines version bodies recorded → bodies ≡ records_from commits t → AreSpelled commits → IsSpelledTree t
    → map said (serial_from (entries_of commits) t) ≡ recorded
records_say version n [] t [] [] short within have is all spelled = refl
records_say version n [] t [] (lines ∷ recorded) short within have is all spelled = absurd have
records_say version n [] t (body ∷ bodies) recorded short within have is all spelled = absurd cc
records_say version n (commit ∷ commits) t [] recorded short within have is all spelled = absurd cc
records_say version n (commit ∷ commits) t (body ∷ bodies) [] short within have is all spelled = absurd have
records_say version n (commit ∷ commits) t (body ∷ bodies) (lines ∷ recorded) short within have is all spelled =
    let first : body ≡ record_spelling (label_of commit) (access_of (run_entry commit.entry t).acts t) (said (run_entry commit.entry t)) =
    cc in
    let later : bodies ≡ records_from commits (run_entry commit.entry t).tree = cc in
    let says : have.0.0.lines ≡ said (run_entry commit.entry t) =
    record_says commit t all.0.0 all.0.1 spelled version body have.0.0 (omega (arith, short, within.0)) have.0.1 first in
    let more =
    records_say version n commits (run_entry commit.entry t).tree bodies recorded short within.1 have.1 later all.1
    (after_run commit t all.0.0 all.0.1 spelled) in
    λ i. (sym says ∙ sym have.0.2) i ∷ more i

serial_more : (front later : List (Entry Way)) (t : Nodes)
    → serial_from (front ++ later) t ≡ serial_from front t ++ serial_from later (tree_from front t)
serial_more [] later t = refl
serial_more (entry ∷ front) later t = ap (λ (rans : List Ran). run_entry entry t ∷ rans) (serial_more front later _)

spelled_front : (front later : List Commit) → AreSpelled (front ++ later) → AreSpelled front × AreSpelled later
spelled_front [] later all = (tt, all)
spelled_front (commit ∷ front) later all = let more = spelled_front front later all.1 in ((all.0, more.0), more.1)

entries_spelled : (commits : List Commit) → AreSpelled commits → AllByRecursion IsSpelledEntry (entries_of commits)
entries_spelled [] all = tt
entries_spelled (commit ∷ commits) all =
    (record { script = all.0.1; kept = kept_spelled commit.entry.kept all.0.0.kept }, entries_spelled commits all.1)

entries_made : (events : List Event) (commits : List Commit) → DeclareAll events commits
    → AreEntriesOf events (map label_of commits) (entries_of commits)
entries_made events [] declared = tt
entries_made events (commit ∷ commits) declared =
    let again = kept_again commit.entry.kept in
    ((commit.entry.script, declared.0, (λ i. record commit.entry { kept = sym again i })), entries_made events commits declared.1)

commits_spelled : (events : List Event) (commits : List Commit) → DeclareAll events commits
    → ((name : List ℕ) (code : Code) → code_named name events ≡ Some code → IsScript code)
    → AllByRecursion IsLabel (map label_of commits) → AreSpelled commits
commits_spelled events [] declared scripts labels = tt
commits_spelled events (commit ∷ commits) declared scripts labels =
    ((labels.0, scripts commit.script commit.entry.script declared.0), commits_spelled events commits declared.1 scripts labels.1)

-- what the records say is what the last of the commits print
pub record Ends (commits : List Commit) (recorded : List Lines) : Type 0 where
  pub early : List Lines
  pub split : map said (serial (entries_of commits)) ≡ early ++ recorded

list_ends : (n : ℕ) (found : Decoded) (commits : List Commit) (recorded : List Lines) → n < 2 ^ 64 → IsWithin n found → HasList found commits
    → HasRecorded found recorded → AreSpelled commits → Ends commits recorded
list_ends n (Encodes encoded) commits recorded short within list records all =
    let parts = spelled_front list.front list.later (subst AreSpelled list.split all) in
    let late = records_say encoded.version n list.later (tree_after list.front) encoded.bodies recorded short within.1 records list.records
    parts.1 (list_spelled list.front (entries_spelled list.front parts.0)) in
    record {
      early = map said (serial (entries_of list.front));
      split =
          ap (λ (cs : List Commit). map said (serial (entries_of cs))) list.split
          ∙ ap (λ (es : List (Entry Way)). map said (serial es)) (map-append (λ (c : Commit). c.entry) list.front list.later)
          ∙ ap (map said) (serial_more (entries_of list.front) (entries_of list.later) (root_alone Dir))
          ∙ map-append said (serial (entries_of list.front)) (serial_from (entries_of list.later) (tree_after list.front))
          ∙ ap (λ (l : List Lines). map said (serial (entries_of list.front)) ++ l) late;
    }
list_ends n NotStarted [] [] short within list records all = record { early = []; split = refl }
list_ends n NotStarted [] (lines ∷ recorded) short within list records all = absurd cc
list_ends n NotStarted (commit ∷ commits) recorded short within list records all = absurd cc
list_ends n Foreign commits recorded short within list records all = absurd list
list_ends n (Damaged at) commits recorded short within list records all = absurd list

-- so the image is audited
pub list_here : (events : List Event) (bytes : List ℕ) (image : Image) (read : IsRead bytes image) → length bytes < 2 ^ 64
    → ((name : List ℕ) (code : Code) → code_named name events ≡ Some code → IsScript code) → (commits : List Commit)
    → StandsForList bytes commits → DeclareAll events commits → walked_in events image ≡ Reached image.tree
list_here events bytes image read short scripts commits it declared =
    let same = read.only (state_of commits) it.stands in
    let all = commits_spelled events commits declared scripts (subst (AllByRecursion IsLabel) same.labels read.labels) in
    let ends = list_ends (length bytes) (decoded header bytes) commits image.recorded short (decoded_within header bytes) it.list
    read.is.recorded all in
    audited_here events bytes image read (record {
      state = state_of commits;
      stands = it.stands;
      recorded = image.recorded;
      records = read.is.recorded;
      entries = entries_of commits;
      made = entries_made events commits declared;
      tree = refl;
      early = ends.early;
      lines = ends.split;
    })
