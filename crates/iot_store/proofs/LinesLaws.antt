-- The lines of records: there are some for each record, no others, and no more than labels.
use Rattle.std.proofs.Common.{◌≡◌, ◌≤◌, ◌<◌, ◌+◌, ◌^◌, ℕ, suc, List, [], ◌∷◌, ◌++◌, length, refl, sym, ap, ◌∙◌, subst, arith}
use Rattle.std.proofs.Common.{append_assoc, append-nil, length-append, Option, Some, Result}
use Rattle.std.specs.Prelude.{IfOk, IfSome}
use Rattle.iot_durable.specs.Standing.{Leads, MakesBy}
use Rattle.iot_durable.proofs.ReadingLaws.{encoded_in, lent_laid}
use Rattle.iot_slots.proofs.LayoutsLaws.{laid_encodes}
use Rattle.iot_slots.proofs.WithinLaws.{AreWithin, IsWithin, decoded_within}
use Rattle.iot_slots.specs.Decoding.{Decoded, Encodes, NotStarted, Foreign, Damaged, State as Encoded, decoded}
use Rattle.iot_slots.specs.Layouts.{IsLaidOut}
use Rattle.iot_slots.specs.declared.decoding.SlotsView.{SlotsView}
use Rattle.iot_slots.specs.declared.version.Version.{Version}
use Rattle.iot_store.specs.Images.{HasRecorded, HaveLines}
use Rattle.iot_store.specs.Records.{AreRecords, IsRecordIn}
use Rattle.iot_store.specs.Rules.{header, rules}
use Rattle.iot_store.specs.Standing.{StandFor}
use Rattle.iot_store.specs.States.{State, after_commit}
use Rattle.iot_store.specs.declared.commit.Commit.{Commit}
use Rattle.iot_store.proofs.RecordsLaws.{record_alone}

-- ---- bodies that lead to a state

-- each is the record of a commit
leads_records : (version : Version) (bodies : List (List ℕ)) (before now : State) → Leads (rules version) bodies before now
    → AreRecords version bodies
leads_records version [] before now leads = tt
leads_records version (body ∷ bodies) before now leads =
    let commit : Commit = leads.0 in
    ((commit, leads.1), leads_records version bodies (after_commit before commit.label commit.access) now leads.3)

-- and adds a label
leads_labels : (version : Version) (bodies : List (List ℕ)) (before now : State) → Leads (rules version) bodies before now
    → length before.labels + length bodies ≡ length now.labels
leads_labels version [] before now leads = omega (arith, ap (λ (s : State). length s.labels) leads)
leads_labels version (body ∷ bodies) before now leads =
    let commit : Commit = leads.0 in
    let rest = leads_labels version bodies (after_commit before commit.label commit.access) now leads.3 in
    omega (arith, rest, length-append before.labels (commit.label ∷ []))

-- ---- their lines

-- there are as many
lines_count : (version : Version) (bodies : List (List ℕ)) (recorded : List (List (List ℕ))) → HaveLines version bodies recorded
    → length recorded ≡ length bodies
lines_count version [] [] have = refl
lines_count version [] (lines ∷ recorded) have = absurd have
lines_count version (body ∷ bodies) [] have = absurd have
lines_count version (body ∷ bodies) (lines ∷ recorded) have = ap suc (lines_count version bodies recorded have.1)

-- and no others
lines_one : (version : Version) (bodies : List (List ℕ)) (n : ℕ) (one other : List (List (List ℕ))) → n < 2 ^ 64 → AreWithin n bodies
    → HaveLines version bodies one → HaveLines version bodies other → one ≡ other
lines_one version [] n [] [] few within p q = refl
lines_one version [] n [] (y ∷ ys) few within p q = absurd q
lines_one version [] n (x ∷ xs) other few within p q = absurd p
lines_one version (body ∷ bodies) n [] other few within p q = absurd p
lines_one version (body ∷ bodies) n (x ∷ xs) [] few within p q = absurd q
lines_one version (body ∷ bodies) n (x ∷ xs) (y ∷ ys) few within p q =
    let same : p.0.0 ≡ q.0.0 = record_alone version body p.0.0 q.0.0 (omega (arith, few, within.0)) p.0.1 q.0.1 in
    let first : x ≡ y = p.0.2 ∙ ap (λ (c : Commit). c.lines) same ∙ sym q.0.2 in
    let rest : xs ≡ ys = lines_one version bodies n xs ys few within.1 p.1 q.1 in
    λ i. first i ∷ rest i

-- ---- by what bytes encode

one_by : (d : Decoded) (n : ℕ) (one other : List (List (List ℕ))) → n < 2 ^ 64 → IsWithin n d → HasRecorded d one → HasRecorded d other
    → one ≡ other
one_by (Encodes encoded) n one other few within p q = lines_one encoded.version encoded.bodies n one other few within.1 p q
one_by NotStarted n one other few within p q = p ∙ sym q
one_by Foreign n one other few within p q = absurd p
one_by (Damaged at) n one other few within p q = absurd p

-- bytes have recorded lines in one way at most
pub recorded_one : (bytes : List ℕ) (one other : List (List (List ℕ))) → length bytes < 2 ^ 64 → HasRecorded (decoded header bytes) one
    → HasRecorded (decoded header bytes) other → one ≡ other
recorded_one bytes one other short p q =
    one_by (decoded header bytes) (length bytes) one other short (decoded_within header bytes) p q

last_by : (d : Decoded) (state : State) (recorded : List (List (List ℕ))) → MakesBy rules d state → HasRecorded d recorded
    → length recorded ≤ length state.labels
last_by (Encodes encoded) state recorded makes has =
    let count = lines_count encoded.version encoded.bodies recorded has in
    let labels = leads_labels encoded.version encoded.bodies makes.start state makes.leads in
    omega (arith, count, labels)
last_by NotStarted state recorded makes has = omega (arith, ap (λ (l : List (List (List ℕ))). length l) has)
last_by Foreign state recorded makes has = absurd has
last_by (Damaged at) state recorded makes has = absurd has

-- they are the last commits' lines
pub recorded_last : (bytes : List ℕ) (state : State) (recorded : List (List (List ℕ))) → StandFor bytes state
    → HasRecorded (decoded header bytes) recorded → length recorded ≤ length state.labels
recorded_last bytes state recorded stands has =
    last_by stands.decoding state recorded stands.makes (subst (λ (d : Decoded). HasRecorded d recorded) stands.is has)

-- what they encode has the records of commits
stand_records : (bytes : List ℕ) (state : State) (encoded : Encoded) → StandFor bytes state → decoded header bytes ≡ Encodes encoded
    → AreRecords encoded.version encoded.bodies
stand_records bytes state encoded stands is =
    let makes : MakesBy rules (Encodes encoded) state = subst (λ (d : Decoded). MakesBy rules d state) (sym stands.is ∙ is) stands.makes in
    leads_records encoded.version encoded.bodies makes.start state makes.leads

-- so that the lines of the records that a view lends are those of the bytes
pub view_lines : {E : Type 0} (bytes head : List ℕ) (found : Option SlotsView) (view : SlotsView) (state : State)
    (result : Result (List (List (List ℕ))) E) → head ≡ header → found ≡ Some view
    → IfSome found (λ lent. IsLaidOut head bytes (encoded_in lent) lent.layout) → StandFor bytes state
    → ((version : Version) → AreRecords version view.records → IfOk result (HaveLines version view.records))
    → IfOk result (HasRecorded (decoded header bytes))
view_lines bytes head found view state result ours is some stands lines =
    let laid = lent_laid rules bytes head found view ours is some in
    let encodes : decoded header bytes ≡ Encodes (encoded_in view) = laid_encodes header bytes (encoded_in view) view.layout laid in
    subst (λ (d : Decoded). IfOk result (HasRecorded d)) (sym encodes)
    (lines view.layout.version (stand_records bytes state (encoded_in view) stands encodes))

-- ---- lines that are read one after the other, as a loop does

-- the bodies that are left are records, and whatever lines they have come after those of the others
pub record LinesSo (version : Version) (bodies left : List (List ℕ)) (recorded : List (List (List ℕ))) : Type 0 where
  pub are : AreRecords version left
  pub have : (later : List (List (List ℕ))) → HaveLines version left later → HaveLines version bodies (recorded ++ later)

pub lines_next : (version : Version) (bodies left : List (List ℕ)) (recorded now : List (List (List ℕ))) (body : List ℕ)
    (rest : List (List ℕ)) (lines : List (List ℕ)) → LinesSo version bodies left recorded → left ≡ body ∷ rest
    → ((commit : Commit) → IsRecordIn version body commit → lines ≡ commit.lines) → now ≡ recorded ++ lines ∷ []
    → LinesSo version bodies rest now
lines_next version bodies left recorded now body rest lines so is found pushed =
    let here : LinesSo version bodies (body ∷ rest) recorded = subst (λ (l : List (List ℕ)). LinesSo version bodies l recorded) is so in
    let record_here = here.are.0 in
    record {
      are = here.are.1;
      have = λ later have.
          subst (HaveLines version bodies)
          (sym (append_assoc recorded (lines ∷ []) later) ∙ ap (λ (l : List (List (List ℕ))). l ++ later) (sym pushed))
          (here.have (lines ∷ later) ((record_here.0, record_here.1, found record_here.0 record_here.1), have));
    }

pub lines_end : (version : Version) (bodies left : List (List ℕ)) (recorded : List (List (List ℕ))) → LinesSo version bodies left recorded
    → left ≡ [] → HaveLines version bodies recorded
lines_end version bodies left recorded so none =
    let here : LinesSo version bodies [] recorded = subst (λ (l : List (List ℕ)). LinesSo version bodies l recorded) none so in
    subst (HaveLines version bodies) (append-nil recorded) (here.have [] tt)
