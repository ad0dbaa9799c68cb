-- The start of a twin: what its disks' images encode at each exit.
use Rattle.std.proofs.Common.{◌≡◌, ◌≢◌, ◌⊎◌, inl, inr, ℕ, true, false, List, [], length, Option, Some, None, refl, sym, ◌∙◌}
use Rattle.std.proofs.Common.{ap, subst, arith, Result, Ok, Err, MatchResult}
use Rattle.std.proofs.lemmas.Bool.{cases_eq}
use Rattle.std.proofs.lemmas.Bool.Decides.{nat_tests}
use Rattle.iot_disk.specs.Disk.{Only, SameImages}
use Rattle.iot_disk.specs.Faults.{CountsJournalFault}
use Rattle.iot_disk.specs.declared.faults.JournalFault.{JournalFault}
use Rattle.iot_disk.specs.declared.faults.JournalFault.TheVariants as journal
use Rattle.iot_disk.specs.declared.faults.StartFault.{StartFault}
use Rattle.iot_disk.specs.declared.faults.StartFault.TheVariants as start
use Rattle.iot_records.specs.Images.{Each}
use Rattle.iot_records.proofs.ImagesLaws.{each_only, each_same}
use Rattle.iot_slots.specs.Cells.{next}
use Rattle.iot_slots.specs.Decoding.{Decoded, State, Encodes, NotStarted, Foreign, Damaged, decoded, opened}
use Rattle.iot_slots.specs.Due.{due_on, EachTakes}
use Rattle.iot_slots.specs.Slots.{appended}
use Rattle.iot_slots.specs.Looked.{found_state}
use Rattle.iot_slots.specs.Start as slots
use Rattle.iot_slots.specs.Start.{EachEncodesAs, KeepsRoom}
use Rattle.iot_slots.specs.declared.copying.Opened.{Opened}
use Rattle.iot_slots.proofs.LayoutsLaws.{found_encodes}
use Rattle.iot_slots.proofs.DueLaws.{never_appended}
use Rattle.iot_backup.specs.Faults.{twin_fault_of}
use Rattle.iot_backup.specs.Pairs.{counted, follows, AreInStep, EachPair, EachInStep}
use Rattle.iot_backup.specs.Start.{last_of, MayBeBehind, IsBroughtUpFrom, TakesLast, IsTaken, HasDiskCause, HasCause, with_last, brought_up}
use Rattle.iot_backup.proofs.PairsLaws.{follows_same, no_next, same_state}

-- ---- counts

-- a disk that is not started counts as one with this body
counted_opened : (body : List ℕ) (d : Decoded) → counted (opened body d) ≡ counted d
counted_opened body (Encodes state) = refl
counted_opened body NotStarted = refl
counted_opened body Foreign = refl
counted_opened body (Damaged at) = refl

pub counted_as : (body : List ℕ) (d : Decoded) (s : State) → opened body d ≡ Encodes s → counted d ≡ Some s.count
counted_as body d s is = sym (counted_opened body d) ∙ ap counted is

pub taken_as : (body : List ℕ) (d : Decoded) (s : State) → opened body d ≡ Encodes s → IsTaken d
taken_as body (Encodes state) s is = tt
taken_as body NotStarted s is = tt
taken_as body Foreign s is = absurd cc
taken_as body (Damaged at) s is = absurd cc

same_count : (body : List ℕ) (d e : Decoded) → opened body d ≡ opened body e → counted d ≡ counted e
same_count body d e is = sym (counted_opened body d) ∙ ap counted is ∙ counted_opened body e

in_step_as : (one other one_ other_ : Decoded) → counted one_ ≡ counted one → counted other_ ≡ counted other → AreInStep one other
    → AreInStep one_ other_
in_step_as one other one_ other_ same also it = record {
  first = it.first;
  second = it.second;
  first_is = same ∙ it.first_is;
  second_is = also ∙ it.second_is;
  step = it.step;
}

-- ---- images

-- a disk with one image, and the same images later
pub only_as : (header body bytes : List ℕ) (images : List ℕ → Type 0) → Only bytes images → EachEncodesAs header body bytes images
only_as header body bytes images only =
    each_only (λ image. opened body (decoded header image) ≡ opened body (decoded header bytes)) bytes images only refl

pub same_as : (header body bytes : List ℕ) (before now : List ℕ → Type 0) → Only bytes before → SameImages before now →
    EachEncodesAs header body bytes now
same_as header body bytes before now only same =
    each_same (λ image. opened body (decoded header image) ≡ opened body (decoded header bytes)) before now same
    (only_as header body bytes before only)

-- images that encode what the bytes encoded are in step if these are
pub as_in_step : (header body first second : List ℕ) (ones others : List ℕ → Type 0) → EachEncodesAs header body first ones →
    EachEncodesAs header body second others → AreInStep (decoded header first) (decoded header second) → EachInStep header ones others
as_in_step header body first second ones others one other it = record {
  each = λ i j left right.
      in_step_as (decoded header first) (decoded header second) (decoded header i) (decoded header j)
      (same_count body (decoded header i) (decoded header first) (one.each i left))
      (same_count body (decoded header j) (decoded header second) (other.each j right)) it;
}

-- and are what a start leaves of the second disk
pub as_brought : (header body first second : List ℕ) (images : List ℕ → Type 0) → EachEncodesAs header body second images →
    Each (λ image. IsBroughtUpFrom header body first second image) images
as_brought header body first second images all = record { each = λ image left. inl (all.each image left) }

-- no checkpoint is due on them before the last record
pub room_takes : (header body first second : List ℕ) (images : List ℕ → Type 0) → MayBeBehind header body first second →
    KeepsRoom header second images → TakesLast header body first second images
room_takes header body first second images behind room one other is also next_one = record {
  each = λ image left _.
      (room.takes (length (last_of one.bodies)) (behind one other is also next_one).1).each image left;
}

pub only_room : (header bytes : List ℕ) (images : List ℕ → Type 0) → Only bytes images → KeepsRoom header bytes images
only_room header bytes images only = record {
  takes = λ size not. each_only (λ image. due_on header image size ≡ false) bytes images only not;
}

pub same_room : (header bytes : List ℕ) (before now : List ℕ → Type 0) → Only bytes before → SameImages before now →
    KeepsRoom header bytes now
same_room header bytes before now only same = record {
  takes = λ size not.
      each_same (λ image. due_on header image size ≡ false) before now same
      (each_only (λ image. due_on header image size ≡ false) bytes before only not);
}

-- ---- what the next start needs

pub start_again : (header body first second : List ℕ) (ones others : List ℕ → Type 0) → MayBeBehind header body first second →
    EachEncodesAs header body first ones → Each (λ image. IsBroughtUpFrom header body first second image) others →
    TakesLast header body first second others → EachPair (MayBeBehind header body) ones others
start_again header body first second ones others behind firsts seconds takes = record {
  each = λ i j left right one other one_is other_is next_one.
      let was = sym (firsts.each i left) ∙ one_is in
      elim (seconds.each j right) [
        | inl same ↦
            let also = sym same ∙ other_is in
            ((behind one other was also next_one).0, (takes one other was also next_one).each j right other_is)
        | inr it ↦
            let s = it.0 in
            let t = it.1 in
            let left_is = same_state s one (sym it.2 ∙ was) in
            let right_is = same_state (appended t (last_of s.bodies)) other (sym (ap (opened body) it.5) ∙ other_is) in
            absurd (no_next (next t.count) (sym it.4 ∙ ap (λ (r : State). r.count) left_is ∙ next_one
            ∙ ap (λ (r : State). next r.count) (sym right_is)))
      ];
}

-- if the second disk was started, or looked at, and no more
pub room_again : (header body first second : List ℕ) (ones others : List ℕ → Type 0) → MayBeBehind header body first second →
    EachEncodesAs header body first ones → EachEncodesAs header body second others → KeepsRoom header second others →
    EachPair (MayBeBehind header body) ones others
room_again header body first second ones others behind firsts seconds room =
    start_again header body first second ones others behind firsts (as_brought header body first second others seconds)
    (room_takes header body first second others behind room)

-- if both disks were looked at, and no more
pub looked_again : (header body first second : List ℕ) (one ones other others : List ℕ → Type 0) → MayBeBehind header body first second →
    Only first one → SameImages one ones → Only second other → SameImages other others → EachPair (MayBeBehind header body) ones others
looked_again header body first second one ones other others behind only same only_other same_other =
    room_again header body first second ones others behind (same_as header body first one ones only same)
    (same_as header body second other others only_other same_other) (same_room header second other others only_other same_other)

-- ---- images that stay

pub no_change : (images : List ℕ → Type 0) → SameImages images images
no_change images = record { was = λ i is. is; stays = λ i is. is }

pub changes_none : (a b c : List ℕ → Type 0) → SameImages a b → SameImages b c → SameImages a c
changes_none a b c one other = record { was = λ i is. one.was i (other.was i is); stays = λ i is. other.stays i (one.stays i is) }

pub is_started : (header_ header bytes_ bytes : List ℕ) → header_ ≡ header → bytes_ ≡ bytes → decoded header bytes ≢ NotStarted →
    decoded header_ bytes_ ≢ NotStarted
is_started header_ header bytes_ bytes head is started =
    subst (λ (h : List ℕ). decoded h bytes_ ≢ NotStarted) (sym head)
    (subst (λ (b : List ℕ). decoded header b ≢ NotStarted) (sym is) started)

-- ---- counts that follow

pub follows_or : (a b : ℕ) → follows a b ≡ true → (a ≡ b) ⊎ (a ≡ next b)
follows_or a b is = elim (cases_eq a b) [
  | inl same ↦ inl same
  | inr other ↦ inr (grind (arith, nat_tests))
]

pub differ_next : (a b : ℕ) → follows a b ≡ true → a ≢ b → a ≡ next b
differ_next a b is other = elim (follows_or a b is) [ inl same ↦ absurd (other same) | inr after ↦ after ]

-- ---- refusals

-- the refusal of the second disk, while the first has none
pub second_cause : (fault : StartFault) (one other : Decoded) (before now other_before other_now : ℕ) → IsTaken one → now ≡ before →
    slots.HasCause fault other other_before other_now → HasDiskCause fault one other before now other_before other_now
second_cause start.NoMemory one other before now other_before other_now taken same cause = (same, cause)
second_cause start.Stopped one other before now other_before other_now taken same cause = inr (taken, same, cause)
second_cause start.Foreign one other before now other_before other_now taken same cause = (inr (taken, cause.0), same, cause.1)
second_cause (start.Damaged at) one other before now other_before other_now taken same cause = (inr (taken, cause.0), same, cause.1)

-- the append to the second disk failed
pub bring_cause : (fault : JournalFault) (one other : Decoded) (before now other_before other_now : ℕ) → IsTaken one → now ≡ before →
    CountsJournalFault {T = Unit {0}} (Err fault) other_before other_now →
    HasCause (twin_fault_of fault) one other before now other_before other_now
bring_cause journal.NoMemory one other before now other_before other_now taken same counts = (same, counts)
bring_cause journal.Stopped one other before now other_before other_now taken same counts = inr (taken, same, counts)

-- ---- by other names of the header and the bytes

pub as_of : (header_ header body bytes_ bytes : List ℕ) (images : List ℕ → Type 0) → header_ ≡ header → bytes_ ≡ bytes →
    EachEncodesAs header_ body bytes_ images → EachEncodesAs header body bytes images
as_of header_ header body bytes_ bytes images head is all =
    subst (λ (h : List ℕ). EachEncodesAs h body bytes images) head (subst (λ (b : List ℕ). EachEncodesAs header_ body b images) is all)

pub room_of : (header_ header bytes_ bytes : List ℕ) (images : List ℕ → Type 0) → header_ ≡ header → bytes_ ≡ bytes →
    KeepsRoom header_ bytes_ images → KeepsRoom header bytes images
room_of header_ header bytes_ bytes images head is room =
    subst (λ (h : List ℕ). KeepsRoom h bytes images) head (subst (λ (b : List ℕ). KeepsRoom header_ b images) is room)

-- ---- the record that the second disk lacks

-- the count of what was found does not depend on the body
found_count : (body other : List ℕ) (found : Option Opened) → (found_state body found).count ≡ (found_state other found).count
found_count body other None = refl
found_count body other (Some found) = refl

-- two disks encode these states, whose counts follow each other
pub record AreFound (header body first second : List ℕ) (one other : State) (count own : ℕ) : Type 0 where
  pub one_is : opened body (decoded header first) ≡ Encodes one
  pub other_is : opened body (decoded header second) ≡ Encodes other
  pub count_is : count ≡ one.count
  pub own_is : own ≡ other.count
  pub step : follows count own ≡ true

pub are_found : (header body first second : List ℕ) (found other_found : Option Opened) (one other : State) (count own : ℕ) →
    ((b : List ℕ) → opened b (decoded header first) ≡ Encodes (found_state b found)) → found_state body found ≡ one →
    ((b : List ℕ) → opened b (decoded header second) ≡ Encodes (found_state b other_found)) → found_state body other_found ≡ other →
    count ≡ (found_state [] found).count → own ≡ (found_state [] other_found).count → true ≡ follows count own →
    AreFound header body first second one other count own
are_found header body first second found other_found one other count own seen is other_seen other_is counts own_counts step = record {
  one_is = seen body ∙ ap Encodes is;
  other_is = other_seen body ∙ ap Encodes other_is;
  count_is = counts ∙ found_count [] body found ∙ ap (λ (s : State). s.count) is;
  own_is = own_counts ∙ found_count [] body other_found ∙ ap (λ (s : State). s.count) other_is;
  step = sym step;
}

-- an image of the second disk while it is brought up, by the header and the state of its slots
abbrev pub Brought : (header : List ℕ) (state : State) (count own : ℕ) (body : List ℕ) → (List ℕ → Type 0) → Type 0
Brought header state count own body images =
    Each (λ image. (decoded header image ≡ Encodes state) ⊎ ((count ≢ own) × (decoded header image ≡ Encodes (appended state body)))) images

pub brought_of : (header_ header : List ℕ) (state_ state : State) (count own : ℕ) (body : List ℕ) (images : List ℕ → Type 0) →
    header_ ≡ header → state_ ≡ state → Brought header_ state_ count own body images → Brought header state count own body images
brought_of header_ header state_ state count own body images head is all =
    subst (λ (h : List ℕ). Brought h state count own body images) head
    (subst (λ (s : State). Brought header_ s count own body images) is all)

pub takes_of : (header_ header : List ℕ) (state_ state : State) (count own : ℕ) (body : List ℕ) (images : List ℕ → Type 0) →
    header_ ≡ header → state_ ≡ state → (count ≢ own → EachTakes header_ images state_ (length body)) →
    count ≢ own → EachTakes header images state (length body)
takes_of header_ header state_ state count own body images head is takes differ =
    subst (λ (h : List ℕ). EachTakes h images state (length body)) head
    (subst (λ (s : State). EachTakes header_ images s (length body)) is (takes differ))

module _ (header body first second : List ℕ) (one other : State) (count own : ℕ)
    (both : AreFound header body first second one other count own) where
  next_is : count ≢ other.count → count ≡ next other.count
  next_is differ = differ_next count own both.step (λ same. differ (same ∙ both.own_is)) ∙ ap next both.own_is

  pub lacks : MayBeBehind header body first second → count ≢ other.count →
      (count ≡ next other.count) × (due_on header second (length (last_of one.bodies)) ≡ false)
  lacks behind differ =
      let after = next_is differ in
      (after, (behind one other both.one_is both.other_is (sym both.count_is ∙ after)).1)

  pub brought_images : (images : List ℕ → Type 0) → Brought header other count other.count (last_of one.bodies) images →
      Each (λ image. IsBroughtUpFrom header body first second image) images
  brought_images images all = record {
    each = λ image left.
        elim (all.each image left) [
          | inl before ↦ inl (ap (opened body) before ∙ sym both.other_is)
          | inr after ↦ inr (one, other, both.one_is, both.other_is, sym both.count_is ∙ next_is after.0, after.1)
        ];
  }

  pub brought_in_step : (ones images : List ℕ → Type 0) → EachEncodesAs header body first ones →
      Brought header other count other.count (last_of one.bodies) images → EachInStep header ones images
  brought_in_step ones images firsts all = record {
    each = λ i j left right.
        let counts : counted (decoded header i) ≡ Some one.count = counted_as body (decoded header i) one
        (firsts.each i left ∙ both.one_is) in
        elim (all.each j right) [
          | inl before ↦ record {
            first = one.count;
            second = other.count;
            first_is = counts;
            second_is = ap counted before;
            step = subst (λ (n : ℕ). follows n other.count ≡ true) both.count_is
                (subst (λ (n : ℕ). follows count n ≡ true) both.own_is both.step);
          }
          | inr after ↦ record {
            first = one.count;
            second = next other.count;
            first_is = counts;
            second_is = ap counted after.1;
            step = follows_same one.count (next other.count) (sym both.count_is ∙ next_is after.0);
          }
        ];
  }

  pub brought_takes : (images : List ℕ → Type 0) → Brought header other count other.count (last_of one.bodies) images →
      (count ≢ other.count → EachTakes header images other (length (last_of one.bodies))) → TakesLast header body first second images
  brought_takes images all takes s t s_is t_is next_one =
      let left = same_state one s (sym both.one_is ∙ s_is) in
      let right = same_state other t (sym both.other_is ∙ t_is) in
      let more : count ≡ next other.count = both.count_is
      ∙ ap (λ (r : State). r.count) left ∙ next_one ∙ ap (λ (r : State). next r.count) (sym right) in
      let last = last_of one.bodies in
      let differ : count ≢ other.count = λ same. no_next other.count (sym same ∙ more) in
      let each : Each (λ image. opened body (decoded header image) ≡ Encodes t → due_on header image (length last) ≡ false) images =
      record {
        each = λ image at is.
            elim (all.each image at) [
              | inl before ↦ (takes differ).each image at before
              | inr after ↦
                  absurd (never_appended other last (ap Encodes right ∙ sym is ∙ ap (opened body) after.1))
            ];
      } in
      subst (λ (r : State). Each (λ image. opened body (decoded header image) ≡ Encodes t → due_on header image (length (last_of r.bodies))
      ≡ false) images) left each

  -- the second disk's state after Ok
  pub brought_state : (first_state second_state new was : State) → first_state ≡ one → second_state ≡ other →
      opened body (decoded header second) ≡ Encodes was → new ≡ with_last count other.count (last_of one.bodies) second_state →
      new ≡ brought_up first_state was
  brought_state first_state second_state new was first_is second_is was_is new_is =
      new_is
      ∙ ap (λ (s : State). with_last count other.count (last_of one.bodies) s) second_is
      ∙ ap (λ (n : ℕ). with_last n other.count (last_of one.bodies) other) both.count_is
      ∙ ap (λ (s : State). brought_up one s) (same_state other was (sym both.other_is ∙ was_is))
      ∙ ap (λ (s : State). brought_up s was) (sym first_is)

-- ---- by what was found before

-- the first disk was looked at under the other name of its header
pub found_as : (header_ header bytes : List ℕ) (found : Option Opened) → header_ ≡ header → slots.IsFound header_ bytes found →
    (body : List ℕ) → opened body (decoded header bytes) ≡ Encodes (found_state body found)
found_as header_ header bytes found is laid body =
    ap (λ (h : List ℕ). opened body (decoded h bytes)) (sym is) ∙ found_encodes header_ bytes body found laid

-- ---- a disk that was started

pub started_same : (header bytes : List ℕ) (before now : List ℕ → Type 0) → Only bytes before → SameImages before now →
    decoded header bytes ≢ NotStarted → Each (λ image. decoded header image ≢ NotStarted) now
started_same header bytes before now only same started = record {
  each = λ image left none. started (ap (decoded header) (sym (only.is image (same.was image left))) ∙ none);
}

not_started : (d : Decoded) (s : State) → d ≡ Encodes s → d ≢ NotStarted
not_started d s is none = let clash : Encodes s ≡ NotStarted = sym is ∙ none in absurd cc

pub started_brought : (header : List ℕ) (state : State) (count own : ℕ) (body : List ℕ) (images : List ℕ → Type 0) →
    Brought header state count own body images → Each (λ image. decoded header image ≢ NotStarted) images
started_brought header state count own body images all = record {
  each = λ image left. elim (all.each image left) [
    | inl before ↦ not_started _ state before
    | inr after ↦ not_started _ (appended state body) after.1
  ];
}

-- the same images as those from before, however a call returns
pub changes_matched : {A E : Type 0} (before mid : List ℕ → Type 0) (made : A → List ℕ → Type 0) (refused : E → List ℕ → Type 0)
    (result : Result A E) → SameImages before mid →
    MatchResult result (λ x. SameImages mid (made x)) (λ e. SameImages mid (refused e)) →
    MatchResult result (λ x. SameImages before (made x)) (λ e. SameImages before (refused e))
changes_matched before mid made refused (Ok x) same after = changes_none before mid (made x) same after
changes_matched before mid made refused (Err e) same after = changes_none before mid (refused e) same after
