-- One record more on one disk or two, after room was made for it.
use Rattle.std.proofs.Common.{◌≡◌, ℕ, List, length, Option, Some, None, Ok, Err, inl, inr, refl, sym, ap, ◌∙◌, subst}
use Rattle.std.specs.Prelude.{Result, IsErrOf, IsErrAnd}
use Rattle.iot_count.specs.Counts.{Rose}
use Rattle.iot_disk.specs.Disk.{Medium}
use Rattle.iot_disk.specs.declared.faults.JournalFault.{JournalFault}
use Rattle.iot_disk.specs.declared.faults.JournalFault.TheVariants as journal
use Rattle.iot_slots.specs.Cells.{next}
use Rattle.iot_slots.specs.Decoding.{State, decoded}
use Rattle.iot_slots.specs.Slots.{disk_of, header_of, count_of, state_on, appended, EachEncodes, EachEncodesEither}
use Rattle.iot_slots.specs.declared.slots.Slots.{Slots}
use Rattle.iot_slots.specs.declared.version.Version.{Version}
use Rattle.iot_slots.specs.declared.version.Version.TheVariants.{Two}
use Rattle.iot_slots.proofs.LayoutsLaws.{not_due_is_new}
use Rattle.iot_backup.specs.Parts.{If, Changes, LacksMemory, NoneRose, OneRose, CountsBoth}
use Rattle.iot_durable.specs.Rules.{Rules}
use Rattle.iot_durable.specs.Standing.{IsNext, EachStands, EachStandsEither, EachStays, EachGoes, IsInDoubt, MakesOf}
use Rattle.iot_durable.specs.Durable.{images_of, Keeps, HasRoom, IsGrownBy}
use Rattle.iot_durable.specs.declared.fault.NoteFault.{NoteFault}
use Rattle.iot_durable.specs.declared.fault.NoteFault.TheVariants as note
use Rattle.iot_durable.specs.Faults.{before_of, in_doubt_of, CountsNotes}
use Rattle.iot_durable.proofs.ImagesLaws.{each_makes, either_makes, makes_push}
use Rattle.iot_durable.proofs.PartsLaws.{changes_if, changes_join, changes_map, changes_now}
use Rattle.iot_durable.proofs.RoomLaws.{IsKept, Steady, kept_first, kept_second}

-- ---- by what is on the disks

module _ {S C : Type 0} (rules : Version → Rules S C) (images : List ℕ → Type 0) (count : ℕ) (was : State) (now : S) where
  pub stays_goes : (change : C) → EachStays rules images count was now → EachGoes rules images was now change
  stays_goes change it = record {
    encodes = λ image left. let e = it.encodes image left in (e.0, e.2, inl e.1);
  }

  pub stays_either : (after : S) → EachStays rules images count was now → EachStandsEither rules images count now after
  stays_either after it = record { each = λ image left. inl (it.stands.each image left) }

-- of a second disk, which has no record yet
module _ {D S C : Type 0} (medium : Medium D) (rules : Version → Rules S C) (count : ℕ) (now : S) (old new : Option (Slots D))
    (stays : Changes (λ a b. EachStays rules (images_of medium b) count (state_on medium a) now) old new) where
  pub stay_stands : If (λ s. EachStands rules (images_of medium s) count now) new
  stay_stands =
      changes_if (λ a b. EachStays rules (images_of medium b) count (state_on medium a) now)
      (λ s. EachStands rules (images_of medium s) count now) (λ a b it. it.stands) old new stays

  pub stay_either : (after : S) → Changes (λ a b. EachStandsEither rules (images_of medium b) count now after) old new
  stay_either after =
      changes_map (λ a b. EachStays rules (images_of medium b) count (state_on medium a) now)
      (λ a b. EachStandsEither rules (images_of medium b) count now after)
      (λ a b it. stays_either rules (images_of medium b) count (state_on medium a) now after it) old new stays

  pub stay_goes : (change : C) → Changes (λ a b. EachGoes rules (images_of medium b) (state_on medium a) now change) old new
  stay_goes change =
      changes_map (λ a b. EachStays rules (images_of medium b) count (state_on medium a) now)
      (λ a b. EachGoes rules (images_of medium b) (state_on medium a) now change)
      (λ a b it. stays_goes rules (images_of medium b) count (state_on medium a) now change it) old new stays

-- ---- one disk

module _ {D : Type 0} (medium : Medium D) (body : List ℕ) where
  -- the record was appended or not
  abbrev pub MayHave : Slots D → Slots D → Type 0
  MayHave mid new =
      EachEncodesEither (header_of mid) (images_of medium new) (state_on medium mid) (appended (state_on medium mid) body)

  abbrev pub Has : Slots D → Slots D → Type 0
  Has mid new = EachEncodes (header_of mid) (images_of medium new) (appended (state_on medium mid) body)

  abbrev pub Lacks : Slots D → Slots D → Type 0
  Lacks mid new = EachEncodes (header_of mid) (images_of medium new) (state_on medium mid)

  abbrev pub Grew : Slots D → Slots D → Type 0
  Grew mid new = state_on medium new ≡ appended (state_on medium mid) body

-- there was room for a record with a body of this size, and nothing is under way
pub record HasCome {D S C : Type 0} (medium : Medium D) (rules : Version → Rules S C) (count : ℕ) (now : S) (size : ℕ) (old mid : Slots D)
    : Type 0 where
  pub room : HasRoom medium rules now size old mid
  pub kept : IsKept medium rules count now mid

module _ {D S C : Type 0} (medium : Medium D) (rules : Version → Rules S C) (count : ℕ) (now : S) (change : C) (body : List ℕ)
    (spelled : (rules Two).IsRecord body change) (follows : (rules Two).CanFollow now change) where
  abbrev after : S
  after = (rules Two).after now change

  module _ (old mid new : Slots D) (come : HasCome medium rules count now (length body) old mid) where
    kept : IsKept medium rules count now mid
    kept = come.kept

    next_here : IsNext rules (state_on medium mid) body change
    next_here = record {
      version = sym kept.synced.layout.in_force.version
          ∙ not_due_is_new (state_on medium mid).bodies mid.layout (length body) come.room.room;
      spells = spelled;
    }

    pushed : MakesOf rules (appended (state_on medium mid) body) after
    pushed = makes_push rules (state_on medium mid) body change now kept.makes next_here follows

    pub come_either : MayHave medium body mid new → EachStandsEither rules (images_of medium new) count now after
    come_either either = either_makes rules _ _ (state_on medium mid) body _ _ _ kept.header_is either kept.counted kept.makes pushed

    pub come_noted : Has medium body mid new → EachStands rules (images_of medium new) (next count) after
    come_noted all =
        each_makes rules _ _ (appended (state_on medium mid) body) _ _ kept.header_is all (ap next kept.counted) pushed

    pub come_stays : Lacks medium body mid new → EachStays rules (images_of medium new) count (state_on medium old) now
    come_stays all = record {
      stands = each_makes rules _ _ (state_on medium mid) _ _ kept.header_is all kept.counted kept.makes;
      encodes = λ image left.
          (state_on medium mid, ap (λ (h : List ℕ). decoded h image) (sym kept.header_is) ∙ all.each image left, come.room.renews);
    }

    pub come_goes : MayHave medium body mid new → EachGoes rules (images_of medium new) (state_on medium old) now change
    come_goes either = record {
      encodes = λ image left.
          let here = ap (λ (h : List ℕ). decoded h image) (sym kept.header_is) in
          elim (either.each image left) [
            | inl before ↦ (state_on medium mid, come.room.renews, inl (here ∙ before))
            | inr more ↦ (state_on medium mid, come.room.renews, inr (body, next_here, here ∙ more))
          ];
    }

    pub come_doubt : MayHave medium body mid new → IsInDoubt rules (images_of medium new) (state_on medium old) now change
    come_doubt either = record {
      before = state_on medium mid;
      body = body;
      renews = come.room.renews;
      makes = kept.makes;
      next = next_here;
      either = subst
          (λ (h : List ℕ). EachEncodesEither h (images_of medium new) (state_on medium mid) (appended (state_on medium mid) body))
          kept.header_is either;
    }

    pub come_makes : Grew medium body mid new → MakesOf rules (state_on medium new) after
    come_makes is = subst (λ (e : State). MakesOf rules e after) (sym is) pushed

    pub come_grown : Grew medium body mid new → IsGrownBy medium rules now change old new
    come_grown is = record {
      body = body;
      before = state_on medium mid;
      next = next_here;
      renews = come.room.renews;
      is = is;
      same = come.room.same;
      renewed = come.room.renewed;
    }

-- ---- the disks of a log

-- there was room for a record with a body of this size on each disk, and nothing is under way
pub record IsReady {L D S C : Type 0} (medium : Medium D) (first : L → Slots D) (second : L → Option (Slots D))
    (rules : Version → Rules S C) (now : S) (size : ℕ) (old mid : L) : Type 0 where
  pub keeps : Keeps medium first second rules now mid
  pub same : count_of (first mid) ≡ count_of (first old)
  pub first_room : HasRoom medium rules now size (first old) (first mid)
  pub second_room : Changes (HasRoom medium rules now size) (second old) (second mid)

module _ {L D S C : Type 0} (medium : Medium D) (first : L → Slots D) (second : L → Option (Slots D)) (rules : Version → Rules S C)
    (now : S) (change : C) (body : List ℕ) (spelled : (rules Two).IsRecord body change) (follows : (rules Two).CanFollow now change)
    (old mid new : L) (ready : IsReady medium first second rules now (length body) old mid) where
  abbrev later : S
  later = (rules Two).after now change

  abbrev count : ℕ
  count = count_of (first old)

  abbrev Come : Slots D → Slots D → Type 0
  Come = HasCome medium rules count now (length body)

  come : (a b : Slots D) → IsKept medium rules (count_of (first mid)) now b → HasRoom medium rules now (length body) a b → Come a b
  come a b kept room = record {
    room = room;
    kept = subst (λ (n : ℕ). IsKept medium rules n now b) ready.same kept;
  }

  first_come : Come (first old) (first mid)
  first_come = come (first old) (first mid) (kept_first medium first second rules now mid ready.keeps) ready.first_room

  second_come : Changes Come (second old) (second mid)
  second_come =
      changes_now (IsKept medium rules (count_of (first mid)) now) (HasRoom medium rules now (length body)) Come come
      (second old) (second mid) (kept_second medium first second rules now mid ready.keeps) ready.second_room

  -- by what was so of each disk in the append
  joined : (R Q : Slots D → Slots D → Type 0) → ((a b e : Slots D) → Come a b → R b e → Q a e) → Changes R (second mid) (second new) →
      Changes Q (second old) (second new)
  joined R Q so it = changes_join Come R Q so (second old) (second mid) (second new) second_come it

  abbrev Either : Slots D → Slots D → Type 0
  Either a b = EachStandsEither rules (images_of medium b) count now later

  pub first_either : MayHave medium body (first mid) (first new) → Either (first old) (first new)
  first_either = come_either medium rules count now change body spelled follows (first old) (first mid) (first new) first_come

  pub second_either : Changes (MayHave medium body) (second mid) (second new) → Changes Either (second old) (second new)
  second_either = joined (MayHave medium body) Either (come_either medium rules count now change body spelled follows)

  abbrev Goes : Slots D → Slots D → Type 0
  Goes a b = EachGoes rules (images_of medium b) (state_on medium a) now change

  pub first_goes : MayHave medium body (first mid) (first new) → Goes (first old) (first new)
  first_goes = come_goes medium rules count now change body spelled follows (first old) (first mid) (first new) first_come

  pub second_goes : Changes (MayHave medium body) (second mid) (second new) → Changes Goes (second old) (second new)
  second_goes = joined (MayHave medium body) Goes (come_goes medium rules count now change body spelled follows)

  pub first_doubt : MayHave medium body (first mid) (first new) →
      IsInDoubt rules (images_of medium (first new)) (state_on medium (first old)) now change
  first_doubt = come_doubt medium rules count now change body spelled follows (first old) (first mid) (first new) first_come

  -- without memory
  abbrev Stays : Slots D → Slots D → Type 0
  Stays a b = EachStays rules (images_of medium b) count (state_on medium a) now

  pub first_stays : Lacks medium body (first mid) (first new) → Stays (first old) (first new)
  first_stays = come_stays medium rules count now change body spelled follows (first old) (first mid) (first new) first_come

  pub second_stays : Changes (Lacks medium body) (second mid) (second new) → Changes Stays (second old) (second new)
  second_stays = joined (Lacks medium body) Stays (come_stays medium rules count now change body spelled follows)

  -- with the record
  abbrev Noted : Slots D → Type 0
  Noted s = EachStands rules (images_of medium s) (next count) later

  pub first_noted : Has medium body (first mid) (first new) → Noted (first new)
  first_noted = come_noted medium rules count now change body spelled follows (first old) (first mid) (first new) first_come

  pub second_noted : Changes (Has medium body) (second mid) (second new) → If Noted (second new)
  second_noted it =
      changes_if (λ _ s. Noted s) Noted (λ _ s here. here) (second old) (second new)
      (joined (Has medium body) (λ _ s. Noted s) (come_noted medium rules count now change body spelled follows) it)

  abbrev Makes : Slots D → Type 0
  Makes s = MakesOf rules (state_on medium s) later

  pub first_makes : Grew medium body (first mid) (first new) → Makes (first new)
  first_makes = come_makes medium rules count now change body spelled follows (first old) (first mid) (first new) first_come

  pub second_makes : Changes (Grew medium body) (second mid) (second new) → If Makes (second new)
  second_makes it =
      changes_if (λ _ s. Makes s) Makes (λ _ s here. here) (second old) (second new)
      (joined (Grew medium body) (λ _ s. Makes s) (come_makes medium rules count now change body spelled follows) it)

  pub first_grown : Grew medium body (first mid) (first new) → IsGrownBy medium rules now change (first old) (first new)
  first_grown = come_grown medium rules count now change body spelled follows (first old) (first mid) (first new) first_come

  pub second_grown : Changes (Grew medium body) (second mid) (second new) →
      Changes (IsGrownBy medium rules now change) (second old) (second new)
  second_grown =
      joined (Grew medium body) (IsGrownBy medium rules now change) (come_grown medium rules count now change body spelled follows)

-- ---- without memory

-- after room was made, a note is without memory if the append was
pub memory_from : {T : Type 0} (fault : JournalFault) (answer : NoteFault) → answer ≡ in_doubt_of fault →
    IsErrOf {T = T} (Err answer) note.NoMemory → IsErrOf {T = T} (Err fault) journal.NoMemory
memory_from journal.NoMemory answer is memory = refl
memory_from {T} journal.Stopped answer is memory =
    let told : Result T NoteFault = Err note.StoppedInDoubt in
    let clash : told ≡ Err note.NoMemory = ap Err (sym is) ∙ memory in
    absurd cc

-- a disk alone
pub lacks_alone : {D : Type 0} (medium : Medium D) (body : List ℕ) (old new : Slots D) (other other_now : Option (Slots D)) → other ≡ None →
    LacksMemory medium body old new other other_now → EachEncodes (header_of old) (images_of medium new) (state_on medium old)
lacks_alone {D} medium body old new other other_now none lacks =
    subst (λ (o : Option (Slots D)). LacksMemory medium body old new o other_now) none lacks

-- the second disk of a pair
pub lacks_second : {D : Type 0} (medium : Medium D) (body : List ℕ) (old new : Slots D) (R : Slots D → Slots D → Type 0)
    (other other_now : Option (Slots D)) → Changes R other other_now → LacksMemory medium body old new other other_now →
    Changes (λ a b. EachEncodes (header_of a) (images_of medium b) (state_on medium a)) other other_now
lacks_second medium body old new R None None there lacks = tt
lacks_second medium body old new R None (Some now) there lacks = absurd there
lacks_second medium body old new R (Some other) None there lacks = absurd there
lacks_second medium body old new R (Some other) (Some now) there lacks = lacks.0

-- ---- counts of faults

module _ {D : Type 0} (medium : Medium D) where
  pub counts_join : {T : Type 0} (result : Result T JournalFault) (one mid now : Slots D) (other other_mid other_now : Option (Slots D)) →
      NoneRose medium one mid other other_mid → CountsBoth medium result mid now other_mid other_now →
      CountsBoth medium result one now other other_now
  counts_join {T} result one mid now other other_mid other_now none both = by result both
    where
      steady : NoneRose medium mid now other_mid other_now → NoneRose medium one now other other_now
      steady it = (
        it.0 ∙ none.0,
        changes_join (Steady medium) (Steady medium) (Steady medium) (λ _ _ _ a b. b ∙ a) other other_mid other_now none.1 it.1,
      )

      rose : (o m n : Option (Slots D)) → Changes (Steady medium) o m → OneRose medium mid now m n → OneRose medium one now o n
      rose None None n same it = subst (λ (n : ℕ). Rose n (medium.faults (disk_of now))) none.0 it
      rose None (Some m) n same it = absurd same
      rose (Some o) None n same it = absurd same
      rose (Some o) (Some m) None same it = absurd it
      rose (Some o) (Some m) (Some n) same it = elim it [
        | inl first ↦ inl (subst (λ (n : ℕ). Rose n (medium.faults (disk_of now))) none.0 first.0, first.1 ∙ same)
        | inr second ↦ inr (second.0 ∙ none.0, subst (λ (k : ℕ). Rose k (medium.faults (disk_of n))) same second.1)
      ]

      by : (r : Result T JournalFault) → CountsBoth medium r mid now other_mid other_now → CountsBoth medium r one now other other_now
      by (Ok _) it = steady it
      by (Err journal.NoMemory) it = steady it
      by (Err journal.Stopped) it = rose other other_mid other_now none.1 it

  module _ (T : Type 0) (one now : Slots D) where
    pub notes_ok : (x : T) (other other_now : Option (Slots D)) → NoneRose medium one now other other_now →
        CountsNotes medium (Ok x) one now other other_now
    notes_ok x None other_now it = it.0
    notes_ok x (Some other) other_now it = it

    pub notes_memory : (other other_now : Option (Slots D)) → NoneRose medium one now other other_now →
        CountsNotes {T = T} medium (Err note.NoMemory) one now other other_now
    notes_memory None other_now it = it.0
    notes_memory (Some other) other_now it = it

    pub notes_by : (result : Result T NoteFault) (other other_now : Option (Slots D)) → IsErrAnd result (λ f. f ≡ note.NoMemory) →
        NoneRose medium one now other other_now → CountsNotes medium result one now other other_now
    notes_by (Ok _) other other_now is it = absurd is
    notes_by (Err f) other other_now is it =
        subst (λ (f : NoteFault). CountsNotes {T = T} medium (Err f) one now other other_now) (sym is) (notes_memory other other_now it)

    -- by a fault of what comes before the record, and of the record
    pub notes_before : (fault : JournalFault) (answer : NoteFault) → answer ≡ before_of fault → (other other_now : Option (Slots D)) →
        CountsBoth {T = T} medium (Err fault) one now other other_now → CountsNotes {T = T} medium (Err answer) one now other other_now
    notes_before fault answer is other other_now both =
        subst (λ (f : NoteFault). CountsNotes {T = T} medium (Err f) one now other other_now) (sym is) (by fault other both)
      where
        by : (why : JournalFault) (o : Option (Slots D)) → CountsBoth {T = T} medium (Err why) one now o other_now →
            CountsNotes {T = T} medium (Err (before_of why)) one now o other_now
        by journal.NoMemory o it = notes_memory o other_now it
        by journal.Stopped None it = it
        by journal.Stopped (Some other) it = it

    pub notes_in_doubt : (fault : JournalFault) (answer : NoteFault) → answer ≡ in_doubt_of fault → (other other_now : Option (Slots D)) →
        CountsBoth {T = T} medium (Err fault) one now other other_now → CountsNotes {T = T} medium (Err answer) one now other other_now
    notes_in_doubt fault answer is other other_now both =
        subst (λ (f : NoteFault). CountsNotes {T = T} medium (Err f) one now other other_now) (sym is) (by fault other both)
      where
        by : (why : JournalFault) (o : Option (Slots D)) → CountsBoth {T = T} medium (Err why) one now o other_now →
            CountsNotes {T = T} medium (Err (in_doubt_of why)) one now o other_now
        by journal.NoMemory o it = notes_memory o other_now it
        by journal.Stopped None it = it
        by journal.Stopped (Some other) it = it
