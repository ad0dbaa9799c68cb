-- Checkpoints on one disk or two, which make room for a record.
use Rattle.std.proofs.Common.{◌≡◌, ℕ, Bool, true, false, List, [], Option, Some, None, Ok, Err, inl, inr, refl, sym, ap, ◌∙◌, subst}
use Rattle.std.specs.Prelude.{not, Result, IfErr, OnOk}
use Rattle.iot_count.specs.Counts.{Rose, Stayed}
use Rattle.iot_disk.specs.Disk.{Medium}
use Rattle.iot_disk.specs.Faults.{CountsJournalFault}
use Rattle.iot_disk.specs.declared.faults.JournalFault.{JournalFault}
use Rattle.iot_disk.specs.declared.faults.JournalFault.TheVariants as journal
use Rattle.iot_slots.specs.Layouts.{is_due, MakesRoom}
use Rattle.iot_slots.specs.Slots as on_slots
use Rattle.iot_slots.specs.Slots.{disk_of, header_of, count_of, layout_of, state_on, renewed, EachEncodes, EachEncodesEither}
use Rattle.iot_slots.specs.Decoding.{State}
use Rattle.iot_slots.specs.declared.slots.Slots.{Slots}
use Rattle.iot_slots.specs.declared.version.Version.{Version}
use Rattle.iot_slots.specs.declared.version.Version.TheVariants.{Two}
use Rattle.iot_backup.specs.Following.{MayFollow}
use Rattle.iot_backup.specs.Pairs.{EachPair, EachInStep}
use Rattle.iot_backup.specs.Parts.{is_due_on, part, IsThere, If, Changes, AreSynced, NoneRose, OneRose, CountsBoth}
use Rattle.iot_backup.specs.Start.{MayBeBehind}
use Rattle.iot_backup.specs.Twin.{due_by}
use Rattle.iot_backup.proofs.PairsLaws.{counts_in_step, counts_again, each_counts, synced_due, synced_each}
use Rattle.iot_durable.specs.Rules.{Rules}
use Rattle.iot_durable.specs.Standing.{MakesOf, IsAlone, EachStays}
use Rattle.iot_durable.specs.Standing as standing
use Rattle.iot_durable.specs.Durable.{images_of, Keeps, HasRoom}
use Rattle.iot_durable.proofs.ImagesLaws.{idle_stays, both_stay, makes_whole, stays_twice}
use Rattle.iot_durable.proofs.PartsLaws.{changes_same, changes_if, part_new}

pub ok_both : {T E : Type 0} {A B C : Type 0} (result : Result T E) → (A → B → C) → OnOk result A → OnOk result B → OnOk result C
ok_both (Ok _) so a b = so a b
ok_both (Err _) so a b = tt

-- ---- a start from two disks

module _ {X : Type 0} (header : List ℕ) (ones : List ℕ → Type 0) (others : X → List ℕ → Type 0) where
  pub both_follow : (o : Option X) → If (λ s. EachInStep header ones (others s)) o
      → ((body : List ℕ) → If (λ s. EachPair (MayBeBehind header body) ones (others s)) o)
      → If (λ s. EachPair (MayFollow header) ones (others s)) o
  both_follow None step behind = tt
  both_follow (Some s) step behind = record {
    each = λ i j left right. record { step = step.each i j left right; behind = λ body. (behind body).each i j left right };
  }

-- under an equal header
pub follow_under : {X : Type 0} (head header : List ℕ) (ones : List ℕ → Type 0) (others : X → List ℕ → Type 0) (o : Option X) →
    head ≡ header → If (λ s. EachPair (MayFollow head) ones (others s)) o → If (λ s. EachPair (MayFollow header) ones (others s)) o
follow_under head header ones others o is follows =
    subst (λ (h : List ℕ). If (λ s. EachPair (MayFollow h) ones (others s)) o) is follows

-- disks on which nothing is under way
pub synced_follow : {D : Type 0} (medium : Medium D) (header : List ℕ) (one : Slots D) (other : Option (Slots D)) → header_of one ≡ header →
    AreSynced medium one other → If (λ s. EachPair (MayFollow header) (images_of medium one) (images_of medium s)) other
synced_follow {D} medium header one other head synced = by other synced.second synced.header synced.count
  where
    encodes : (s : Slots D) → header_of s ≡ header → on_slots.IsSynced medium s →
        EachEncodes header (images_of medium s) (state_on medium s)
    encodes s is it = subst (λ (h : List ℕ). EachEncodes h (images_of medium s) (state_on medium s)) is (synced_each medium s it)

    by : (o : Option (Slots D)) → If (on_slots.IsSynced medium) o → If (λ s. header_of s ≡ header_of one) o →
        If (λ s. count_of s ≡ count_of one) o → If (λ s. EachPair (MayFollow header) (images_of medium one) (images_of medium s)) o
    by None it is count = tt
    by (Some s) it is count =
        let all = each_counts header (images_of medium one) (state_on medium one) (count_of one) (sym synced.first.layout.count)
        (encodes one head synced.first) in
        let also = each_counts header (images_of medium s) (state_on medium s) (count_of one) (sym it.layout.count ∙ count)
        (encodes s (is ∙ head) it) in
        both_follow header (images_of medium one) (images_of medium) (Some s)
        (counts_in_step header (count_of one) (images_of medium one) (images_of medium s) all also)
        (counts_again header (count_of one) (images_of medium one) (images_of medium s) all also)

-- ---- one disk

module _ {D S C : Type 0} (medium : Medium D) (rules : Version → Rules S C) (count : ℕ) (now : S) where
  -- nothing is under way on it, and what it encodes makes the state, with so many records
  pub record IsKept (slots : Slots D) : Type 0 where
    pub synced : on_slots.IsSynced medium slots
    pub header_is : header_of slots ≡ standing.header_of rules
    pub counted : (state_on medium slots).count ≡ count
    pub makes : MakesOf rules (state_on medium slots) now

  pub kept_stays : (slots : Slots D) → IsKept slots → EachStays rules (images_of medium slots) count (state_on medium slots) now
  kept_stays slots kept =
      idle_stays rules _ _ _ _ _ _ kept.header_is kept.synced.only kept.synced.encodes kept.counted kept.makes

  -- a checkpoint of the whole, or none
  pub renewed_stays : (body : List ℕ) → (rules Two).IsBody body now → (old new : Slots D) → IsKept old →
      EachEncodesEither (header_of old) (images_of medium new) (state_on medium old) (renewed (state_on medium old) body) →
      EachStays rules (images_of medium new) count (state_on medium old) now
  renewed_stays body spells old new kept either = both_stay rules _ _ _ body _ _ kept.header_is either kept.counted kept.makes spells

module _ {D S C : Type 0} (medium : Medium D) (rules : Version → Rules S C) (now : S) where
  abbrev pub Alone : Slots D → Slots D → Type 0
  Alone old new = IsAlone rules (state_on medium old) now (state_on medium new)

  pub renewed_alone : (body : List ℕ) → (rules Two).IsBody body now → (old new : Slots D) →
      state_on medium new ≡ renewed (state_on medium old) body → Alone old new
  renewed_alone body spells old new is = record { body = body; spells = spells; is = is }

  alone_makes : (old new : Slots D) → Alone old new → MakesOf rules (state_on medium new) now
  alone_makes old new it =
      subst (λ (e : State). MakesOf rules e now) (sym it.is) (makes_whole rules it.body now it.spells)

  alone_empty : (old new : Slots D) → Alone old new → (state_on medium new).bodies ≡ []
  alone_empty old new it = ap (λ (e : State). e.bodies) it.is

  -- of both disks, of which one got a checkpoint
  pub alone_both : (b : Bool) (one one_now : Slots D) (other other_now : Option (Slots D)) →
      Changes Alone (part b one other) (part b one_now other_now) → part (not b) one_now other_now ≡ part (not b) one other →
      MakesOf rules (state_on medium one) now → If (λ s. MakesOf rules (state_on medium s) now) other →
      MakesOf rules (state_on medium one_now) now × If (λ s. MakesOf rules (state_on medium s) now) other_now
  alone_both b one one_now other other_now it same =
      part_new (λ s. MakesOf rules (state_on medium s) now) b one one_now other other_now
      (changes_if Alone (λ s. MakesOf rules (state_on medium s) now) alone_makes (part b one other) (part b one_now other_now) it) same

  module _ (size : ℕ) where
    abbrev pub Room : Slots D → Slots D → Type 0
    Room = HasRoom medium rules now size

    pub room_idle : (o : Option (Slots D)) → is_due_on medium size o ≡ false → Changes Room o o
    room_idle None idle = tt
    room_idle (Some s) idle = record {
      renews = inl refl;
      same = λ _. refl;
      renewed = λ due. let clash : true ≡ false = sym due ∙ idle in absurd cc;
      room = idle;
    }

    pub room_once : (a b : Option (Slots D)) → is_due_on medium size a ≡ true → Changes Alone a b → is_due_on medium size b ≡ false →
        Changes Room a b
    room_once None b due it idle = let clash : false ≡ true = due in absurd cc
    room_once (Some old) None due it idle = absurd it
    room_once (Some old) (Some new) due it idle = record {
      renews = inr it;
      same = λ not. let clash : true ≡ false = sym due ∙ not in absurd cc;
      renewed = λ _. alone_empty old new it;
      room = idle;
    }

    abbrev pub Makes : Slots D → Slots D → Type 0
    Makes old new = MakesRoom (layout_of old) (layout_of new)

    pub room_twice : (a b c : Option (Slots D)) → is_due_on medium size a ≡ true → Changes Alone a b → Changes Makes a b →
        is_due_on medium size b ≡ true → Changes Alone b c → Changes Makes b c → Changes Room a c
    room_twice None b c due one makes again two more = let clash : false ≡ true = due in absurd cc
    room_twice (Some old) None c due one makes again two more = absurd one
    room_twice (Some old) (Some mid) None due one makes again two more = absurd two
    room_twice (Some old) (Some mid) (Some new) due one makes again two more =
        let here : is_due [] (layout_of mid) size ≡ true =
        ap (λ (bs : List (List ℕ)). is_due bs (layout_of mid) size) (sym (alone_empty old mid one)) ∙ again in
        record {
          renews = inr (record { body = two.body; spells = two.spells; is = two.is ∙ ap (λ (e : State). renewed e two.body) one.is });
          same = λ not. let clash : true ≡ false = sym due ∙ not in absurd cc;
          renewed = λ _. alone_empty mid new two;
          room = ap (λ (bs : List (List ℕ)). is_due bs (layout_of new) size) (alone_empty mid new two)
              ∙ more.twice (makes.once size here) size;
        }

-- the second of two checkpoints
pub alone_stays : {D S C : Type 0} (medium : Medium D) (rules : Version → Rules S C) (count : ℕ) (now : S) (old mid new : Slots D) →
    Alone medium rules now old mid → EachStays rules (images_of medium new) count (state_on medium mid) now →
    EachStays rules (images_of medium new) count (state_on medium old) now
alone_stays medium rules count now old mid new one stays =
    stays_twice rules (images_of medium new) count (state_on medium old) (state_on medium mid) now one stays

-- ---- a log

module _ {L D S C : Type 0} (medium : Medium D) (first : L → Slots D) (second : L → Option (Slots D)) (rules : Version → Rules S C)
    (now : S) (log : L) (keeps : Keeps medium first second rules now log) where
  pub kept_first : IsKept medium rules (count_of (first log)) now (first log)
  kept_first = record {
    synced = keeps.disks.first;
    header_is = keeps.header_is;
    counted = sym keeps.disks.first.layout.count;
    makes = keeps.makes;
  }

  pub kept_second : If (IsKept medium rules (count_of (first log)) now) (second log)
  kept_second = by (second log) keeps.disks.second keeps.disks.header keeps.disks.count keeps.also
    where
      by : (o : Option (Slots D)) → If (on_slots.IsSynced medium) o → If (λ s. header_of s ≡ header_of (first log)) o →
          If (λ s. count_of s ≡ count_of (first log)) o → If (λ s. MakesOf rules (state_on medium s) now) o →
          If (IsKept medium rules (count_of (first log)) now) o
      by None it is count makes = tt
      by (Some s) it is count makes = record {
        synced = it;
        header_is = is ∙ keeps.header_is;
        counted = sym it.layout.count ∙ count;
        makes = makes;
      }

  pub kept_part : (b : Bool) → If (IsKept medium rules (count_of (first log)) now) (part b (first log) (second log))
  kept_part false = kept_first
  kept_part true = kept_second

  -- nothing was done
  pub keeps_stays : EachStays rules (images_of medium (first log)) (count_of (first log)) (state_on medium (first log)) now
  keeps_stays = kept_stays medium rules (count_of (first log)) now (first log) kept_first

  pub keeps_stay : Changes (λ a b. EachStays rules (images_of medium b) (count_of (first log)) (state_on medium a) now)
      (second log) (second log)
  keeps_stay =
      changes_same (IsKept medium rules (count_of (first log)) now)
      (λ a b. EachStays rules (images_of medium b) (count_of (first log)) (state_on medium a) now)
      (kept_stays medium rules (count_of (first log)) now) (second log) (second log) refl kept_second

  pub keeps_follow : If (λ s. EachPair (MayFollow (standing.header_of rules)) (images_of medium (first log)) (images_of medium s))
      (second log)
  keeps_follow = synced_follow medium (standing.header_of rules) (first log) (second log) keeps.header_is keeps.disks

-- ---- counts of faults

module _ {D : Type 0} (medium : Medium D) where
  abbrev pub Counts : {T : Type 0} → Result T JournalFault → Slots D → Slots D → Type 0
  Counts result old new = CountsJournalFault result (medium.faults (disk_of old)) (medium.faults (disk_of new))

  abbrev pub Steady : Slots D → Slots D → Type 0
  Steady old new = Stayed (medium.faults (disk_of old)) (medium.faults (disk_of new))

  pub steady_counts : {T : Type 0} (result : Result T JournalFault) (old mid new : Slots D) → Steady old mid → Counts result mid new →
      Counts result old new
  steady_counts result old mid new one two = subst (λ (n : ℕ). CountsJournalFault result n (medium.faults (disk_of new))) one two

  pub none_rose : (one one_now : Slots D) (other : Option (Slots D)) → Steady one one_now → NoneRose medium one one_now other other
  none_rose one one_now other stayed = (stayed, changes_same (λ _. Unit {0}) Steady (λ _ _. refl) other other refl (there other))
    where
      there : (o : Option (Slots D)) → If (λ _. Unit {0}) o
      there (Some s) = tt
      there None = tt

  -- the first disk was concerned
  pub counts_first : {T : Type 0} (result : Result T JournalFault) (one one_now : Slots D) (other other_now : Option (Slots D)) →
      Counts result one one_now → other_now ≡ other → CountsBoth medium result one one_now other other_now
  counts_first {T} result one one_now other other_now it same = subst (CountsBoth medium result one one_now other) (sym same) (by result it)
    where
      rose : (o : Option (Slots D)) → Rose (medium.faults (disk_of one)) (medium.faults (disk_of one_now)) → OneRose medium one one_now o o
      rose None it = it
      rose (Some s) it = inl (it, refl)

      by : (r : Result T JournalFault) → Counts r one one_now → CountsBoth medium r one one_now other other
      by (Ok _) it = none_rose one one_now other it
      by (Err journal.NoMemory) it = none_rose one one_now other it
      by (Err journal.Stopped) it = rose other it

  -- and then the second
  pub counts_second : {T : Type 0} (result : Result T JournalFault) (one one_now : Slots D) (other other_now : Option (Slots D)) →
      Steady one one_now → IfErr result (λ _. IsThere other) → Changes (Counts result) other other_now →
      CountsBoth medium result one one_now other other_now
  counts_second (Ok _) one one_now other other_now stayed there it = (stayed, it)
  counts_second (Err journal.NoMemory) one one_now other other_now stayed there it = (stayed, it)
  counts_second (Err journal.Stopped) one one_now None other_now stayed there it = absurd there
  counts_second (Err journal.Stopped) one one_now (Some other) None stayed there it = absurd it
  counts_second (Err journal.Stopped) one one_now (Some other) (Some now) stayed there it = inr (stayed, it)

-- ---- when a checkpoint is due

-- by the bytes, as by the layout
pub due_laid : {D : Type 0} (medium : Medium D) (size : ℕ) (o : Option (Slots D)) → If (on_slots.IsSynced medium) o →
    due_by medium size o ≡ is_due_on medium size o
due_laid medium size None synced = refl
due_laid medium size (Some s) synced = synced_due medium s synced size
