-- Two disks by the slots on each, the second of which may be missing.
use Rattle.std.specs.Prelude.{◌≡◌, ◌⊎◌, ℕ, Bool, true, false, List, Option, Some, None, Result, Ok, Err}
use Rattle.iot_count.specs.Counts.{Rose, Stayed}
use Rattle.iot_disk.specs.Disk.{Medium}
use Rattle.iot_disk.specs.declared.faults.JournalFault.{JournalFault}
use Rattle.iot_disk.specs.declared.faults.JournalFault.TheVariants as journal
use Rattle.iot_slots.specs.Layouts.{is_due}
use Rattle.iot_slots.specs.Slots.{appended, EachEncodes}
use Rattle.iot_slots.specs.Slots as slots
use Rattle.iot_slots.specs.declared.slots.Slots.{Slots}

-- the first one, or the second
abbrev pub part : {X : Type 0} → (second : Bool) → X → Option X → Option X
part false one other = Some one
part true one other = other

-- it is there
abbrev pub IsThere : {X : Type 0} → Option X → Type 0
IsThere (Some x) = Unit {0}
IsThere None = ⊥

-- what is said of it if it is there
abbrev pub If : {X : Type 0} → (X → Type 0) → Option X → Type 0
If P (Some x) = P x
If P None = Unit {0}

-- what is said of it before and now if it is there; none comes, and none goes
abbrev pub Changes : {X : Type 0} → (X → X → Type 0) → (before now : Option X) → Type 0
Changes R (Some before) (Some now) = R before now
Changes R None None = Unit {0}
Changes R (Some before) None = ⊥
Changes R None (Some now) = ⊥

-- nothing is under way on either disk, and both have the same header and count
pub record AreSynced {D : Type 0} (medium : Medium D) (one : Slots D) (other : Option (Slots D)) : Type 0 where
  pub first : slots.IsSynced medium one
  pub second : If (slots.IsSynced medium) other
  pub header : If (λ s. slots.header_of s ≡ slots.header_of one) other
  pub count : If (λ s. slots.count_of s ≡ slots.count_of one) other

-- a checkpoint is to come on this disk before an append of a body of so many bytes
abbrev pub is_due_on : {D : Type 0} → Medium D → (size : ℕ) → Option (Slots D) → Bool
is_due_on medium size (Some s) = is_due (slots.state_on medium s).bodies (slots.layout_of s) size
is_due_on medium size None = false

-- After an append without memory: a disk alone has no new record. Of a pair's disks the second has none, and the first has it in each image
-- or in none.
abbrev pub LacksMemory : {D : Type 0} → (medium : Medium D) → (body : List ℕ) → (before now : Slots D) →
    (other_before other_now : Option (Slots D)) → Type 0
LacksMemory medium body before now None other_now =
    EachEncodes (slots.header_of before) (medium.may_leave (slots.disk_of now)) (slots.state_on medium before)
LacksMemory medium body before now (Some other) None = ⊥
LacksMemory medium body before now (Some other) (Some other_now) =
    EachEncodes (slots.header_of other) (medium.may_leave (slots.disk_of other_now)) (slots.state_on medium other)
    × (EachEncodes (slots.header_of before) (medium.may_leave (slots.disk_of now)) (slots.state_on medium before)
    ⊎ EachEncodes (slots.header_of before) (medium.may_leave (slots.disk_of now)) (appended (slots.state_on medium before) body))

-- ---- counts of faults

-- both disks' counts are what they were
abbrev pub NoneRose : {D : Type 0} → (medium : Medium D) → (before now : Slots D) → (other_before other_now : Option (Slots D)) → Type 0
NoneRose medium before now other_before other_now =
    Stayed (medium.faults (slots.disk_of before)) (medium.faults (slots.disk_of now))
    × Changes (λ old new. Stayed (medium.faults (slots.disk_of old)) (medium.faults (slots.disk_of new))) other_before other_now

-- one disk's count rose, and the other's is what it was
abbrev pub OneRose : {D : Type 0} → (medium : Medium D) → (before now : Slots D) → (other_before other_now : Option (Slots D)) → Type 0
OneRose medium before now None other_now = Rose (medium.faults (slots.disk_of before)) (medium.faults (slots.disk_of now))
OneRose medium before now (Some other) None = ⊥
OneRose medium before now (Some other) (Some other_now) =
    (Rose (medium.faults (slots.disk_of before)) (medium.faults (slots.disk_of now))
    × Stayed (medium.faults (slots.disk_of other)) (medium.faults (slots.disk_of other_now)))
    ⊎ (Stayed (medium.faults (slots.disk_of before)) (medium.faults (slots.disk_of now))
    × Rose (medium.faults (slots.disk_of other)) (medium.faults (slots.disk_of other_now)))

-- exactly one rises if the call was stopped, and only then
abbrev pub CountsBoth : {D : Type 0} → {T : Type 0} → (medium : Medium D) → Result T JournalFault → (before now : Slots D) →
    (other_before other_now : Option (Slots D)) → Type 0
CountsBoth medium (Ok _) before now other_before other_now = NoneRose medium before now other_before other_now
CountsBoth medium (Err journal.NoMemory) before now other_before other_now = NoneRose medium before now other_before other_now
CountsBoth medium (Err journal.Stopped) before now other_before other_now = OneRose medium before now other_before other_now
