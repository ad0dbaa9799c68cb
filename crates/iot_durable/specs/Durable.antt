-- A durable state over what keeps it: a log, which has the slots of a first disk, and those of a second one if there is one.
use Rattle.std.specs.Prelude.{◌≡◌, ℕ, Bool, true, false, List, [], length, Option}
use Rattle.iot_disk.specs.Disk.{Medium}
use Rattle.iot_slots.specs.Decoding.{State}
use Rattle.iot_slots.specs.Layouts.{is_due}
use Rattle.iot_slots.specs.Slots as on_slots
use Rattle.iot_slots.specs.declared.slots.Slots.{Slots}
use Rattle.iot_slots.specs.declared.version.Version.{Version}
use Rattle.iot_backup.specs.Parts.{If, AreSynced}
use Rattle.iot_durable.specs.Rules.{Rules}
use Rattle.iot_durable.specs.Standing.{MakesOf, IsNext, IsRenewed, header_of}
use Rattle.iot_durable.specs.declared.durable.Durable.{Durable}

-- what is in memory
abbrev pub memory_of : {R L : Type 0} → Durable R L → R
memory_of durable = durable.state

-- the slots of the first disk
abbrev pub first_of : {R L D : Type 0} → (first : L → Slots D) → Durable R L → Slots D
first_of first durable = first durable.log

-- those of the second disk, if there is one
abbrev pub second_of : {R L D : Type 0} → (second : L → Option (Slots D)) → Durable R L → Option (Slots D)
second_of second durable = second durable.log

-- the first disk
abbrev pub disk_of : {R L D : Type 0} → (first : L → Slots D) → Durable R L → D
disk_of first durable = on_slots.disk_of (first durable.log)

-- the number of records ever appended, modulo 2 ^ 64
abbrev pub count_of : {R L D : Type 0} → (first : L → Slots D) → Durable R L → ℕ
count_of first durable = on_slots.count_of (first durable.log)

-- the body and the records on the first disk
abbrev pub encoded_on : {R L D : Type 0} → Medium D → (first : L → Slots D) → Durable R L → State
encoded_on medium first durable = on_slots.state_on medium (first durable.log)

-- what a crash now may leave of the disk under these slots
abbrev pub images_of : {D : Type 0} → Medium D → Slots D → List ℕ → Type 0
images_of medium slots = medium.may_leave (on_slots.disk_of slots)

-- nothing is under way on the disks of a log, and what each encodes makes the state
pub record Keeps {L D S C : Type 0} (medium : Medium D) (first : L → Slots D) (second : L → Option (Slots D)) (rules : Version → Rules S C)
    (now : S) (log : L) : Type 0 where
  pub disks : AreSynced medium (first log) (second log)
  pub header_is : on_slots.header_of (first log) ≡ header_of rules
  pub makes : MakesOf rules (on_slots.state_on medium (first log)) now
  pub also : If (λ s. MakesOf rules (on_slots.state_on medium s) now) (second log)

-- nothing is under way: each disk has one image, which makes what is kept of the state in memory
pub record IsSynced {R L D S C : Type 0} (medium : Medium D) (first : L → Slots D) (second : L → Option (Slots D))
    (rules : Version → Rules S C) (kept : R → S) (IsSound : R → Type 0) (durable : Durable R L) : Type 0 where
  pub disks : AreSynced medium (first durable.log) (second durable.log)
  pub header_is : on_slots.header_of (first durable.log) ≡ header_of rules
  pub makes : MakesOf rules (encoded_on medium first durable) (kept durable.state)
  pub also : If (λ s. MakesOf rules (on_slots.state_on medium s) (kept durable.state)) (second durable.log)
  pub sound : IsSound durable.state

-- whether a checkpoint is to come before a record with a body of this size
abbrev pub due_on : {D : Type 0} → Medium D → Slots D → (size : ℕ) → Bool
due_on medium slots size = is_due (on_slots.state_on medium slots).bodies (on_slots.layout_of slots) size

-- there is room on a disk for a record with a body of this size: there is what was there, or a checkpoint of the state alone if one was due
pub record HasRoom {D S C : Type 0} (medium : Medium D) (rules : Version → Rules S C) (now : S) (size : ℕ) (old new : Slots D)
    : Type 0 where
  pub renews : IsRenewed rules (on_slots.state_on medium old) now (on_slots.state_on medium new)
  pub same : due_on medium old size ≡ false → on_slots.state_on medium new ≡ on_slots.state_on medium old
  pub renewed : due_on medium old size ≡ true → (on_slots.state_on medium new).bodies ≡ []
  pub room : due_on medium new size ≡ false

-- the last record on a disk spells the change; before it is what was there, or a checkpoint of the state alone if one was due
pub record IsGrownBy {D S C : Type 0} (medium : Medium D) (rules : Version → Rules S C) (now : S) (change : C) (old new : Slots D)
    : Type 0 where
  pub body : List ℕ
  pub before : State
  pub next : IsNext rules before body change
  pub renews : IsRenewed rules (on_slots.state_on medium old) now before
  pub is : on_slots.state_on medium new ≡ on_slots.appended before body
  pub same : due_on medium old (length body) ≡ false → before ≡ on_slots.state_on medium old
  pub renewed : due_on medium old (length body) ≡ true → before.bodies ≡ []

-- that is so of the first disk
abbrev pub IsRecorded : {R L D S C : Type 0} → (medium : Medium D) → (first : L → Slots D) → (rules : Version → Rules S C) →
    (kept : R → S) → (old new : Durable R L) → (change : C) → Type 0
IsRecorded medium first rules kept old new change = IsGrownBy medium rules (kept old.state) change (first old.log) (first new.log)
