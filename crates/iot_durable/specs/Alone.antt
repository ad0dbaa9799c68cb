-- A durable state over one disk alone.
use Rattle.std.specs.Prelude.{ℕ, Option, None}
use Rattle.iot_disk.specs.Disk.{Medium}
use Rattle.iot_slots.specs.Decoding.{State}
use Rattle.iot_slots.specs.declared.slots.Slots.{Slots}
use Rattle.iot_slots.specs.declared.version.Version.{Version}
use Rattle.iot_durable.specs.Rules.{Rules}
use Rattle.iot_durable.specs.Durable as durable
use Rattle.iot_durable.specs.declared.durable.Durable.{Durable}

-- the slots of a disk alone are the first ones, and there are no others
abbrev pub first : {D : Type 0} → Slots D → Slots D
first slots = slots

abbrev pub second : {D : Type 0} → Slots D → Option (Slots D)
second slots = None

-- what is in memory
abbrev pub memory_of : {R D : Type 0} → Durable R (Slots D) → R
memory_of it = durable.memory_of it

-- the disk
abbrev pub disk_of : {R D : Type 0} → Durable R (Slots D) → D
disk_of it = durable.disk_of first it

-- the number of records ever appended, modulo 2 ^ 64
abbrev pub count_of : {R D : Type 0} → Durable R (Slots D) → ℕ
count_of it = durable.count_of first it

-- the body and the records on its disk
abbrev pub encoded_on : {R D : Type 0} → Medium D → Durable R (Slots D) → State
encoded_on medium it = durable.encoded_on medium first it

-- nothing is under way: the disk has one image, which makes what is kept of the state in memory
abbrev pub IsSynced : {R D S C : Type 0} → (medium : Medium D) → (rules : Version → Rules S C) → (kept : R → S) →
    (IsSound : R → Type 0) → Durable R (Slots D) → Type 0
IsSynced medium rules kept IsSound it = durable.IsSynced medium first second rules kept IsSound it

-- the last record on the disk spells the change; before it is what was there, or a checkpoint of the state alone if one was due
abbrev pub IsRecorded : {R D S C : Type 0} → (medium : Medium D) → (rules : Version → Rules S C) → (kept : R → S) →
    (old new : Durable R (Slots D)) → (change : C) → Type 0
IsRecorded medium rules kept old new change = durable.IsRecorded medium first rules kept old new change
