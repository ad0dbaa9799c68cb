-- A durable state over a twin: one disk, or two, the second of which follows the first.
use Rattle.std.specs.Prelude.{ℕ, Bool, Option}
use Rattle.iot_disk.specs.Disk.{Medium}
use Rattle.iot_slots.specs.Decoding.{State}
use Rattle.iot_slots.specs.declared.slots.Slots.{Slots}
use Rattle.iot_slots.specs.declared.version.Version.{Version}
use Rattle.iot_backup.specs.Twin as twins
use Rattle.iot_backup.specs.declared.twin.Twin.{Twin}
use Rattle.iot_durable.specs.Rules.{Rules}
use Rattle.iot_durable.specs.Durable as durable
use Rattle.iot_durable.specs.declared.durable.Durable.{Durable}

-- what is in memory
abbrev pub memory_of : {R D : Type 0} → Durable R (Twin D) → R
memory_of it = durable.memory_of it

-- the slots of the first disk
abbrev pub first_of : {R D : Type 0} → Durable R (Twin D) → Slots D
first_of it = durable.first_of twins.first_of it

-- those of the second disk, if there is one
abbrev pub second_of : {R D : Type 0} → Durable R (Twin D) → Option (Slots D)
second_of it = durable.second_of twins.second_of it

-- those of the first, or of the second
abbrev pub part_of : {R D : Type 0} → (second : Bool) → Durable R (Twin D) → Option (Slots D)
part_of second it = twins.part_of second it.log

-- the first disk
abbrev pub disk_of : {R D : Type 0} → Durable R (Twin D) → D
disk_of it = durable.disk_of twins.first_of it

-- the number of records ever appended, modulo 2 ^ 64
abbrev pub count_of : {R D : Type 0} → Durable R (Twin D) → ℕ
count_of it = durable.count_of twins.first_of it

-- the body and the records on the first disk
abbrev pub encoded_on : {R D : Type 0} → Medium D → Durable R (Twin D) → State
encoded_on medium it = durable.encoded_on medium twins.first_of it

-- nothing is under way: each disk has one image, which makes what is kept of the state in memory
abbrev pub IsSynced : {R D S C : Type 0} → (medium : Medium D) → (rules : Version → Rules S C) → (kept : R → S) →
    (IsSound : R → Type 0) → Durable R (Twin D) → Type 0
IsSynced medium rules kept IsSound it = durable.IsSynced medium twins.first_of twins.second_of rules kept IsSound it

-- the last record on the first disk spells the change; before it is what was there, or a checkpoint of the state alone if one was due
abbrev pub IsRecorded : {R D S C : Type 0} → (medium : Medium D) → (rules : Version → Rules S C) → (kept : R → S) →
    (old new : Durable R (Twin D)) → (change : C) → Type 0
IsRecorded medium rules kept old new change = durable.IsRecorded medium twins.first_of rules kept old new change
