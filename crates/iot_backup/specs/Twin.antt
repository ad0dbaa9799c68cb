-- A twin over its disks.
use Rattle.std.specs.Prelude.{ℕ, Bool, false, Option, Some, None, Result}
use Rattle.iot_disk.specs.Disk.{Medium}
use Rattle.iot_disk.specs.declared.faults.JournalFault.{JournalFault}
use Rattle.iot_slots.specs.Due.{due_on}
use Rattle.iot_slots.specs.Slots as slots
use Rattle.iot_slots.specs.declared.slots.Slots.{Slots}
use Rattle.iot_backup.specs.Parts.{part, AreSynced, CountsBoth}
use Rattle.iot_backup.specs.declared.twin.Twin.{Twin}

abbrev pub first_of : {D : Type 0} → Twin D → Slots D
first_of twin = twin.first

abbrev pub second_of : {D : Type 0} → Twin D → Option (Slots D)
second_of twin = twin.second

-- the first disk's slots, or the second one's
abbrev pub part_of : {D : Type 0} → (second : Bool) → Twin D → Option (Slots D)
part_of second twin = part second twin.first twin.second

-- nothing is under way on either disk, and both have the same header and count
abbrev pub IsSynced : {D : Type 0} → (medium : Medium D) → (twin : Twin D) → Type 0
IsSynced medium twin = AreSynced medium twin.first twin.second

-- a checkpoint is to come on this disk before an append of a body of so many bytes
abbrev pub due_by : {D : Type 0} → Medium D → (size : ℕ) → Option (Slots D) → Bool
due_by medium size (Some s) = due_on (slots.header_of s) (medium.reads (slots.disk_of s)) size
due_by medium size None = false

-- of the counts of faults exactly one rises if the call was stopped, and only then
abbrev pub CountsFaults : {D : Type 0} → {T : Type 0} → (medium : Medium D) → Result T JournalFault → (before now : Twin D) → Type 0
CountsFaults medium result before now = CountsBoth medium result before.first now.first before.second now.second
