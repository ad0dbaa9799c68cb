-- What a durable state answers when a change is not noted.
use Rattle.std.specs.Prelude.{ℕ, Option, Some, None, Result, Ok, Err}
use Rattle.iot_count.specs.Counts.{Rose, Stayed}
use Rattle.iot_disk.specs.Disk.{Medium}
use Rattle.iot_disk.specs.declared.faults.JournalFault.{JournalFault}
use Rattle.iot_disk.specs.declared.faults.JournalFault.TheVariants as journal
use Rattle.iot_slots.specs.Slots.{disk_of}
use Rattle.iot_slots.specs.declared.slots.Slots.{Slots}
use Rattle.iot_backup.specs.Parts.{NoneRose, OneRose}
use Rattle.iot_durable.specs.declared.fault.NoteFault.{NoteFault}
use Rattle.iot_durable.specs.declared.fault.NoteFault.TheVariants as note

-- by a checkpoint that comes before the record
abbrev pub before_of : JournalFault → NoteFault
before_of journal.NoMemory = note.NoMemory
before_of journal.Stopped = note.StoppedBefore

-- by the append of the record
abbrev pub in_doubt_of : JournalFault → NoteFault
in_doubt_of journal.NoMemory = note.NoMemory
in_doubt_of journal.Stopped = note.StoppedInDoubt

-- the same for one who does not ask where it was stopped
abbrev pub journal_of : NoteFault → JournalFault
journal_of note.NoMemory = journal.NoMemory
journal_of note.StoppedBefore = journal.Stopped
journal_of note.StoppedInDoubt = journal.Stopped

-- the disk's count of faults, before and after a call with this answer: it rises if the call was stopped, and only then
abbrev pub CountsNoteFault : {T : Type 0} → Result T NoteFault → ℕ → ℕ → Type 0
CountsNoteFault (Ok _) before now = Stayed before now
CountsNoteFault (Err note.NoMemory) before now = Stayed before now
CountsNoteFault (Err note.StoppedBefore) before now = Rose before now
CountsNoteFault (Err note.StoppedInDoubt) before now = Rose before now

-- the same of two disks: exactly one's count rises if the call was stopped, and none else
abbrev pub CountsNoteOfPair : {D : Type 0} → {T : Type 0} → (medium : Medium D) → Result T NoteFault → (before now : Slots D) →
    (other_before other_now : Option (Slots D)) → Type 0
CountsNoteOfPair medium (Ok _) before now other_before other_now = NoneRose medium before now other_before other_now
CountsNoteOfPair medium (Err note.NoMemory) before now other_before other_now = NoneRose medium before now other_before other_now
CountsNoteOfPair medium (Err note.StoppedBefore) before now other_before other_now = OneRose medium before now other_before other_now
CountsNoteOfPair medium (Err note.StoppedInDoubt) before now other_before other_now = OneRose medium before now other_before other_now

-- of one disk, or of two
abbrev pub CountsNotes : {D : Type 0} → {T : Type 0} → (medium : Medium D) → Result T NoteFault → (before now : Slots D) →
    (other_before other_now : Option (Slots D)) → Type 0
CountsNotes medium result before now None other_now =
    CountsNoteFault result (medium.faults (disk_of before)) (medium.faults (disk_of now))
CountsNotes medium result before now (Some other) other_now = CountsNoteOfPair medium result before now (Some other) other_now
