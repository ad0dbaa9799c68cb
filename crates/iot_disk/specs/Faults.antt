-- What a start and an append answer when their disk fails.
use Rattle.std.specs.Prelude.{ℕ, Result, Ok, Err}
use Rattle.iot_count.specs.Counts.{Rose, Stayed}
use Rattle.iot_disk.specs.declared.disk.DiskFault.{DiskFault}
use Rattle.iot_disk.specs.declared.disk.DiskFault.TheVariants as disk
use Rattle.iot_disk.specs.declared.faults.StartFault.{StartFault}
use Rattle.iot_disk.specs.declared.faults.StartFault.TheVariants as start
use Rattle.iot_disk.specs.declared.faults.JournalFault.{JournalFault}
use Rattle.iot_disk.specs.declared.faults.JournalFault.TheVariants as journal

-- by a start
abbrev pub start_fault_of : DiskFault → StartFault
start_fault_of disk.NoMemory = start.NoMemory
start_fault_of disk.Failed = start.Stopped

-- by an append
abbrev pub journal_fault_of : DiskFault → JournalFault
journal_fault_of disk.NoMemory = journal.NoMemory
journal_fault_of disk.Failed = journal.Stopped

-- the disk's count of faults, before and after a call with this answer: it rises if the call was stopped, and only then
abbrev pub CountsJournalFault : {T : Type 0} → Result T JournalFault → ℕ → ℕ → Type 0
CountsJournalFault (Ok _) before now = Stayed before now
CountsJournalFault (Err journal.NoMemory) before now = Stayed before now
CountsJournalFault (Err journal.Stopped) before now = Rose before now
