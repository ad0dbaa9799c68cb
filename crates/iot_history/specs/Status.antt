-- The statuses of a run: their numbers, and which counts of faults rise with them.
use Rattle.std.specs.Prelude.{◌≡◌, ◌⊎◌, ℕ, Result, Ok, Err}
use Rattle.iot_count.specs.Counts.{Counted, HasRisen, IsSteady}
use Rattle.iot_disk.specs.declared.faults.StartFault.{StartFault}
use Rattle.iot_disk.specs.declared.faults.StartFault.TheVariants as start
use Rattle.iot_disk.specs.declared.faults.JournalFault.{JournalFault}
use Rattle.iot_disk.specs.declared.faults.JournalFault.TheVariants as journal
use Rattle.iot_history.specs.declared.status.Status.{Status}
use Rattle.iot_history.specs.declared.status.Status.TheVariants as statuses

-- their numbers
abbrev pub code_of : Status → ℕ
code_of statuses.Done = 0
code_of statuses.Refused = 1
code_of statuses.ReadFailed = 3
code_of statuses.WriteFailed = 4
code_of statuses.NoMemory = 5
code_of statuses.Stopped = 6
code_of statuses.NoJournal = 7
code_of statuses.NoHistory = 8

-- that of a run whose journal does not start
abbrev pub ended_by_start : StartFault → Status
ended_by_start start.NoMemory = statuses.NoMemory
ended_by_start start.Stopped = statuses.Stopped
ended_by_start start.Foreign = statuses.NoJournal
ended_by_start (start.Damaged at) = statuses.NoJournal

-- that of a run that could not append to its journal
abbrev pub ended_by_append : JournalFault → Status
ended_by_append journal.NoMemory = statuses.NoMemory
ended_by_append journal.Stopped = statuses.Stopped

-- the number is that of a status of which this holds
pub record HasStatus (code : ℕ) (holds : Status → Type 0) : Type 0 where
  pub status : Status
  pub is : code ≡ code_of status
  pub so : holds status

-- that of a call
abbrev pub ended : {T : Type 0} → Result T Status → Status
ended (Ok _) = statuses.Done
ended (Err status) = status

-- the source's count of faults rises with this status and with no other
abbrev pub SourceCounts : Status → Counted → Type 0
SourceCounts statuses.ReadFailed faults = HasRisen faults
SourceCounts status faults = IsSteady faults

-- the sink's count of faults or that of empty writes rises with this status, and neither with another
abbrev pub SinkCounts : Status → (faults empties : Counted) → Type 0
SinkCounts statuses.WriteFailed faults empties = HasRisen faults ⊎ HasRisen empties
SinkCounts status faults empties = IsSteady faults × IsSteady empties

-- the count of faults of the journal's disk rises with this status and with no other
abbrev pub DiskCounts : Status → Counted → Type 0
DiskCounts statuses.Stopped faults = HasRisen faults
DiskCounts status faults = IsSteady faults
