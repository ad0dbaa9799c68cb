-- The statuses of a run: their numbers, and which counts of faults rise with them.
use Rattle.std.specs.Prelude.{◌≡◌, ◌⊎◌, ℕ}
use Rattle.iot_count.specs.Counts.{Counted, HasRisen, IsSteady}
use Rattle.iot_app.specs.declared.status.Status.{Status}
use Rattle.iot_app.specs.declared.status.Status.TheVariants.{Done, Refused, Usage, ReadFailed, WriteFailed, NoMemory, SaveFailed}

abbrev pub code_of : Status → ℕ
code_of Done = 0
code_of Refused = 1
code_of Usage = 2
code_of ReadFailed = 3
code_of WriteFailed = 4
code_of NoMemory = 5
code_of SaveFailed = 6

-- the number is that of a status of which this holds
pub record HasStatus (code : ℕ) (holds : Status → Type 0) : Type 0 where
  pub status : Status
  pub is : code ≡ code_of status
  pub so : holds status

-- the source's count of faults rises with this status and with no other
abbrev pub SourceCounts : Status → Counted → Type 0
SourceCounts ReadFailed faults = HasRisen faults
SourceCounts status faults = IsSteady faults

-- the sink's count of faults or that of empty writes rises with this status, and neither with another
abbrev pub SinkCounts : Status → (faults empties : Counted) → Type 0
SinkCounts WriteFailed faults empties = HasRisen faults ⊎ HasRisen empties
SinkCounts status faults empties = IsSteady faults × IsSteady empties
