-- How serving ends: its statuses, and which counts of faults rise with them.
use Rattle.std.specs.Prelude.{◌⊎◌, ℕ, Result, Err}
use Rattle.iot_count.specs.Counts.{Counted, HasRisen, IsSteady}
use Rattle.iot_disk.specs.declared.faults.StartFault.{StartFault}
use Rattle.iot_disk.specs.declared.faults.StartFault.TheVariants as start
use Rattle.iot_keep_app.specs.declared.fault.ServeFault.{ServeFault}
use Rattle.iot_keep_app.specs.declared.fault.ServeFault.TheVariants.{NoMemory, Foreign, Damaged, Stopped, ReadFailed, Cut}
use Rattle.iot_keep_app.specs.declared.fault.ServeFault.TheVariants.{TooLong, WriteFailed, TooMany}

-- the status of a fault; 0 is the end of the input, and 1 and 2 are those of words and files
abbrev pub code_of : ServeFault → ℕ
code_of Foreign = 3
code_of (Damaged at) = 4
code_of NoMemory = 5
code_of Stopped = 6
code_of ReadFailed = 7
code_of Cut = 8
code_of TooLong = 9
code_of WriteFailed = 10
code_of TooMany = 11

-- the source's count of faults rises if a read failed, and else it stays
abbrev pub SourceCounts : {T : Type 0} → Result T ServeFault → Counted → Type 0
SourceCounts (Err ReadFailed) faults = HasRisen faults
SourceCounts other faults = IsSteady faults

-- the sink's count of faults or that of empty writes rises if a write failed or took nothing, and else both stay
abbrev pub SinkCounts : {T : Type 0} → Result T ServeFault → (faults empties : Counted) → Type 0
SinkCounts (Err WriteFailed) faults empties = HasRisen faults ⊎ HasRisen empties
SinkCounts other faults empties = IsSteady faults × IsSteady empties

-- the disk's count of faults rises if the disk failed, and else it stays
abbrev pub DiskCounts : {T : Type 0} → Result T ServeFault → Counted → Type 0
DiskCounts (Err Stopped) faults = HasRisen faults
DiskCounts other faults = IsSteady faults

-- a server that does not start
abbrev pub of_start : StartFault → ServeFault
of_start start.NoMemory = NoMemory
of_start start.Stopped = Stopped
of_start start.Foreign = Foreign
of_start (start.Damaged at) = Damaged at
