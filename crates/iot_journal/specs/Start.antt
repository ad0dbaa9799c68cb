-- The start of a journal.
use Rattle.std.specs.Prelude.{◌≡◌, ℕ, if◌then◌else◌, List, ◌∷◌, drop}
use Rattle.iot_count.specs.Counts.{Rose, Stayed}
use Rattle.iot_disk.specs.declared.faults.StartFault.{StartFault}
use Rattle.iot_disk.specs.declared.faults.StartFault.TheVariants as fault
pub use Rattle.iot_records.specs.Records.{ChangesNothing}
use Rattle.iot_journal.specs.Decoding.{Decoded, Foreign, Damaged, is_started, started}

-- why a start gives no journal: the fault, what the disk's bytes decode as, and its count of faults before and now
abbrev pub HasCause : StartFault → Decoded → ℕ → ℕ → Type 0
HasCause fault.NoMemory found before now = Stayed before now
HasCause fault.Stopped found before now = Rose before now
HasCause fault.Foreign found before now = (found ≡ Foreign) × Stayed before now
HasCause (fault.Damaged at) found before now = (found ≡ Damaged at) × Stayed before now

-- the bytes after a start: those that were there, or those of a journal with no records
abbrev pub after_start : List ℕ → List ℕ
after_start bytes = if is_started bytes then bytes else started (0 ∷ drop 10 bytes)

-- why these bytes are refused, or memory for what they hold ran out
abbrev pub IsReason : StartFault → Decoded → Type 0
IsReason fault.NoMemory found = Unit {0}
IsReason fault.Stopped found = ⊥
IsReason fault.Foreign found = found ≡ Foreign
IsReason (fault.Damaged at) found = found ≡ Damaged at
