-- Why a start gives no state.
use Rattle.std.specs.Prelude.{◌≡◌, ◌⊎◌, ℕ, List}
use Rattle.iot_count.specs.Counts.{Rose, Stayed}
use Rattle.iot_disk.specs.declared.faults.StartFault.{StartFault}
use Rattle.iot_disk.specs.declared.faults.StartFault.TheVariants as fault
use Rattle.iot_slots.specs.Decoding.{Foreign, Damaged, decoded}
use Rattle.iot_slots.specs.declared.version.Version.{Version}
use Rattle.iot_backup.specs.Start.{IsTaken, AreApart}
use Rattle.iot_backup.specs.declared.faults.TwinFault.{TwinFault}
use Rattle.iot_backup.specs.declared.faults.TwinFault.TheVariants.{Disk, Apart}
use Rattle.iot_durable.specs.Rules.{Rules}
use Rattle.iot_durable.specs.Standing.{header_of}
use Rattle.iot_durable.specs.Damage.{BreaksAt, IsDamagedAt}

-- the bytes are not refused
abbrev pub TakesBytes : StartFault → Type 0
TakesBytes fault.NoMemory = Unit {0}
TakesBytes fault.Stopped = Unit {0}
TakesBytes fault.Foreign = ⊥
TakesBytes (fault.Damaged at) = ⊥

-- the bytes are refused since something else wrote them, unless the disk failed or memory ran out
abbrev pub SaysForeign : StartFault → Type 0
SaysForeign fault.NoMemory = Unit {0}
SaysForeign fault.Stopped = Unit {0}
SaysForeign fault.Foreign = Unit {0}
SaysForeign (fault.Damaged there) = ⊥

-- they are refused since they are damaged there, unless the disk failed or memory ran out
abbrev pub SaysDamaged : (at : ℕ) → StartFault → Type 0
SaysDamaged at fault.NoMemory = Unit {0}
SaysDamaged at fault.Stopped = Unit {0}
SaysDamaged at fault.Foreign = ⊥
SaysDamaged at (fault.Damaged there) = there ≡ at

module _ {S C : Type 0} (rules : Version → Rules S C) where
  -- by the fault: what the disk's bytes are, and its count of faults before and now
  abbrev pub HasCause : StartFault → List ℕ → ℕ → ℕ → Type 0
  HasCause fault.NoMemory bytes before now = Stayed before now
  HasCause fault.Stopped bytes before now = Rose before now
  HasCause fault.Foreign bytes before now = (decoded (header_of rules) bytes ≡ Foreign) × Stayed before now
  HasCause (fault.Damaged at) bytes before now = IsDamagedAt rules bytes at × Stayed before now

  -- by the fault, if there is no disk that could fail
  abbrev pub IsRefusal : StartFault → List ℕ → Type 0
  IsRefusal fault.NoMemory bytes = Unit {0}
  IsRefusal fault.Stopped bytes = ⊥
  IsRefusal fault.Foreign bytes = decoded (header_of rules) bytes ≡ Foreign
  IsRefusal (fault.Damaged at) bytes = IsDamagedAt rules bytes at

module _ {S C : Type 0} (rules : Rules S C) where
  -- why a checkpoint at this place and the records after it make no state, or memory for what they hold ran out
  abbrev pub IsReason : StartFault → (body : List ℕ) → (bodies : List (List ℕ)) → (place : ℕ) → Type 0
  IsReason fault.NoMemory body bodies place = Unit {0}
  IsReason fault.Stopped body bodies place = ⊥
  IsReason fault.Foreign body bodies place = ⊥
  IsReason (fault.Damaged at) body bodies place = BreaksAt rules body bodies place at

-- ---- of two disks

-- neither the bytes nor the counts are refused
abbrev pub TakesBoth : TwinFault → Type 0
TakesBoth (Disk fault) = TakesBytes fault
TakesBoth (Apart first second) = ⊥

-- the first disk is refused since something else wrote it, unless a disk failed or memory ran out
abbrev pub SaysFirstForeign : TwinFault → Type 0
SaysFirstForeign (Disk fault) = SaysForeign fault
SaysFirstForeign (Apart first second) = ⊥

-- it is refused since it is damaged there, unless a disk failed or memory ran out
abbrev pub SaysFirstDamaged : (at : ℕ) → TwinFault → Type 0
SaysFirstDamaged at (Disk fault) = SaysDamaged at fault
SaysFirstDamaged at (Apart first second) = ⊥

module _ {S C : Type 0} (rules : Version → Rules S C) where
  -- The refusal of the first disk if it has one, else that of the second; or memory ran out; or a disk failed, the second only if the
  -- first is not refused. Beside it stand what both disks' bytes are, and their counts of faults before and now.
  abbrev pub HasDiskCause : StartFault → (one other : List ℕ) → (before now other_before other_now : ℕ) → Type 0
  HasDiskCause fault.NoMemory one other before now other_before other_now = Stayed before now × Stayed other_before other_now
  HasDiskCause fault.Stopped one other before now other_before other_now =
      (Rose before now × Stayed other_before other_now)
      ⊎ (IsTaken (decoded (header_of rules) one) × Stayed before now × Rose other_before other_now)
  HasDiskCause fault.Foreign one other before now other_before other_now =
      ((decoded (header_of rules) one ≡ Foreign)
      ⊎ (IsTaken (decoded (header_of rules) one) × (decoded (header_of rules) other ≡ Foreign)))
      × Stayed before now × Stayed other_before other_now
  HasDiskCause (fault.Damaged at) one other before now other_before other_now =
      (IsDamagedAt rules one at ⊎ (IsTaken (decoded (header_of rules) one) × (decoded (header_of rules) other ≡ Damaged at)))
      × Stayed before now × Stayed other_before other_now

  -- why a start from two disks gives no state
  abbrev pub HasPairCause : TwinFault → (one other : List ℕ) → (before now other_before other_now : ℕ) → Type 0
  HasPairCause (Disk why) one other before now other_before other_now = HasDiskCause why one other before now other_before other_now
  HasPairCause (Apart first second) one other before now other_before other_now =
      AreApart first second (decoded (header_of rules) one) (decoded (header_of rules) other)
      × Stayed before now × Stayed other_before other_now
