-- What the bytes of a server's disk hold, and why they hold nothing.
use Rattle.std.specs.Prelude.{◌≡◌, ℕ, List, [], ◌∷◌}
use Rattle.iot_disk.specs.declared.faults.StartFault.{StartFault}
use Rattle.iot_disk.specs.declared.faults.StartFault.TheVariants as start
use Rattle.iot_durable.specs.Damage.{IsDamagedAt}
use Rattle.iot_durable.specs.Standing.{IsNew, StandWith}
use Rattle.iot_slots.specs.Decoding.{Decoded, Encodes, NotStarted, Foreign, Damaged, decoded}
use Rattle.iot_slots.specs.declared.version.Version.{Version}
use Rattle.iot_store.specs.Records.{IsRecordIn}
use Rattle.iot_store.specs.Rules.{header, rules}
use Rattle.iot_store.specs.Standing.{StandFor}
use Rattle.iot_store.specs.States.{State}
use Rattle.iot_store.specs.declared.commit.Commit.{Commit}
use Rattle.iot_store.specs.declared.image.Image.{Image}
use Rattle.iot_store.specs.declared.image.ImageFault.{ImageFault}
use Rattle.iot_store.specs.declared.image.ImageFault.TheVariants as fault

-- the tree and the labels of this state
pub record IsImageOf (image : Image) (state : State) : Type 0 where
  pub tree : image.tree ≡ state.tree
  pub labels : image.labels ≡ state.labels

-- each body spells a commit that printed these lines, in turn
abbrev pub HaveLines : Version → (bodies : List (List ℕ)) → List (List (List ℕ)) → Type 0
HaveLines version [] [] = Unit {0}
HaveLines version (body ∷ bodies) (lines ∷ recorded) =
    ((commit : Commit) × IsRecordIn version body commit × (lines ≡ commit.lines)) × HaveLines version bodies recorded
HaveLines version bodies recorded = ⊥

-- the lines of each record behind the checkpoint in force, in order; a disk that is not started has none
abbrev pub HasRecorded : Decoded → List (List (List ℕ)) → Type 0
HasRecorded (Encodes encoded) recorded = HaveLines encoded.version encoded.bodies recorded
HasRecorded NotStarted recorded = recorded ≡ []
HasRecorded Foreign recorded = ⊥
HasRecorded (Damaged at) recorded = ⊥

-- the tree and the labels of the state for which the bytes stand, and the lines of its last commits, which still have records
pub record IsImageIn (bytes : List ℕ) (image : Image) : Type 0 where
  pub state : State
  pub stands : StandFor bytes state
  pub holds : IsImageOf image state
  pub recorded : HasRecorded (decoded header bytes) image.recorded

-- the bytes of a disk that was just started in version 2, with a checkpoint of the state alone for which the other bytes stand, after as
-- many records
pub record IsUpgraded (bytes disk : List ℕ) : Type 0 where
  pub state : State
  pub count : ℕ
  pub stands : StandWith rules bytes count state
  pub new : IsNew rules state count disk

-- what a start answers, if there is no disk
abbrev pub fault_of : StartFault → ImageFault
fault_of start.NoMemory = fault.NoMemory
fault_of start.Stopped = fault.NoMemory
fault_of start.Foreign = fault.Foreign
fault_of (start.Damaged at) = fault.Damaged at

-- by the fault, what the bytes are
abbrev pub IsRefusal : List ℕ → ImageFault → Type 0
IsRefusal bytes fault.NoMemory = Unit {0}
IsRefusal bytes fault.Foreign = decoded header bytes ≡ Foreign
IsRefusal bytes (fault.Damaged at) = IsDamagedAt rules bytes at

-- the bytes are not refused
abbrev pub TakesImage : ImageFault → Type 0
TakesImage fault.NoMemory = Unit {0}
TakesImage fault.Foreign = ⊥
TakesImage (fault.Damaged at) = ⊥

-- they are refused since something else wrote them, unless memory ran out
abbrev pub SaysForeign : ImageFault → Type 0
SaysForeign fault.NoMemory = Unit {0}
SaysForeign fault.Foreign = Unit {0}
SaysForeign (fault.Damaged at) = ⊥

-- they are refused since they are damaged there, unless memory ran out
abbrev pub SaysDamaged : (at : ℕ) → ImageFault → Type 0
SaysDamaged at fault.NoMemory = Unit {0}
SaysDamaged at fault.Foreign = ⊥
SaysDamaged at (fault.Damaged there) = there ≡ at
