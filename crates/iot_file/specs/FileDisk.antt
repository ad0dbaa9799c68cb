-- What is so of a disk over a file of the system.
use Rattle.std.specs.Prelude.{ℕ, List}
use Rattle.iot_disk.specs.Disk.{Arms}
use Rattle.iot_noted.specs.Noted as noted
use Rattle.iot_noted.specs.declared.calls.Calls as calls
use Rattle.iot_noted.specs.declared.host.Host.{Host}
use Rattle.iot_noted.specs.declared.noted.Noted.{Noted}

module _ {g : calls.Ghosts Host} where
  -- the bytes that a read gives
  abbrev pub reads_of : Noted Host g → List ℕ
  reads_of = noted.reads_of

  -- what the file may hold after a crash
  abbrev pub images_of : Noted Host g → List ℕ → Type 0
  images_of = noted.images_of

  -- how often a device call has failed
  abbrev pub faults_of : Noted Host g → ℕ
  faults_of = noted.faults_of

  -- how often it was armed, and with what the last time
  abbrev pub arms_of : Noted Host g → Arms
  arms_of = noted.arms_of
