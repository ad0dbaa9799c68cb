-- What is so of a disk over a record of calls.
use Rattle.std.specs.Prelude.{◌≡◌, ℕ, List}
use Rattle.iot_disk.specs.Disk.{Arms, Medium}
use Rattle.iot_noted.specs.Events.{written}
use Rattle.iot_noted.specs.Images.{images_by}
use Rattle.iot_noted.specs.declared.calls.Calls as calls
use Rattle.iot_noted.specs.declared.noted.Noted.{Noted}

module _ {C : Type 0} {g : calls.Ghosts C} where
  -- the bytes that a read gives
  abbrev pub reads_of : Noted C g → List ℕ
  reads_of disk = written (g.history disk.file)

  -- what the file may hold after a crash
  abbrev pub images_of : Noted C g → List ℕ → Type 0
  images_of disk = images_by disk.is_given_up (g.history disk.file)

  -- how often a device call has failed
  abbrev pub faults_of : Noted C g → ℕ
  faults_of disk = disk.faults

  -- how often it was armed, and with what the last time
  abbrev pub arms_of : Noted C g → Arms
  arms_of disk = record { count = disk.arms; last = disk.last }

  -- all of it
  abbrev pub on_record : Medium (Noted C g)
  on_record = record { reads = reads_of; may_leave = images_of; faults = faults_of; arms = arms_of }

  -- the same before and after, but for what the file was asked, its copy, its health, its faults, and the call that is to fail
  pub record IsSameBut (old new : Noted C g) : Type 0 where
    pub given_up : new.is_given_up ≡ old.is_given_up
    pub arms : arms_of new ≡ arms_of old
