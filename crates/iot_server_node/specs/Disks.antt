-- The server's disks, and what a crash leaves of them.
use Rattle.std.specs.Prelude.{unwrap_or, ◌+◌, ◌≡◌}
use Rattle.iot_server_node.specs.Prelude.{Arms, Bool}
use Rattle.iot_server_node.specs.Prelude.{Disks, List, Medium, None, Option, Pick, Some, Storing, armed_with, false, option_map, true, ℕ}

-- ---- two disks as one

-- an image of the disk, and one of its backup if there is one
pub record Image : Type 0 where
  pub disk : List ℕ
  pub backup : Option (List ℕ)

-- a crash may leave this of a backup that may be missing
abbrev pub MayLeaveOf : {D : Type 0} → Medium D → Option D → Option (List ℕ) → Type 0
MayLeaveOf medium (Some disk) (Some image) = medium.may_leave disk image
MayLeaveOf medium None None = Unit {0}
MayLeaveOf medium disk image = ⊥

-- a crash may leave this
pub record MayLeave {D : Type 0} (medium : Medium D) (disks : Disks D) (image : Image) : Type 0 where
  pub disk : medium.may_leave disks.disk image.disk
  pub backup : MayLeaveOf medium disks.backup image.backup

-- the one beside that from which the server starts: its backup, or else the one that was given up
abbrev pub other_in : {D : Type 0} → (backup given_up : Option D) → Option D
other_in (Some backup) given_up = Some backup
other_in None given_up = given_up

abbrev pub faults_in : {D : Type 0} → Medium D → Option D → ℕ
faults_in medium (Some disk) = medium.faults disk
faults_in medium None = 0

-- Both count, also one that was given up; what is armed is the one from which the server starts.
abbrev pub on_both : {D : Type 0} → Medium D → Storing (Disks D) Image
on_both medium = record {
  reads = λ disks. record { disk = medium.reads disks.disk; backup = option_map medium.reads disks.backup };
  may_leave = MayLeave medium;
  faults = λ disks. medium.faults disks.disk + faults_in medium (other_in disks.backup disks.given_up);
  arms = λ disks. medium.arms disks.disk;
}

-- they are one of their images as they read
pub reads_may_leave : {D : Type 0} (medium : Medium D) → ((disk : D) → medium.may_leave disk (medium.reads disk)) → (disks : Disks D)
    → MayLeave medium disks ((on_both medium).reads disks)
reads_may_leave {D} medium is disks = record { disk = is disks.disk; backup = by disks.backup }
  where
    by : (backup : Option D) → MayLeaveOf medium backup (option_map medium.reads backup)
    by (Some disk) = is disk
    by None = tt

-- ---- the places of the disks

-- the first disk and the last in their places, if the last was promoted, or was not
abbrev pub placed : {D : Type 0} → (promoted : Bool) → (first last : D) → Disks D
placed false first last = record { disk = first; backup = Some last; given_up = None }
placed true first last = record { disk = last; backup = None; given_up = Some first }

-- of the server's two disks the one from which it starts: the first, or the last since that was promoted
abbrev pub own_of : {A : Type 0} → (promoted : Bool) → (first last : A) → A
own_of false first last = first
own_of true first last = last

-- and the one beside it: the backup, or the one that was given up
abbrev pub other_of : {A : Type 0} → (promoted : Bool) → (first last : A) → A
other_of false first last = last
other_of true first last = first

-- the first is the one that was given up, if one was, and the last is the backup, if there is one
abbrev pub first_placed : {D : Type 0} → Disks D → D
first_placed disks = unwrap_or disks.given_up disks.disk

abbrev pub last_placed : {D : Type 0} → Disks D → D
last_placed disks = unwrap_or disks.backup disks.disk

-- there are disks in their places
pub record HavePlaces {D : Type 0} (disks : Option (Disks D)) : Type 0 where
  pub promoted : Bool
  pub first : D
  pub last : D
  pub has : disks ≡ Some (placed promoted first last)

-- The first one is given up for its backup. What was given up before stands where that was: nothing, if they are in their places.
abbrev pub turned_by : {D : Type 0} → Disks D → (backup : Option D) → Disks D
turned_by disks (Some last) = record { disk = last; backup = disks.given_up; given_up = Some disks.disk }
turned_by disks None = disks

abbrev pub turned : {D : Type 0} → Disks D → Disks D
turned disks = turned_by disks disks.backup

-- ---- what a node does not see of them

-- whether there is a backup, and whether a disk was given up, and how it was armed
pub record Sides : Type 0 where
  pub backup : Option Arms
  pub given_up : Option Arms

abbrev pub sides_of : {D : Type 0} → Medium D → Disks D → Sides
sides_of medium disks =
    record { backup = option_map medium.arms disks.backup; given_up = option_map medium.arms disks.given_up }

-- of a server that has a backup until that is promoted, of which the other disk was armed so
abbrev pub sides : (promoted : Bool) → (arms : Arms) → Sides
sides false arms = record { backup = Some arms; given_up = None }
sides true arms = record { backup = None; given_up = Some arms }

-- the backup is armed, or the disk that was promoted; no other is
pub record ArmsOther {D : Type 0} (medium : Medium D) (calls : ℕ) (pick : Pick) (old new : Disks D) : Type 0 where
  pub faults : (on_both medium).faults new ≡ (on_both medium).faults old
  pub backup : (arms : Arms) → sides_of medium old ≡ sides false arms
      → (medium.arms new.disk ≡ medium.arms old.disk) × (sides_of medium new ≡ sides false (armed_with arms calls pick))
  pub promoted : (arms : Arms) → sides_of medium old ≡ sides true arms
      → (medium.arms new.disk ≡ armed_with (medium.arms old.disk) calls pick) × (sides_of medium new ≡ sides true arms)
