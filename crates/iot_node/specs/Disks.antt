-- What a node's disks have counted, and what a call leaves of them.
use Rattle.std.specs.Prelude.{[], ◌≡◌, ◌⊎◌}
use Rattle.iot_disk.specs.Disk.{Medium, Only}
use Rattle.iot_node.specs.Prelude.{Counts, Option, Rose, Some, Storing, option_map}

-- ---- of whatever keeps something durable: a disk, or more than one

-- what it has counted
abbrev pub counts_on : {D I : Type 0} → Storing D I → D → Counts
counts_on medium disk = record { faults = medium.faults disk; arms = medium.arms disk }

-- it has this image and no other
pub record OnlyImage {I : Type 0} (image : I) (images : I → Type 0) : Type 0 where
  pub is : (i : I) → images i → i ≡ image

-- it has the same images as before
pub record KeepsImages {I : Type 0} (before now : I → Type 0) : Type 0 where
  pub was : (i : I) → now i → before i

-- a node has disks that count this
abbrev pub CountsOn : {D I : Type 0} → Storing D I → Option D → Counts → Type 0
CountsOn medium disk counts = option_map (counts_on medium) disk ≡ Some counts

-- the disk of a node, which it has before and after a call: it was not armed in it, and its count of faults is what it was or rose
pub record KeepsDisk {D I : Type 0} (medium : Storing D I) (old new : Option D) : Type 0 where
  pub was : D
  pub now : D
  pub old_has : old ≡ Some was
  pub new_has : new ≡ Some now
  pub arms : medium.arms now ≡ medium.arms was
  pub faults : (medium.faults now ≡ medium.faults was) ⊎ Rose (medium.faults was) (medium.faults now)

-- ---- of a disk

-- nothing is on it, and nothing is pending
pub record IsEmpty {D : Type 0} (medium : Medium D) (disk : D) : Type 0 where
  pub empty : medium.reads disk ≡ []
  pub synced : Only (medium.reads disk) (medium.may_leave disk)
