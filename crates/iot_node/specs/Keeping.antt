-- What keeps a node's state on its disks, and what its calls do: how it reads them, and what its records are, are its own affair.
use Rattle.std.specs.Prelude.{◌≡◌, ◌⊎◌}
use Rattle.iot_disk.specs.{Disk.armed_with, declared.disk.Pick.Pick, declared.faults.StartFault.StartFault}
use Rattle.iot_node.specs.Disks.{counts_on}
use Rattle.iot_node.specs.Prelude.{Counts, Doubt, Err, JournalFault, List, Ok, Result, Rose, Storing, next, ℕ}
use Rattle.iot_disk.specs.declared.faults.StartFault.TheVariants as start
use Rattle.iot_disk.specs.declared.faults.JournalFault.TheVariants as append

-- For which state, with so many records, counted modulo 2 ^ 64, a keeper stands that has these disks, and an image of them; and which
-- images are in the midst of one record more, behind so many, which turns the first state into the second.
pub record Keeping (K S D I : Type 0) (disks : K → D) : Type 1 where
  pub stands : K → ℕ → S → Type 0
  pub image : I → ℕ → S → Type 0
  pub turning : I → ℕ → S → S → Type 0

-- each of these images is so
pub record EachIs {I : Type 0} (images P : I → Type 0) : Type 0 where
  pub each : (image : I) → images image → P image

-- one fault more, and not armed
pub record Failed (before now : Counts) : Type 0 where
  pub faults : Rose before.faults now.faults
  pub arms : now.arms ≡ before.arms

-- armed once more
pub record Armed {D I : Type 0} (medium : Storing D I) (calls : ℕ) (pick : Pick) (old new : D) : Type 0 where
  pub is : counts_on medium new ≡ record { faults = medium.faults old; arms = armed_with (medium.arms old) calls pick }

-- a start is not refused for what the disks hold
abbrev pub TakesBytes : StartFault → Type 0
TakesBytes start.NoMemory = Unit {0}
TakesBytes start.Stopped = Unit {0}
TakesBytes start.Foreign = ⊥
TakesBytes (start.Damaged at) = ⊥

-- what the disks of a start have counted that was stopped, or for which there was no memory
abbrev pub CountsStart : StartFault → (before now : Counts) → Type 0
CountsStart start.NoMemory before now = now ≡ before
CountsStart start.Stopped before now = Failed before now
CountsStart start.Foreign before now = ⊥
CountsStart (start.Damaged at) before now = ⊥

module _ {K S D I : Type 0} {disks : K → D} (keeping : Keeping K S D I disks) where
  -- the image stands for this state, or is in the midst of the record behind it, which makes that one
  abbrev pub IsEither : I → ℕ → S → S → Type 0
  IsEither image n s after = keeping.image image n s ⊎ keeping.turning image n s after

  -- an image that a keeper can be started from: it stands for some state, or is in the midst of some record
  pub record CanStart (image : I) : Type 0 where
    pub count : ℕ
    pub before : S
    pub after : S
    pub either : IsEither image count before after

  -- each of these images stands for what this one stands for, and is in the midst of that in whose midst this one is
  pub record HoldSame (image : I) (images : I → Type 0) : Type 0 where
    pub stand : (n : ℕ) (s : S) → keeping.image image n s → EachIs images (λ i. keeping.image i n s)
    pub turn : (n : ℕ) (s after : S) → keeping.turning image n s after → EachIs images (λ i. keeping.turning i n s after)

module _ {K S D I : Type 0} {disks : K → D} (keeping : Keeping K S D I disks) (medium : Storing D I) where
  -- what was started stands for what the disks stood for, or for what the record makes in whose midst they were; each image still holds
  -- what they held
  pub record Comes (disk : D) (made : K) : Type 0 where
    pub from : (n : ℕ) (s : S) → keeping.image (medium.reads disk) n s → keeping.stands made n s
    pub turned : (n : ℕ) (s after : S) → keeping.turning (medium.reads disk) n s after → keeping.stands made (next n) after
    pub images : HoldSame keeping (medium.reads disk) (medium.may_leave (disks made))
    pub counts : counts_on medium (disks made) ≡ counts_on medium disk

  -- a start that failed: it was stopped, or there was no memory, and each image still holds what the disks held
  pub record Fails (disk left : D) (fault : StartFault) : Type 0 where
    pub images : HoldSame keeping (medium.reads disk) (medium.may_leave left)
    pub counts : CountsStart fault (counts_on medium disk) (counts_on medium left)

  -- a call of its own that appends a record, by its answer, from this state: it makes this change
  abbrev pub Appended : {T : Type 0} → (S → S) → (s : S) → (old new : K) → Result T JournalFault → Type 0
  Appended change s old new (Ok _) =
      ((n : ℕ) → keeping.stands old n s → keeping.stands new (next n) (change s))
      × (counts_on medium (disks new) ≡ counts_on medium (disks old))
  Appended change s old new (Err append.NoMemory) = Unit {0}
  Appended change s old new (Err append.Stopped) =
      ((n : ℕ) → keeping.stands old n s
      → EachIs (medium.may_leave (disks new)) (λ image. IsEither keeping image n s (change s)))
      × Failed (counts_on medium (disks old)) (counts_on medium (disks new))

-- how many records there were, and what this one would say
pub record Doubts {K S D I : Type 0} {disks : K → D} (keeping : Keeping K S D I disks) (says : S → S → List ℕ) (change : S → S) (old : K)
    (doubt : Doubt) : Type 0 where
  pub count : (n : ℕ) (s : S) → keeping.stands old n s → doubt.count ≡ n
  pub lines : (n : ℕ) (s : S) → keeping.stands old n s → doubt.lines ≡ says s (change s)
