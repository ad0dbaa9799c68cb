-- What the calls of a disk do to its bytes, to the images that a crash may leave, and to its counts.
use Rattle.std.specs.Prelude.{◌≡◌, ◌≤◌, ◌<◌, ◌⊎◌, ℕ, ◌+◌, ◌%◌, ◌^◌, max, List, ◌++◌, length, take, drop, slice_index}
use Rattle.std.specs.Prelude.{Option, Some, None, Result, Ok, Err}
use Rattle.iot_count.specs.Counts.{Rose, Stayed}
use Rattle.iot_disk.specs.declared.disk.Arm.{Arm}
use Rattle.iot_disk.specs.declared.disk.Pick.{Pick}
use Rattle.iot_disk.specs.declared.disk.DiskFault.{DiskFault}
use Rattle.iot_disk.specs.declared.disk.DiskFault.TheVariants.{NoMemory, Failed}

-- how often a disk was armed, modulo 2 ^ 64, and with what it was armed the last time
pub record Arms : Type 0 where
  pub count : ℕ
  pub last : Option Arm

-- the arms of a new disk
abbrev pub never_armed : Arms
never_armed = record { count = 0; last = None }

-- the arms after one more `arm`
abbrev pub armed_with : Arms → ℕ → Pick → Arms
armed_with arms calls pick = record { count = (arms.count + 1) % 2 ^ 64; last = Some (record { calls = calls; pick = pick }) }

-- What is so of each thing of a kind that keeps something durable, of which a crash leaves an image: what a read gives, which images a crash
-- may leave, how often a device call has failed, and how it was armed.
pub record Storing (D I : Type 0) : Type 1 where
  pub reads : D → I
  pub may_leave : D → I → Type 0
  pub faults : D → ℕ
  pub arms : D → Arms

-- of each disk of a kind, the images of which are bytes
abbrev pub Medium : (D : Type 0) → Type 1
Medium D = Storing D (List ℕ)

-- the count of faults, before and after a device call with this answer: it rises with `Failed` and with no other
abbrev pub CountsFault : {T : Type 0} → Result T DiskFault → ℕ → ℕ → Type 0
CountsFault (Ok _) before now = Stayed before now
CountsFault (Err NoMemory) before now = Stayed before now
CountsFault (Err Failed) before now = Rose before now

-- these bytes with others written over them from a place on, at most at their end
abbrev pub overwritten : {X : Type 0} → List X → ℕ → List X → List X
overwritten old at bytes = take at old ++ (bytes ++ drop (at + length bytes) old)

-- image j is what a write of the range from `at` to `end`, whole or cut short, may have made of image i
pub record Torn (at end : ℕ) (i j : List ℕ) : Type 0 where
  pub no_shorter : length i ≤ length j
  pub no_longer : length j ≤ max (length i) end
  pub outside : (k : ℕ) → k < length i → (k < at) ⊎ (end ≤ k) → slice_index j k ≡ slice_index i k

-- each image now was made of an image from before by such a write
pub record IsTornFrom (at end : ℕ) (before now : List ℕ → Type 0) : Type 0 where
  pub from : (j : List ℕ) → now j → (i : List ℕ) × before i × Torn at end i j

-- these bytes and no others are an image
pub record Only (bytes : List ℕ) (images : List ℕ → Type 0) : Type 0 where
  pub is : (i : List ℕ) → images i → i ≡ bytes

-- the same bytes are images as before
pub record SameImages (before now : List ℕ → Type 0) : Type 0 where
  pub was : (i : List ℕ) → now i → before i
  pub stays : (i : List ℕ) → before i → now i
