-- The start of slots from their disk.
use Rattle.std.specs.Prelude.{◌≡◌, ◌≤◌, ℕ, ◌+◌, ◌^◌, false, List, [], ◌∷◌, ◌++◌, length, drop, replicate, Option, Some, None}
use Rattle.iot_count.specs.Counts.{Rose, Stayed}
use Rattle.iot_disk.specs.declared.faults.StartFault.{StartFault}
use Rattle.iot_disk.specs.declared.faults.StartFault.TheVariants as fault
use Rattle.iot_records.specs.Bytes.{number}
use Rattle.iot_records.specs.Images.{Each}
use Rattle.iot_records.specs.Records.{spelled}
use Rattle.iot_slots.specs.Cells.{naming}
use Rattle.iot_slots.specs.Decoding.{Decoded, Encodes, NotStarted, Foreign, Damaged, decoded, opened, state_in}
use Rattle.iot_slots.specs.Due.{due_on}
use Rattle.iot_slots.specs.Layouts.{IsLaidOut}
use Rattle.iot_slots.specs.declared.copying.Opened.{Opened}
use Rattle.iot_slots.specs.declared.start.Seen.{Seen}
use Rattle.iot_slots.specs.declared.version.Version.TheVariants.{Two}

-- each image encodes what these bytes encode, if a disk that is not started encodes this body with no records
abbrev pub EachEncodesAs : (header body bytes : List ℕ) → (images : List ℕ → Type 0) → Type 0
EachEncodesAs header body bytes images = Each (λ image. opened body (decoded header image) ≡ opened body (decoded header bytes)) images

-- why a start gives no slots: the fault, what the disk's bytes encode, and its count of faults before and now
abbrev pub HasCause : StartFault → Decoded → ℕ → ℕ → Type 0
HasCause fault.NoMemory decoding before now = Stayed before now
HasCause fault.Stopped decoding before now = Rose before now
HasCause fault.Foreign decoding before now = (decoding ≡ Foreign) × Stayed before now
HasCause (fault.Damaged at) decoding before now = (decoding ≡ Damaged at) × Stayed before now

-- why these bytes are refused, or memory for what they hold ran out
abbrev pub IsReason : StartFault → Decoded → Type 0
IsReason fault.NoMemory decoding = Unit {0}
IsReason fault.Stopped decoding = ⊥
IsReason fault.Foreign decoding = decoding ≡ Foreign
IsReason (fault.Damaged at) decoding = decoding ≡ Damaged at

-- what follows the gate of cell 0 on a disk that was just started: generation 1 and the number that names place 43 in version 2, cell 1
-- closed, a checkpoint of this body with this number of records before it, and a closed gate
abbrev pub after_gate : (body : List ℕ) → (count : ℕ) → List ℕ
after_gate body count = number 1 ++ (number (naming Two 43) ++ (replicate 17 0 ++ (spelled body ++ (number count ++ 0 ∷ []))))

-- what follows its byte 0 before the gate of cell 0 is opened
abbrev pub fresh : (header body : List ℕ) → (count : ℕ) → List ℕ
fresh header body count = header ++ (0 ∷ after_gate body count)

-- all its bytes: both gates are open
abbrev pub started : (header body : List ℕ) → (count : ℕ) → List ℕ
started header body count = 165 ∷ (header ++ (165 ∷ after_gate body count))

-- with no record before, and what was there before goes on where they end
abbrev pub started_over : (header body old : List ℕ) → List ℕ
started_over header body old = 165 ∷ (header ++ (165 ∷ (after_gate body 0 ++ drop (1 + length (fresh header body 0)) old)))

-- ---- a disk that was read

-- what was found in the bytes: nothing was started there, or a state and where its parts are
abbrev pub IsFound : (header bytes : List ℕ) → Option Opened → Type 0
IsFound header bytes None = decoded header bytes ≡ NotStarted
IsFound header bytes (Some found) =
    IsLaidOut header bytes (state_in found.layout.version found.body.items found.bodies found.layout.count) found.layout

-- these bytes were read, and this was found in them
pub record IsSeen (header bytes : List ℕ) (seen : Seen) : Type 0 where
  pub read : seen.bytes.items ≡ bytes
  pub limit : length bytes ≤ 2 ^ 62
  pub found : IsFound header bytes seen.found

-- the count of faults, before and after the start of a disk whose bytes are not refused
abbrev pub CountsStartFault : StartFault → ℕ → ℕ → Type 0
CountsStartFault fault.NoMemory before now = Stayed before now
CountsStartFault fault.Stopped before now = Rose before now
CountsStartFault fault.Foreign before now = ⊥
CountsStartFault (fault.Damaged at) before now = ⊥

-- an image of a disk that is being started with this body: it encodes the body, and nothing is due
pub record IsOpening (header body image : List ℕ) : Type 0 where
  pub encodes : opened body (decoded header image) ≡ Encodes (state_in Two body [] 0)
  pub takes : (size : ℕ) → due_on header image size ≡ false

-- on no image now is a checkpoint due that was not due on these bytes
pub record KeepsRoom (header bytes : List ℕ) (images : List ℕ → Type 0) : Type 0 where
  pub takes : (size : ℕ) → due_on header bytes size ≡ false → Each (λ image. due_on header image size ≡ false) images
