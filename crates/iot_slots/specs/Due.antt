-- When a checkpoint is due, by the bytes of a disk.
use Rattle.std.specs.Prelude.{◌≡◌, ℕ, ◌+◌, Bool, false, nat_lt, ◌||◌, List, length, Option}
use Rattle.iot_records.specs.Bytes.{number_at}
use Rattle.iot_records.specs.Records.{records}
use Rattle.iot_records.specs.Images.{Each}
use Rattle.iot_slots.specs.Cells.{cell_at, place_named, other_of, is_old, in_force}
use Rattle.iot_slots.specs.Decoding.{Decoded, State, Encodes, NotStarted, Foreign, Damaged, decoded}
use Rattle.iot_slots.specs.Layouts.{named_in, reaches}
use Rattle.iot_slots.specs.declared.cell.Force.{Force}
use Rattle.iot_slots.specs.declared.cell.Force.TheVariants.{NoCell, Clash, Is}
use Rattle.iot_slots.specs.declared.layout.TheConstants.{MANY}

-- The checkpoint in force is at this place: it is of version 1, or the records after it have many bytes together, or one more record, with
-- a body of so many bytes, would reach the place that the other cell names.
abbrev pub due_after : (place : ℕ) → State → (other : Option ℕ) → (size : ℕ) → Bool
due_after place state other size =
    let gate = place + 16 + length state.body + length (records state.bodies) in
    is_old state.version || (nat_lt MANY (length (records state.bodies)) || reaches place (gate + 10 + size) other)

-- the same, by the cell in force and what the bytes encode; nothing is due on a disk that encodes no state
abbrev pub due_by : Force → Decoded → List ℕ → (size : ℕ) → Bool
due_by (Is cell) (Encodes state) bytes size =
    due_after (place_named (number_at bytes (cell_at cell + 9))) state (named_in bytes (other_of cell)) size
due_by (Is cell) NotStarted bytes size = false
due_by (Is cell) Foreign bytes size = false
due_by (Is cell) (Damaged at) bytes size = false
due_by NoCell decoding bytes size = false
due_by Clash decoding bytes size = false

-- a checkpoint is to come before an append of a body of so many bytes to a disk with these bytes
unfoldable pub due_on : (header bytes : List ℕ) (size : ℕ) → Bool
due_on header bytes size = due_by (in_force bytes) (decoded header bytes) bytes size

-- on no image that encodes this state is a checkpoint due before an append of a body of so many bytes
abbrev pub EachTakes : (header : List ℕ) (images : List ℕ → Type 0) → State → (size : ℕ) → Type 0
EachTakes header images state size = Each (λ image. decoded header image ≡ Encodes state → due_on header image size ≡ false) images
