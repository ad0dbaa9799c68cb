-- What the bytes of a disk encode.
use Rattle.std.specs.Prelude.{ℕ, ◌+◌, ◌%◌, ◌^◌, Bool, nat_eq, nat_lt, nat_le, ◌&&◌, not, if◌then◌else◌, List, [], length, take, drop}
use Rattle.std.specs.List.{starts_with}
use Rattle.iot_records.specs.Bytes.{number_at, is_open}
use Rattle.iot_records.specs.Records.{Series, Whole, Cut, series_in}
use Rattle.iot_slots.specs.Cells.{cell_at, place_named, version_named, in_force}
use Rattle.iot_slots.specs.declared.cell.Cell.{Cell}
use Rattle.iot_slots.specs.declared.cell.Force.{Force}
use Rattle.iot_slots.specs.declared.cell.Force.TheVariants.{NoCell, Clash, Is}
use Rattle.iot_slots.specs.declared.version.Version.{Version}
use Rattle.iot_slots.specs.declared.version.Version.TheVariants.{Two}

-- the body of a checkpoint, the bodies of the records after it, the version in which both are spelled, and how many records were ever
-- appended, modulo 2 ^ 64
pub record State : Type 0 where
  pub version : Version
  pub body : List ℕ
  pub bodies : List (List ℕ)
  pub count : ℕ

-- the bytes encode a state, or nothing was started there, or something else wrote them, or they are damaged
pub data Decoded : Type 0 where
  Encodes : State → Decoded
  NotStarted : Decoded
  Foreign : Decoded
  Damaged : (at : ℕ) → Decoded

abbrev pub state_in : Version → List ℕ → List (List ℕ) → ℕ → State
state_in version body bodies count = record { version = version; body = body; bodies = bodies; count = count }

-- a body, the number of records before it, and the records after it
abbrev pub with_records : Version → List ℕ → ℕ → Series → Decoded
with_records version body before (Whole bodies) = Encodes (state_in version body bodies ((before + length bodies) % 2 ^ 64))
with_records version body before (Cut at) = Damaged at

-- at a place after the cells are a number, as many bytes of a body, another number, and a gate
abbrev pub is_checkpoint : (place : ℕ) → List ℕ → Bool
is_checkpoint place bytes = nat_le 43 place && nat_lt (place + 16 + number_at bytes place) (length bytes)

-- a checkpoint with a body of this size: its body, how many records were appended before it, and the records after it
abbrev pub checkpoint_at : Version → (place size : ℕ) → List ℕ → Decoded
checkpoint_at version place size bytes =
    let first = place + 16 + size in
    with_records version (take size (drop (place + 8) bytes)) (number_at bytes (place + 8 + size)) (series_in first (drop first bytes))

-- the checkpoint that a cell names with this number
abbrev pub named_by : Cell → (number : ℕ) → List ℕ → Decoded
named_by cell number bytes =
    let place = place_named number in
    if is_checkpoint place bytes
    then checkpoint_at (version_named number) place (number_at bytes place) bytes
    else Damaged (cell_at cell)

-- the checkpoint in force
abbrev pub decoded_by : Force → List ℕ → Decoded
decoded_by NoCell bytes = NotStarted
decoded_by Clash bytes = Damaged 26
decoded_by (Is cell) bytes = named_by cell (number_at bytes (cell_at cell + 9)) bytes

-- byte 0 is open, and another header follows it
abbrev pub is_foreign : (header bytes : List ℕ) → Bool
is_foreign header bytes = nat_le 9 (length bytes) && (is_open bytes 0 && not (starts_with nat_eq (drop 1 bytes) header))

-- the whole
unfoldable pub decoded : (header bytes : List ℕ) → Decoded
decoded header bytes = if is_foreign header bytes then Foreign else decoded_by (in_force bytes) bytes

-- the same, if a disk that is not started encodes this body with no records
abbrev pub opened : List ℕ → Decoded → Decoded
opened body (Encodes state) = Encodes state
opened body NotStarted = Encodes (state_in Two body [] 0)
opened body Foreign = Foreign
opened body (Damaged at) = Damaged at

-- the state that was decoded
abbrev pub state_of : Decoded → State
state_of (Encodes state) = state
state_of NotStarted = state_in Two [] [] 0
state_of Foreign = state_in Two [] [] 0
state_of (Damaged at) = state_in Two [] [] 0
