-- Where the parts of a disk are, where the next checkpoint goes, and when it is due.
use Rattle.std.specs.Prelude.{◌≡◌, ◌≢◌, ◌≤◌, ◌<◌, ℕ, ◌+◌, ◌^◌, if◌then◌else◌, Bool, true, false, nat_le, nat_lt, ◌&&◌, ◌||◌}
use Rattle.std.specs.Prelude.{List, [], ◌∷◌, length, slice_index, Option, Some, None}
use Rattle.iot_records.specs.Bytes.{number_at, is_open}
use Rattle.iot_records.specs.Records.{records}
use Rattle.iot_slots.specs.Cells.{cell_at, place_named, other_of, next, is_old, in_force}
use Rattle.iot_slots.specs.Decoding.{State}
use Rattle.iot_slots.specs.Parts.{IsInForce}
use Rattle.iot_slots.specs.declared.cell.Cell.{Cell}
use Rattle.iot_slots.specs.declared.cell.Cell.TheVariants.{First}
use Rattle.iot_slots.specs.declared.cell.Force.{Force}
use Rattle.iot_slots.specs.declared.cell.Force.TheVariants.{NoCell, Clash, Is}
use Rattle.iot_slots.specs.declared.layout.Layout.{Layout}
use Rattle.iot_slots.specs.declared.layout.TheConstants.{MANY, SPARE}
use Rattle.iot_slots.specs.declared.version.Version.TheVariants.{Two}

-- ---- where the parts are

-- the place that a cell names, if its gate is open
abbrev pub named_in : List ℕ → Cell → Option ℕ
named_in bytes cell = if is_open bytes (cell_at cell) then Some (place_named (number_at bytes (cell_at cell + 9))) else None

-- what the cell at this offset says beside one of this generation: nothing that counts, or the generation before and a place
abbrev pub IsOther : List ℕ → (other generation : ℕ) → Option ℕ → Type 0
IsOther bytes other generation None = slice_index bytes other ≢ 165
IsOther bytes other generation (Some place) =
    (slice_index bytes other ≡ 165)
    × (generation ≡ next (number_at bytes (other + 1)))
    × (place_named (number_at bytes (other + 9)) ≡ place)

-- the bytes encode the state, and their parts are where the layout says
pub record IsLaidOut (header bytes : List ℕ) (state : State) (layout : Layout) : Type 0 where
  pub in_force : IsInForce header bytes layout state
  pub first : layout.first ≡ layout.place + 16 + length state.body
  pub other : IsOther bytes (cell_at (other_of layout.cell)) layout.generation layout.other
  pub count : layout.count ≡ state.count
  pub generation_fits : layout.generation < 2 ^ 64
  pub count_fits : layout.count < 2 ^ 64
  pub limit : length bytes ≤ 2 ^ 62

-- the place that the cell in force names
abbrev pub place_by : Force → List ℕ → ℕ
place_by NoCell bytes = 0
place_by Clash bytes = 0
place_by (Is cell) bytes = place_named (number_at bytes (cell_at cell + 9))

-- where the checkpoint in force is
abbrev pub place_in : List ℕ → ℕ
place_in bytes = place_by (in_force bytes) bytes

-- after one more record, whose body has so many bytes
abbrev pub longer_layout : Layout → (size : ℕ) → Layout
longer_layout old size = record old { gate = old.gate + 9 + size; count = next old.count }

-- ---- where the next checkpoint goes

-- a disk that was just started with a body of so many bytes
abbrev pub fresh_layout : (size : ℕ) → Layout
fresh_layout size =
    record { version = Two; cell = First; generation = 1; place = 43; first = 59 + size; gate = 59 + size; other = None; count = 0 }

-- right after the cells if it and the spare bytes end before the place in force, else at the end of the disk
abbrev pub next_place : (place length size : ℕ) → ℕ
next_place place length size = if nat_le (43 + 16 + size + SPARE) place then 43 else length

-- a disk of this length after one more checkpoint with a body of so many bytes
abbrev pub renewed_layout : Layout → (length size : ℕ) → Layout
renewed_layout old length size =
    let place = next_place old.place length size in
    record {
      version = Two;
      cell = other_of old.cell;
      generation = next old.generation;
      place = place;
      first = place + 16 + size;
      gate = place + 16 + size;
      other = Some old.place;
      count = old.count;
    }

-- what is written over the gate of the other cell to close it: nothing if it is closed
abbrev pub closing_of : Option ℕ → List ℕ
closing_of None = []
closing_of (Some place) = 0 ∷ []

-- ---- when a checkpoint is due

-- an append whose next gate is there would reach the place that the other cell names, which lies after the place in force
abbrev pub reaches : (place gate : ℕ) → Option ℕ → Bool
reaches place gate None = false
reaches place gate (Some other) = nat_lt place other && nat_lt other gate

-- A checkpoint is to come before an append of a body of so many bytes: the one in force is of version 1, or the records after it have many
-- bytes together, or the append would reach the place that the other cell names.
abbrev pub is_due : (bodies : List (List ℕ)) → Layout → (size : ℕ) → Bool
is_due bodies layout size =
    is_old layout.version || (nat_lt MANY (length (records bodies)) || reaches layout.place (layout.gate + 10 + size) layout.other)

-- How a checkpoint makes room. Only one that goes right after the cells may leave another one due, and one that replaces a
-- checkpoint there leaves none due. So after at most two checkpoints none is due.
pub record MakesRoom (old new : Layout) : Type 0 where
  pub once : (size : ℕ) → is_due [] new size ≡ true → new.place ≡ 43
  pub twice : old.place ≡ 43 → (size : ℕ) → is_due [] new size ≡ false
