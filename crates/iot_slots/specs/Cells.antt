-- The two cells of a disk, each of which names a checkpoint, and which of them is in force.
use Rattle.std.specs.Prelude.{ℕ, ◌+◌, ◌%◌, ◌^◌, ◌==◌, Bool, true, false, nat_le, ◌&&◌, if◌then◌else◌, List, length}
use Rattle.iot_records.specs.Bytes.{number_at, is_open}
use Rattle.iot_slots.specs.declared.cell.Cell.{Cell}
use Rattle.iot_slots.specs.declared.cell.Cell.TheVariants.{First, Second}
use Rattle.iot_slots.specs.declared.cell.Force.{Force}
use Rattle.iot_slots.specs.declared.cell.Force.TheVariants.{NoCell, Clash, Is}
use Rattle.iot_slots.specs.declared.version.Version.{Version}
use Rattle.iot_slots.specs.declared.version.Version.TheVariants.{One, Two}

-- where the gate of a cell is; two numbers follow it: its generation, and the one that names the place of its checkpoint
abbrev pub cell_at : Cell → ℕ
cell_at First = 9
cell_at Second = 26

-- what is added to a place in a cell of version 2
abbrev pub version_mark : ℕ
version_mark = 2 ^ 63

-- the number with which a cell names the checkpoint at this place, in either version
abbrev pub naming : Version → (place : ℕ) → ℕ
naming One place = place
naming Two place = place + version_mark

-- the place that such a number names
abbrev pub place_named : ℕ → ℕ
place_named number = number % version_mark

abbrev pub version_by : (marked : Bool) → Version
version_by true = Two
version_by false = One

-- and the version
abbrev pub version_named : ℕ → Version
version_named number = version_by (nat_le version_mark number)

-- version 1 is only read
abbrev pub is_old : Version → Bool
is_old One = true
is_old Two = false

abbrev pub number_of : Version → ℕ
number_of One = 1
number_of Two = 2

abbrev pub other_of : Cell → Cell
other_of First = Second
other_of Second = First

-- one more, modulo 2 ^ 64: the next generation, and the count after an append
abbrev pub next : ℕ → ℕ
next n = (n + 1) % 2 ^ 64

-- which cell is in force, by the gates and the generations of both
abbrev pub chosen : (first second : Bool) (one two : ℕ) → Force
chosen true true one two = if one == next two then Is First else (if two == next one then Is Second else Clash)
chosen true false one two = Is First
chosen false true one two = Is Second
chosen false false one two = NoCell

abbrev pub counting : List ℕ → Force
counting bytes = chosen (is_open bytes 9) (is_open bytes 26) (number_at bytes 10) (number_at bytes 27)

-- byte 0 is open, and there is room for both cells
abbrev pub has_cells : List ℕ → Bool
has_cells bytes = nat_le 43 (length bytes) && is_open bytes 0

-- which cell is in force on a disk that may have none
abbrev pub in_force : List ℕ → Force
in_force bytes = if has_cells bytes then counting bytes else NoCell
