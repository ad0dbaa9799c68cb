-- The parts of a disk that count. Whatever a write leaves elsewhere, the disk encodes the same state.
use Rattle.std.specs.Prelude.{◌≡◌, ◌≢◌, ◌≤◌, ◌<◌, ◌⊎◌, ℕ, ◌+◌, ◌%◌, ◌^◌, List, length, slice_index}
use Rattle.iot_records.specs.Bytes.{Has, number_at}
use Rattle.iot_records.specs.Records.{records, spelled}
use Rattle.iot_slots.specs.Cells.{cell_at, naming, other_of, next}
use Rattle.iot_slots.specs.Decoding.{State}
use Rattle.iot_slots.specs.declared.layout.Layout.{Layout}

-- byte 0 is open and the header follows it, and the gate of the layout's cell is open, and its generation and the number that names its
-- place in its version follow it
pub record HasCell (header bytes : List ℕ) (layout : Layout) : Type 0 where
  pub header_size : length header ≡ 8
  pub room : 43 ≤ length bytes
  pub opening : slice_index bytes 0 ≡ 165
  pub front : Has bytes 1 header
  pub gate : slice_index bytes (cell_at layout.cell) ≡ 165
  pub generation : number_at bytes (cell_at layout.cell + 1) ≡ layout.generation
  pub place : number_at bytes (cell_at layout.cell + 9) ≡ naming layout.version layout.place

-- at the layout's place is a checkpoint with the state's body, the state's records follow it, and then comes the gate
pub record HasCheckpoint (bytes : List ℕ) (layout : Layout) (state : State) : Type 0 where
  pub past : 43 ≤ layout.place
  pub body : Has bytes layout.place (spelled state.body)
  pub count : (number_at bytes (layout.place + 8 + length state.body) + length state.bodies) % 2 ^ 64 ≡ state.count
  pub follow : Has bytes (layout.place + 16 + length state.body) (records state.bodies)
  pub end : layout.gate ≡ layout.place + 16 + length state.body + length (records state.bodies)
  pub inside : layout.gate < length bytes
  pub limit : layout.gate < 2 ^ 62

-- the cell at this offset does not count, or this is the generation after its own
pub record Outranks (bytes : List ℕ) (other generation : ℕ) : Type 0 where
  pub either : (slice_index bytes other ≢ 165) ⊎ (generation ≡ next (number_at bytes (other + 1)))

-- all parts that count
pub record IsInForce (header bytes : List ℕ) (layout : Layout) (state : State) : Type 0 where
  pub version : layout.version ≡ state.version
  pub cell : HasCell header bytes layout
  pub checkpoint : HasCheckpoint bytes layout state
  pub shut : slice_index bytes layout.gate ≢ 165
  pub outranks : Outranks bytes (cell_at (other_of layout.cell)) layout.generation
