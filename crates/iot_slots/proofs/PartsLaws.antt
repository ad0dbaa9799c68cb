-- The parts that count are decoded as their state, and a write elsewhere leaves them.
use Rattle.std.proofs.Common.{◌≡◌, ◌≢◌, ◌≤◌, ◌<◌, ◌⊎◌, inl, inr, ℕ, ◌+◌, ◌%◌, ◌^◌, Bool, true, false, cond, List, ◌++◌}
use Rattle.std.proofs.Common.{length, get_or, take, drop, refl, sym, ◌∙◌, ap, arith}
use Rattle.std.specs.Prelude.{nat_eq, nat_le, ◌&&◌, not}
use Rattle.std.specs.List.{starts_with}
use Rattle.std.proofs.lemmas.Bool.Decides.{nat_tests, Decides-eqb}
use Rattle.std.proofs.lemmas.List.{take_at, drop_more}
use Rattle.std.proofs.lemmas.Slice.Eq.{starts_is}
use Rattle.iot_disk.specs.Disk.{Torn}
use Rattle.iot_records.specs.Bytes.{Has, number, number_at, is_open}
use Rattle.iot_records.specs.Records.{Whole, records, spelled, series_in}
use Rattle.iot_records.proofs.BytesLaws.{length-number, has_split, has_right, has_number_first, has_torn, byte_torn, number_torn}
use Rattle.iot_records.proofs.RecordsLaws.{length-spelled, series_whole}
use Rattle.iot_slots.specs.Cells.{cell_at, naming, place_named, other_of, next, counting, in_force, has_cells}
use Rattle.iot_slots.specs.Decoding.{Encodes, Damaged, Decoded, State, state_in, with_records, is_checkpoint, checkpoint_at, named_by}
use Rattle.iot_slots.specs.Decoding.{decoded, is_foreign}
use Rattle.iot_slots.specs.Parts.{HasCell, HasCheckpoint, Outranks, IsInForce}
use Rattle.iot_slots.specs.declared.cell.Force.TheVariants.{NoCell, Is}
use Rattle.iot_slots.specs.declared.layout.Layout.{Layout}
use Rattle.iot_slots.specs.declared.version.Version.{Version}
use Rattle.iot_slots.proofs.CellsLaws.{cell_range, version_back, place_back, counting_is}
use Rattle.iot_slots.proofs.DecodingLaws.{decoded_force}

-- ---- what they encode

module _ (bytes : List ℕ) (layout : Layout) (state : State) (has : HasCheckpoint bytes layout state) where
  abbrev place : ℕ
  place = layout.place

  abbrev size : ℕ
  size = length state.body

  abbrev first : ℕ
  first = place + 16 + size

  small : size < 2 ^ 62
  small = omega (arith, has.end, has.inside, has.limit)

  size_is : number_at bytes place ≡ size
  size_is = has_number_first bytes place size state.body (omega (arith, small)) has.body

  body_is : take size (drop (place + 8) bytes) ≡ state.body
  body_is =
      let here = has_right bytes place (place + 8) (number size) state.body (omega (arith, length-number size)) has.body in
      ap (λ (l : List ℕ). take size l) (has_split bytes (place + 8) state.body here)
      ∙ take_at state.body (drop (place + 8 + size) bytes) size refl

  series_is : get_or bytes layout.gate 0 ≢ 165 → series_in first (drop first bytes) ≡ Whole state.bodies
  series_is shut =
      ap (series_in first) (
      has_split bytes first (records state.bodies) has.follow
      ∙ ap (λ (n : ℕ). records state.bodies ++ drop n bytes) (sym has.end)
      ∙ ap (λ (l : List ℕ). records state.bodies ++ l) (drop_more bytes layout.gate 0 has.inside)
      )
      ∙ series_whole state.bodies first (get_or bytes layout.gate 0) (drop (layout.gate + 1) bytes)
      (omega (arith, has.end, has.inside, has.limit)) shut

  is_there : is_checkpoint place bytes ≡ true
  is_there =
      let past = has.past in
      let end : place + 16 + number_at bytes place < length bytes = omega (arith, size_is, has.end, has.inside) in
      grind (arith, nat_tests)

  abbrev found_at : (version : Version) (at : ℕ) (b : Bool) → Decoded
  found_at version at b = cond b (checkpoint_at version at (number_at bytes at) bytes) (Damaged (cell_at layout.cell))

  named_encodes : layout.version ≡ state.version → get_or bytes layout.gate 0 ≢ 165 →
      named_by layout.cell (naming layout.version place) bytes ≡ Encodes state
  named_encodes version_is shut =
      let number : ℕ = naming layout.version place in
      let low : place < 2 ^ 63 = omega (arith, has.end, has.limit) in
      let before : ℕ = number_at bytes (place + 8 + size) in
      ap (λ (v : Version). found_at v (place_named number) (is_checkpoint (place_named number) bytes))
      (version_back layout.version place low ∙ version_is)
      ∙ ap (λ (n : ℕ). found_at state.version n (is_checkpoint n bytes)) (place_back layout.version place low)
      ∙ ap (found_at state.version place) is_there
      ∙ ap (λ (n : ℕ). checkpoint_at state.version place n bytes) size_is
      ∙ ap (λ (l : List ℕ). with_records state.version l before (series_in first (drop first bytes))) body_is
      ∙ ap (with_records state.version state.body before) (series_is shut)
      ∙ ap (λ (n : ℕ). Encodes (state_in state.version state.body state.bodies n)) has.count

header_starts : (header bytes : List ℕ) → Has bytes 1 header → starts_with nat_eq (drop 1 bytes) header ≡ true
header_starts header bytes has =
    (starts_is Decides-eqb (drop 1 bytes) header (starts_with nat_eq (drop 1 bytes) header) refl).1 (drop (1 + length header) bytes)
    (has_split bytes 1 header has)

-- it is the layout's cell that is in force
pub in_force_is : (header bytes : List ℕ) (layout : Layout) (state : State) → IsInForce header bytes layout state →
    in_force bytes ≡ Is layout.cell
in_force_is header bytes layout state is =
    let cell = is.cell in
    let wide = cell.room in
    let opening = cell.opening in
    let room : has_cells bytes ≡ true = grind (arith, nat_tests) in
    ap (λ (b : Bool). cond b (counting bytes) NoCell) room
    ∙ counting_is bytes layout.cell layout.generation cell.gate cell.generation is.outranks

-- the law: the disk encodes the state of the parts that count, whatever else is on it
pub encodes : (header bytes : List ℕ) (layout : Layout) (state : State) → IsInForce header bytes layout state →
    decoded header bytes ≡ Encodes state
encodes header bytes layout state is =
    let cell = is.cell in
    let wide = cell.room in
    let opening = cell.opening in
    let native : is_foreign header bytes ≡ false =
    ap (λ (b : Bool). nat_le 9 (length bytes) && (is_open bytes 0 && not b)) (header_starts header bytes cell.front)
    ∙ grind (arith, nat_tests) in
    decoded_force header bytes (Is layout.cell) native (in_force_is header bytes layout state is)
    ∙ ap (λ (n : ℕ). named_by layout.cell n bytes) cell.place
    ∙ named_encodes bytes layout state is.checkpoint is.version is.shut

-- ---- what a write leaves, whole or cut short

module _ (at end : ℕ) (old new : List ℕ) (torn : Torn at end old new) where
  pub shut_torn : (k : ℕ) → (k < at) ⊎ (end ≤ k) → k < length old → get_or old k 0 ≢ 165 → get_or new k 0 ≢ 165
  shut_torn k out inside shut is = shut (sym (byte_torn at end old new torn k out inside) ∙ is)

  pub cell_torn : (header : List ℕ) (layout : Layout) → 9 ≤ at →
      (end ≤ cell_at layout.cell) ⊎ (cell_at layout.cell + 17 ≤ at) → HasCell header old layout → HasCell header new layout
  cell_torn header layout past out has =
      let range = cell_range layout.cell in
      let number_out : (k : ℕ) → 1 ≤ k → k ≤ 9 → (cell_at layout.cell + k + 8 ≤ at) ⊎ (end ≤ cell_at layout.cell + k) =
      λ k from to. elim out [ inl before ↦ inr (omega arith) | inr after ↦ inl (omega arith) ] in
      record {
        header_size = has.header_size;
        room = omega (arith, has.room, torn.no_shorter);
        opening = byte_torn at end old new torn 0 (inl (omega arith)) (omega (arith, has.room)) ∙ has.opening;
        front = has_torn at end old new torn 1 header (inl (omega (arith, has.header_size))) has.front;
        gate =
            byte_torn at end old new torn (cell_at layout.cell) (elim out [ inl before ↦ inr before | inr after ↦ inl (omega arith) ])
            (omega (arith, has.room, range.1))
            ∙ has.gate;
        generation =
            number_torn at end old new torn (cell_at layout.cell + 1) (number_out 1 (omega arith) (omega arith))
            (omega (arith, has.room, range.1))
            ∙ has.generation;
        place =
            number_torn at end old new torn (cell_at layout.cell + 9) (number_out 9 (omega arith) (omega arith))
            (omega (arith, has.room, range.1))
            ∙ has.place;
      }

  pub checkpoint_torn : (layout : Layout) (state : State) → (end ≤ layout.place) ⊎ (layout.gate ≤ at) →
      HasCheckpoint old layout state → HasCheckpoint new layout state
  checkpoint_torn layout state out has =
      let size = length state.body in
      let part_out : (k n : ℕ) → k + n ≤ layout.gate → layout.place ≤ k → (k + n ≤ at) ⊎ (end ≤ k) =
      λ k n to from. elim out [ inl before ↦ inr (omega arith) | inr after ↦ inl (omega arith) ] in
      let count_at = layout.place + 8 + size in
      record {
        past = has.past;
        body = has_torn at end old new torn layout.place (spelled state.body)
            (part_out layout.place (length (spelled state.body)) (omega (arith, has.end, length-spelled state.body)) (omega arith))
            has.body;
        count =
            ap (λ (n : ℕ). (n + length state.bodies) % 2 ^ 64)
            (number_torn at end old new torn count_at (part_out count_at 8 (omega (arith, has.end)) (omega arith))
            (omega (arith, has.end, has.inside)))
            ∙ has.count;
        follow = has_torn at end old new torn (layout.place + 16 + size) (records state.bodies)
            (part_out (layout.place + 16 + size) (length (records state.bodies)) (omega (arith, has.end)) (omega arith)) has.follow;
        end = has.end;
        inside = omega (arith, has.inside, torn.no_shorter);
        limit = has.limit;
      }

  -- a write that leaves the generation of the other cell
  pub outranks_number : (other generation : ℕ) → other + 9 ≤ length old → (end ≤ other + 1) ⊎ (other + 9 ≤ at) →
      generation ≡ next (number_at old (other + 1)) → Outranks new other generation
  outranks_number other generation room out before = record {
    either = inr (before ∙ ap next (sym (number_torn at end old new torn (other + 1)
        (elim out [ inl early ↦ inr early | inr late ↦ inl (omega arith) ]) (omega arith))));
  }

  pub outranks_torn : (other generation : ℕ) → other + 9 ≤ length old → (end ≤ other) ⊎ (other + 9 ≤ at) →
      Outranks old other generation → Outranks new other generation
  outranks_torn other generation room out outranks = elim outranks.either [
    | inl shut ↦ record {
      either = inl (shut_torn other (elim out [ inl early ↦ inr early | inr late ↦ inl (omega arith) ]) (omega arith) shut);
    }
    | inr before ↦ outranks_number other generation room (elim out [ inl early ↦ inl (omega arith) | inr late ↦ inr late ]) before
  ]

  -- a write outside the cell in force, its checkpoint and the records
  pub in_force_torn : (header : List ℕ) (layout : Layout) (state : State) → 9 ≤ at →
      (end ≤ cell_at layout.cell) ⊎ (cell_at layout.cell + 17 ≤ at) → (end ≤ layout.place) ⊎ (layout.gate < at) →
      Outranks new (cell_at (other_of layout.cell)) layout.generation → IsInForce header old layout state
      → IsInForce header new layout state
  in_force_torn header layout state past cell_out out outranks is = record {
    version = is.version;
    cell = cell_torn header layout past cell_out is.cell;
    checkpoint = checkpoint_torn layout state (elim out [ inl before ↦ inl before | inr after ↦ inr (omega arith) ]) is.checkpoint;
    shut = shut_torn layout.gate (elim out [ inl before ↦ inr (omega (arith, is.checkpoint.end)) | inr after ↦ inl after ])
        is.checkpoint.inside is.shut;
    outranks = outranks;
  }

  -- and after both cells
  pub in_force_aside : (header : List ℕ) (layout : Layout) (state : State) → 43 ≤ at → (end ≤ layout.place) ⊎ (layout.gate < at) →
      IsInForce header old layout state → IsInForce header new layout state
  in_force_aside header layout state past out is =
      let own = cell_range layout.cell in
      let other = cell_range (other_of layout.cell) in
      in_force_torn header layout state (omega arith) (inr (omega (arith, own.1))) out
      (outranks_torn (cell_at (other_of layout.cell)) layout.generation (omega (arith, is.cell.room, other.1))
      (inr (omega (arith, other.1))) is.outranks) is
