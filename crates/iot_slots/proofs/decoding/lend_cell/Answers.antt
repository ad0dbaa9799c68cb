use Rattle.std.proofs.Common.{◌≡◌, ◌≤◌, ◌<◌, ℕ, ◌+◌, ◌-◌, ◌%◌, ◌^◌, Bool, true, false, true≢false, cond, Option, Some, None, List, ◌∷◌}
use Rattle.std.proofs.Common.{length, get_or, take, drop, refl, sym, ◌∙◌, ap, subst, rules, arith, length-append, length-drop, inl, inr}
use Rattle.std.specs.Prelude.{nat_eq, nat_le, ◌&&◌, not}
use Rattle.std.specs.List.{starts_with}
use Rattle.std.specs.Int.{w64, from_be_bytes}
use Rattle.std.proofs.lemmas.Bool.Decides.{nat_tests, Decides-eqb}
use Rattle.std.proofs.lemmas.List.{drop-drop, get_or-drop, get_or_at, length-take-le, take_rest}
use Rattle.std.proofs.lemmas.Slice.Eq.{starts_is}
use Rattle.iot_disk.specs.declared.faults.StartFault.{StartFault}
use Rattle.iot_disk.specs.declared.faults.StartFault.TheVariants as fault
use Rattle.iot_records.specs.Bytes.{Has, number_in, number_at, is_open}
use Rattle.iot_records.specs.Records.{spelled, records, series_in, IsSeries, IsCutReason}
use Rattle.iot_records.proofs.BytesLaws.{split_has}
use Rattle.iot_records.proofs.RecordsLaws.{whole_is}
use Rattle.iot_slots.specs.Cells.{counting, in_force, cell_at, naming, place_named, version_named, other_of, has_cells}
use Rattle.iot_slots.specs.Decoding.{Decoded, Damaged, with_records, state_in, is_checkpoint, checkpoint_at, named_by, is_foreign, decoded}
use Rattle.iot_slots.specs.Layouts.{IsOther, IsLaidOut, named_in}
use Rattle.iot_slots.specs.Parts.{Outranks}
use Rattle.iot_slots.specs.Start.{IsReason}
use Rattle.iot_slots.specs.declared.cell.Cell.{Cell}
use Rattle.iot_slots.specs.declared.cell.Force.TheVariants.{Is}
use Rattle.iot_slots.specs.declared.layout.Layout.{Layout}
use Rattle.iot_slots.specs.declared.version.Version.{Version}
use Rattle.iot_slots.proofs.CellsLaws.{naming_again, counting_inv, force_inv, opened_is, shut_is}
use Rattle.iot_slots.proofs.DecodingLaws.{decoded_force}
use Rattle.iot_slots.proofs.decoding.lend_cell.Goals as goal

-- what the other cell says
other_is : (bytes : List ℕ) (other generation : ℕ) (named : Option ℕ) (b : Bool) → is_open bytes other ≡ b →
    named ≡ cond b (Some (place_named (number_at bytes (other + 9)))) None → Outranks bytes other generation →
    IsOther bytes other generation named
other_is bytes other generation named true is named_is outranks =
    let gate : get_or bytes other 0 ≡ 165 = opened_is bytes other is in
    subst (λ (n : Option ℕ). IsOther bytes other generation n) (sym named_is)
    (gate, elim outranks.either [ inl shut ↦ absurd (shut gate) | inr after ↦ after ], refl)
other_is bytes other generation named false is named_is outranks =
    subst (λ (n : Option ℕ). IsOther bytes other generation n) (sym named_is) (shut_is bytes other is)

module _ (header bytes : List ℕ) (cell : Cell) (native : is_foreign header bytes ≡ false) (force : in_force bytes ≡ Is cell)
    (eight : length header ≡ 8) (limit : length bytes ≤ 2 ^ 62) (small : (i : ℕ) → get_or bytes i 0 < 256) (number : ℕ)
    (number_is : number ≡ number_at bytes (cell_at cell + 9)) (place : ℕ) (place_is : place ≡ place_named number)
    (version : Version) (version_is : version ≡ version_named number) where
  inv : (has_cells bytes ≡ true) × (counting bytes ≡ Is cell)
  inv = force_inv (has_cells bytes) (counting bytes) cell force

  room : 43 ≤ length bytes
  room = let has = inv.0 in grind (arith, nat_tests)

  opening : get_or bytes 0 0 ≡ 165
  opening = let has = inv.0 in grind (arith, nat_tests)

  starts : starts_with nat_eq (drop 1 bytes) header ≡ true
  starts = starts_by (starts_with nat_eq (drop 1 bytes) header) refl
    where
      starts_by : (b : Bool) → starts_with nat_eq (drop 1 bytes) header ≡ b → b ≡ true
      starts_by true is = refl
      starts_by false is =
          let wide = room in
          let first = opening in
          let both : (nat_le 9 (length bytes) && (is_open bytes 0 && true)) ≡ true = grind (arith, nat_tests) in
          absurd (true≢false (sym both ∙ ap (λ (b : Bool). nat_le 9 (length bytes) && (is_open bytes 0 && not b)) (sym is) ∙ native))

  has_header : Has bytes 1 header
  has_header =
      split_has bytes 1 header (drop (length header) (drop 1 bytes)) (omega (arith, room))
      ((starts_is Decides-eqb (drop 1 bytes) header (starts_with nat_eq (drop 1 bytes) header) refl).0 starts)

  abbrev found_at : (version : Version) (at : ℕ) (b : Bool) → Decoded
  found_at version at b = cond b (checkpoint_at version at (number_at bytes at) bytes) (Damaged (cell_at cell))

  named : (b : Bool) → is_checkpoint place bytes ≡ b → decoded header bytes ≡ found_at version place b
  named b is =
      decoded_force header bytes (Is cell) native force
      ∙ ap (λ (n : ℕ). named_by cell n bytes) (sym number_is)
      ∙ ap (λ (n : ℕ). found_at (version_named number) n (is_checkpoint n bytes)) (sym place_is)
      ∙ ap (λ (v : Version). found_at v place (is_checkpoint place bytes)) (sym version_is)
      ∙ ap (found_at version place) is

  module _ (fits : number < 2 ^ 64) (size : ℕ) (there : is_checkpoint place bytes ≡ true) (size_is : size ≡ number_at bytes place) where
    past : 43 ≤ place
    past = let is = there in grind (arith, nat_tests)

    bound : place + 16 + number_at bytes place < length bytes
    bound = let is = there in grind (arith, nat_tests)

    end : place + 16 + size < length bytes
    end = omega (arith, size_is, bound)

    sized : decoded header bytes ≡ checkpoint_at version place size bytes
    sized = named true there ∙ ap (λ (n : ℕ). checkpoint_at version place n bytes) (sym size_is)

    -- records that are cut short
    cut_reason : (why : StartFault) (first : ℕ) (tail : List ℕ) → first ≡ place + 16 + size → tail ≡ drop first bytes →
        IsCutReason why (series_in first tail) → IsReason why (decoded header bytes)
    cut_reason fault.NoMemory first tail first_is tail_is reason = tt
    cut_reason fault.Stopped first tail first_is tail_is reason = reason
    cut_reason fault.Foreign first tail first_is tail_is reason = absurd reason
    cut_reason (fault.Damaged at) first tail first_is tail_is reason =
        sized ∙ ap (with_records version (take size (drop (place + 8) bytes)) (number_at bytes (place + 8 + size))) (
        ap (λ (n : ℕ). series_in n (drop n bytes)) (sym first_is) ∙ ap (series_in first) (sym tail_is) ∙ reason)

    size_spelled : size ≡ from_be_bytes w64 (take 8 (drop place bytes))
    unfolding number_in
    size_spelled = size_is

    body_there : Has bytes place (spelled (take size (drop (place + 8) bytes)))
    body_there =
        let from = drop place bytes in
        let rest = drop (place + 8) bytes in
        let is = whole_is from (take 8 from) rest size refl (sym (drop-drop 8 place bytes)) (omega (arith, length-drop place bytes, end))
        size_spelled (λ i. subst (λ (n : ℕ). n < 256) (sym (get_or-drop place bytes i 0)) (small (place + i)))
        (omega (arith, length-drop (place + 8) bytes, end)) in
        split_has bytes place (spelled (take size rest)) (drop (8 + length (take size rest)) from) (omega (arith, end)) is

    -- the layout that was found
    module _ (body : List ℕ) (bodies : List (List ℕ)) (layout : Layout) (cell_is : layout.cell ≡ cell) (layout_place : layout.place ≡ place)
        (body_is : body ≡ take size (drop (place + 8) bytes)) (first_is : layout.first ≡ place + 16 + size)
        (series : IsSeries (drop layout.first bytes) layout.first bodies layout.gate)
        (generation_is : layout.generation ≡ number_at bytes (cell_at cell + 1)) (low : layout.generation < 2 ^ 64)
        (count_is : layout.count ≡ (number_at bytes (place + 8 + size) + length bodies) % 2 ^ 64)
        (named_is : layout.other ≡ named_in bytes (other_of cell)) (layout_version : layout.version ≡ version) where
      long : length body ≡ size
      long = ap length body_is ∙ length-take-le size (drop (place + 8) bytes) (omega (arith, length-drop (place + 8) bytes, end))

      series_size : length bytes - layout.first ≡ length (records bodies) + 1 + length series.rest
      series_size =
          sym (length-drop layout.first bytes)
          ∙ ap length series.is
          ∙ omega (arith, length-append (records bodies) (series.byte ∷ series.rest))

      gate_in : layout.gate < length bytes
      gate_in = omega (arith, series.place, series_size, first_is, end)

      gate_byte : get_or bytes layout.gate 0 ≡ series.byte
      gate_byte =
          ap (λ (n : ℕ). get_or bytes n 0) series.place
          ∙ sym (get_or-drop layout.first bytes (length (records bodies)) 0)
          ∙ ap (λ (l : List ℕ). get_or l (length (records bodies)) 0) series.is
          ∙ get_or_at (records bodies) series.byte series.rest 0 (length (records bodies)) refl

      outranks : Outranks bytes (cell_at (other_of cell)) layout.generation
      outranks = subst (λ (n : ℕ). Outranks bytes (cell_at (other_of cell)) n) (sym generation_is) (counting_inv bytes cell inv.1).1

      at_cell : (P : Cell → Type 0) → P cell → P layout.cell
      at_cell P is = subst P (sym cell_is) is

      laid_found : IsLaidOut header bytes (state_in layout.version body bodies layout.count) layout
      laid_found = record {
        in_force = record {
          version = refl;
          cell = record {
            header_size = eight;
            room = room;
            opening = opening;
            front = has_header;
            gate = at_cell (λ x. get_or bytes (cell_at x) 0 ≡ 165) (counting_inv bytes cell inv.1).0;
            generation = at_cell (λ x. number_at bytes (cell_at x + 1) ≡ layout.generation) (sym generation_is);
            place = at_cell (λ x. number_at bytes (cell_at x + 9) ≡ naming layout.version layout.place)
                (sym number_is
                ∙ naming_again number fits
                ∙ ap (naming (version_named number)) (sym (layout_place ∙ place_is))
                ∙ ap (λ (v : Version). naming v layout.place) (sym (layout_version ∙ version_is)));
          };
          checkpoint = record {
            past = omega (arith, layout_place, past);
            body = subst (λ (n : ℕ). Has bytes n (spelled body)) (sym layout_place)
                (subst (λ (l : List ℕ). Has bytes place (spelled l)) (sym body_is) body_there);
            count =
                subst (λ (n : ℕ). (number_at bytes n + length bodies) % 2 ^ 64 ≡ layout.count) (omega (arith, layout_place, long))
                (sym count_is);
            follow = subst (λ (n : ℕ). Has bytes n (records bodies)) (omega (arith, first_is, layout_place, long))
                (split_has bytes layout.first (records bodies) (series.byte ∷ series.rest) (omega (arith, first_is, end)) series.is);
            end = omega (arith, series.place, first_is, layout_place, long);
            inside = gate_in;
            limit = omega (arith, gate_in, limit);
          };
          shut = λ h. series.shut (sym gate_byte ∙ h);
          outranks = at_cell (λ x. Outranks bytes (cell_at (other_of x)) layout.generation) outranks;
        };
        first = omega (arith, first_is, layout_place, long);
        other = at_cell (λ x. IsOther bytes (cell_at (other_of x)) layout.generation layout.other)
            (other_is bytes (cell_at (other_of cell)) layout.generation layout.other (is_open bytes (cell_at (other_of cell))) refl named_is
            outranks);
        count = refl;
        generation_fits = low;
        count_fits = omega (arith, count_is);
        limit = limit;
      }

pub returns-in_default-clause-err : goal.returns-in_default-clause-err
returns-in_default-clause-err c =
    let number_is = c.number_at-number.ensures ∙ ap (λ (n : ℕ). number_at c.args.bytes.now (n + 9)) c.at-at.ensures in
    named c.args.header.now c.args.bytes.now c.args.cell c.requires.native c.requires.force c.told-header c.requires.limit
    (λ i. (c.type_inv.bytes i).fits) c.number_at-number.result number_is c.place_named-place.result c.place_named-place.ensures
    (version_named c.number_at-number.result) refl false c.in_default.ensures.none
    ∙ ap Damaged (sym c.at-at.ensures)

pub returns-in_err-found-clause-err : goal.returns-in_err-found-clause-err
returns-in_err-found-clause-err c =
    let bytes = c.args.bytes.now in
    let there = c.in-Some in
    let number = c.number_at-number.result in
    let place = c.place_named-place.result in
    let first = place + 8 + there.size + 8 in
    let number_is = c.number_at-number.ensures ∙ ap (λ (n : ℕ). number_at c.args.bytes.now (n + 9)) c.at-at.ensures in
    let reason = cut_reason c.args.header.now bytes c.args.cell c.requires.native c.requires.force c.told-header c.requires.limit
    (λ i. (c.type_inv.bytes i).fits) number number_is place c.place_named-place.ensures (version_named number) refl
    c.number_at-number.type_inv there.size there.ensures.some there.ensures.size
    c.in_err-found.field-0.0 first (take (length bytes - first) (drop first bytes)) (omega arith) (take_rest bytes first)
    c.in_err-found.ensures.err in
    search (rules, reason)

pub returns-clause-ok : goal.returns-clause-ok
returns-clause-ok c =
    let bytes = c.args.bytes.now in
    let number = c.number_at-number.result in
    let place = c.place_named-place.result in
    let there = c.in-Some in
    let size = there.size in
    let start = place + 8 in
    let first = start + size + 8 in
    let number_is = c.number_at-number.ensures ∙ ap (λ (n : ℕ). number_at c.args.bytes.now (n + 9)) c.at-at.ensures in
    let exact : start + size - start ≡ size = omega arith in
    let series =
    subst (λ (l : List ℕ). IsSeries l first c.in_ok-found.found.records c.in_ok-found.found.gate) (take_rest bytes first)
    c.in_ok-found.ensures.ok in
    laid_found c.args.header.now bytes c.args.cell c.requires.native c.requires.force c.told-header c.requires.limit
    (λ i. (c.type_inv.bytes i).fits) number number_is place c.place_named-place.ensures c.named.result c.named.ensures
    c.number_at-number.type_inv size there.ensures.some there.ensures.size
    (take (start + size - start) (drop start bytes)) c.in_ok-found.found.records (record {
      version = c.named.result;
      cell = c.args.cell;
      generation = c.number_at.result;
      place = place;
      first = first;
      gate = c.in_ok-found.found.gate;
      other = c.named_by.result;
      count = (c.number_at-2.result + c.in_ok-found.found.count) % 2 ^ 64;
    }) refl refl
    (ap (λ (n : ℕ). take n (drop start bytes)) exact) (omega arith) series
    (c.number_at.ensures ∙ ap (λ (n : ℕ). number_at c.args.bytes.now (n + 1)) c.at-at.ensures) c.number_at.type_inv
    (ap (λ (n : ℕ). (n + c.in_ok-found.found.count) % 2 ^ 64) c.number_at-2.ensures
    ∙ ap (λ (n : ℕ). (number_at bytes (start + size) + n) % 2 ^ 64) c.in_ok-found.ensures.count)
    (c.named_by.ensures ∙ ap (λ (x : Cell). named_in c.args.bytes.now x) c.other.ensures) refl
