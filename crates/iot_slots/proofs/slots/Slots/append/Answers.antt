use Rattle.std.proofs.Common.{◌≡◌, ◌≤◌, ◌<◌, ◌⊎◌, inl, inr, ℕ, ◌+◌, ◌^◌, List, [], ◌∷◌, ◌++◌, length, get_or, refl, sym, ◌∙◌, ap, subst}
use Rattle.std.proofs.Common.{false, arith, length-append}
use Rattle.std.proofs.lemmas.Bool.{cases_eq}
use Rattle.std.proofs.lemmas.List.{append-nil, length_push}
use Rattle.iot_disk.specs.Disk.{overwritten, Torn, IsTornFrom, Only}
use Rattle.iot_records.specs.Bytes.{Has}
use Rattle.iot_records.specs.Records.{records, spelled}
use Rattle.iot_records.proofs.BytesLaws.{has_left, has_right, has_both, has_byte, byte_has, has_torn, has_written, torn_written}
use Rattle.iot_records.proofs.ImagesLaws.{each_only, each_torn}
use Rattle.iot_records.proofs.RecordsLaws.{length-spelled, length-records-push, records-push}
use Rattle.iot_slots.specs.Cells.{cell_at, other_of, next}
use Rattle.iot_slots.specs.Decoding.{Encodes, State, decoded, state_of}
use Rattle.iot_slots.specs.Due.{EachTakes}
use Rattle.iot_slots.specs.Layouts.{IsLaidOut, IsOther, is_due}
use Rattle.iot_slots.specs.Parts.{HasCell, HasCheckpoint, IsInForce}
use Rattle.iot_slots.specs.Slots.{appended, EachEncodes, EachEncodesEither}
use Rattle.iot_slots.specs.declared.layout.Layout.{Layout}
use Rattle.iot_slots.proofs.CellsLaws.{cell_range}
use Rattle.iot_slots.proofs.DueLaws.{due_in_force, never_appended, takes_none, takes_only}
use Rattle.iot_slots.proofs.LayoutsLaws.{laid_encodes, other_torn}
use Rattle.iot_slots.proofs.PartsLaws.{encodes, cell_torn, checkpoint_torn, outranks_torn, in_force_aside}
use Rattle.iot_slots.proofs.SlotsLaws.{synced, each_laid, either_before, either_after}
use Rattle.iot_slots.proofs.slots.Slots.append.Goals as goal

-- the cell says nothing of the gate and the count
cell_kept : (header bytes : List ℕ) (layout : Layout) (gate count : ℕ) → HasCell header bytes layout →
    HasCell header bytes (record layout { gate = gate; count = count })
cell_kept header bytes layout gate count has = record {
  header_size = has.header_size;
  room = has.room;
  opening = has.opening;
  front = has.front;
  gate = has.gate;
  generation = has.generation;
  place = has.place;
}

-- one record more follows the checkpoint
checkpoint_more : (bytes : List ℕ) (layout : Layout) (state : State) (body : List ℕ) (gate count : ℕ) → gate ≡ layout.gate + 9 + length body
    →
    HasCheckpoint bytes layout state → Has bytes layout.gate (165 ∷ spelled body) → gate < length bytes → gate < 2 ^ 62 →
    HasCheckpoint bytes (record layout { gate = gate; count = count }) (appended state body)
checkpoint_more bytes layout state body gate count gate_is has record_there inside limit =
    let all = records (state.bodies ++ body ∷ []) in
    let first = layout.place + 16 + length state.body in
    let pushed : all ≡ records state.bodies ++ 165 ∷ spelled body =
    sym (append-nil all)
    ∙ records-push state.bodies body []
    ∙ ap (λ (l : List ℕ). records state.bodies ++ 165 ∷ l) (append-nil (spelled body)) in
    record {
      past = has.past;
      body = has.body;
      count = omega (arith, has.count, length_push state.bodies body);
      follow = subst (λ (l : List ℕ). Has bytes first l) (sym pushed)
          (has_both bytes first layout.gate (records state.bodies) (165 ∷ spelled body) has.end has.follow record_there);
      end = omega (arith, gate_is, has.end, length-records-push state.bodies body);
      inside = inside;
      limit = limit;
    }

-- the bytes before the append are these, and the buffer spells the record
module _ (header bytes : List ℕ) (state : State) (layout : Layout) (body buffer : List ℕ) (laid : IsLaidOut header bytes state layout)
    (spells : buffer ≡ spelled body ++ 0 ∷ []) where
  abbrev InForce : List ℕ → Type 0
  InForce image = IsInForce header image layout state

  past : 43 ≤ layout.gate
  past = omega (arith, laid.in_force.checkpoint.past, laid.in_force.checkpoint.end)

  size : length buffer ≡ 9 + length body
  size = ap length spells ∙ omega (arith, length-append (spelled body) (0 ∷ []), length-spelled body)

  behind_torn : (old new : List ℕ) → InForce old → Torn (layout.gate + 1) (layout.gate + 1 + length buffer) old new → InForce new
  behind_torn old new is torn =
      in_force_aside (layout.gate + 1) (layout.gate + 1 + length buffer) old new torn header layout state (omega (arith, past))
      (inr (omega arith)) is

  -- the write of the record, and its sync
  each_behind : (before now : List ℕ → Type 0) → Only bytes before →
      IsTornFrom (layout.gate + 1) (layout.gate + 1 + length buffer) before now → EachEncodes header now state
  each_behind before now only torn =
      each_torn InForce (λ image. decoded header image ≡ Encodes state) (layout.gate + 1) (layout.gate + 1 + length buffer) before now
      (λ old new is t. encodes header new layout state (behind_torn old new is t)) torn
      (each_only InForce bytes before only laid.in_force)

  abbrev Other : List ℕ → Type 0
  Other image = IsOther image (cell_at (other_of layout.cell)) layout.generation layout.other

  -- what the other cell says
  other_kept : (at end : ℕ) (old new : List ℕ) → Torn at end old new → 43 ≤ at → 43 ≤ length old → Other old → Other new
  other_kept at end old new torn from room other =
      let range = cell_range (other_of layout.cell) in
      other_torn at end old new (cell_at (other_of layout.cell)) layout.generation layout.other torn (omega (arith, from, range.1))
      (omega (arith, room, range.1)) other

  takes_behind : (before now : List ℕ → Type 0) → Only bytes before →
      IsTornFrom (layout.gate + 1) (layout.gate + 1 + length buffer) before now → is_due state.bodies layout (length body) ≡ false →
      EachTakes header now state (length body)
  takes_behind before now only torn not_due = record {
    each = λ image left same.
        let from = torn.from image left in
        let one : Torn (layout.gate + 1) (layout.gate + 1 + length buffer) bytes image =
        subst (λ (b : List ℕ). Torn (layout.gate + 1) (layout.gate + 1 + length buffer) b image) (only.is from.0 from.1) from.2 in
        due_in_force header image layout state (length body) (behind_torn bytes image laid.in_force one)
        (other_kept (layout.gate + 1) (layout.gate + 1 + length buffer) bytes image one (omega (arith, past))
        laid.in_force.cell.room laid.other)
        ∙ not_due;
  }

  module _ (mid : List ℕ) (written : mid ≡ overwritten bytes (layout.gate + 1) buffer)
      (fits : layout.gate + 1 + length buffer ≤ 2 ^ 62) where
    inside : layout.gate + 1 ≤ length bytes
    inside = omega (arith, laid.in_force.checkpoint.inside)

    torn_mid : Torn (layout.gate + 1) (layout.gate + 1 + length buffer) bytes mid
    torn_mid = torn_written bytes (layout.gate + 1) buffer mid written inside

    in_mid : InForce mid
    in_mid = behind_torn bytes mid laid.in_force torn_mid

    has_mid : Has mid (layout.gate + 1) (spelled body ++ 0 ∷ [])
    has_mid = subst (λ (l : List ℕ). Has mid (layout.gate + 1) l) spells (has_written bytes (layout.gate + 1) buffer mid written inside)

    abbrev After : (gate count : ℕ) → List ℕ → Type 0
    After gate count image = IsInForce header image (record layout { gate = gate; count = count }) (appended state body)

    -- the gate of the whole record is written: the record counts or it does not
    gate_torn : (gate count : ℕ) (image : List ℕ) → gate ≡ layout.gate + length buffer → Torn layout.gate (layout.gate + 1) mid image →
        InForce image ⊎ After gate count image
    gate_torn gate count image gate_is torn =
        let here = layout.gate in
        let own = cell_range layout.cell in
        let other = cell_range (other_of layout.cell) in
        let cell =
        cell_torn here (here + 1) mid image torn header layout (omega (arith, past)) (inr (omega (arith, past, own.1))) in_mid.cell in
        let checkpoint = checkpoint_torn here (here + 1) mid image torn layout state (inr (omega arith)) in_mid.checkpoint in
        let outranks = outranks_torn here (here + 1) mid image torn (cell_at (other_of layout.cell)) layout.generation
        (omega (arith, in_mid.cell.room, other.1)) (inr (omega (arith, past, other.1))) in_mid.outranks in
        let whole = has_torn here (here + 1) mid image torn (here + 1) (spelled body ++ 0 ∷ []) (inr (omega arith)) has_mid in
        let last = has_right image (here + 1) gate (spelled body) (0 ∷ []) (omega (arith, gate_is, size, length-spelled body)) whole in
        let shut : get_or image gate 0 ≡ 0 = has_byte image gate 0 last in
        elim (cases_eq (get_or image here 0) 165) [
          | inl is_open ↦
              let gate_there = byte_has image here 165 checkpoint.inside is_open in
              let record_there = has_both image here (here + 1) (165 ∷ []) (spelled body) refl gate_there
              (has_left image (here + 1) (spelled body) (0 ∷ []) whole) in
              inr (record {
                version = in_mid.version;
                cell = cell_kept header image layout gate count cell;
                checkpoint = checkpoint_more image layout state body gate count (omega (arith, gate_is, size)) checkpoint record_there
                    (omega (arith, last.inside)) (omega (arith, gate_is, fits));
                shut = λ is. absurd (omega (arith, shut, is));
                outranks = outranks;
              })
          | inr is_shut ↦
              inl (record { version = in_mid.version; cell = cell; checkpoint = checkpoint; shut = is_shut; outranks = outranks })
        ]

    each_gate : (before now : List ℕ → Type 0) → Only mid before → IsTornFrom layout.gate (layout.gate + 1) before now →
        EachEncodesEither header now state (appended state body)
    each_gate before now only torn = record {
      each = λ image left.
          let from = torn.from image left in
          let one = subst (λ (b : List ℕ). Torn layout.gate (layout.gate + 1) b image) (only.is from.0 from.1) from.2 in
          elim (gate_torn (layout.gate + length buffer) 0 image refl one) [
            | inl old ↦ inl (encodes header image layout state old)
            | inr new ↦
                inr (encodes header image (record layout { gate = layout.gate + length buffer; count = 0 }) (appended state body) new)
          ];
    }

    takes_gate : (before now : List ℕ → Type 0) → Only mid before → IsTornFrom layout.gate (layout.gate + 1) before now →
        is_due state.bodies layout (length body) ≡ false → EachTakes header now state (length body)
    takes_gate before now only torn not_due = record {
      each = λ image left same.
          let from = torn.from image left in
          let one = subst (λ (b : List ℕ). Torn layout.gate (layout.gate + 1) b image) (only.is from.0 from.1) from.2 in
          let other : Other image =
          other_kept layout.gate (layout.gate + 1) mid image one past in_mid.cell.room
          (other_kept (layout.gate + 1) (layout.gate + 1 + length buffer) bytes mid torn_mid (omega (arith, past))
          laid.in_force.cell.room laid.other) in
          elim (gate_torn (layout.gate + length buffer) 0 image refl one) [
            | inl old ↦ due_in_force header image layout state (length body) old other ∙ not_due
            | inr new ↦
                absurd (never_appended state body (sym same
                ∙ encodes header image (record layout { gate = layout.gate + length buffer; count = 0 }) (appended state body) new))
          ];
    }

    -- the record is there
    laid_after : (now : List ℕ) (gate count : ℕ) → now ≡ overwritten mid layout.gate (165 ∷ []) → gate ≡ layout.gate + length buffer →
        count ≡ next layout.count → IsLaidOut header now (appended state body) (record layout { gate = gate; count = count })
    laid_after now gate count opened moved counted =
        let within : layout.gate ≤ length mid = omega (arith, in_mid.checkpoint.inside) in
        let torn = torn_written mid layout.gate (165 ∷ []) now opened within in
        let byte : get_or now layout.gate 0
        ≡ 165 = has_byte now layout.gate 165 (has_written mid layout.gate (165 ∷ []) now opened within) in
        let other = cell_range (other_of layout.cell) in
        let at = cell_at (other_of layout.cell) in
        record {
          in_force = elim (gate_torn gate count now moved torn) [ inl old ↦ absurd (old.shut byte) | inr new ↦ new ];
          first = laid.first;
          other =
              other_torn layout.gate (layout.gate + 1) mid now at layout.generation layout.other torn (omega (arith, past, other.1))
              (omega (arith, in_mid.cell.room, other.1))
              (other_torn (layout.gate + 1) (layout.gate + 1 + length buffer) bytes mid at layout.generation layout.other torn_mid
              (omega (arith, past, other.1)) (omega (arith, laid.in_force.cell.room, other.1)) laid.other);
          count = counted ∙ ap next laid.count;
          generation_fits = laid.generation_fits;
          count_fits = omega (arith, counted);
          limit = omega (arith, torn.no_longer, torn_mid.no_longer, laid.limit, fits);
        }

pub returns-in_err-keep-clause-images : goal.returns-in_err-keep-clause-images
returns-in_err-keep-clause-images g c =
    let spells = c.deref.ensures.value ∙ c.in_ok-spell_record.ensures in
    either_before _ _ _ _
    (each_behind _ _ _ _ c.args.body.now _ c.requires.synced.layout spells _ _ c.requires.synced.only c.in_err-keep.ensures.images)

pub returns-in_err-keep-2-clause-images : goal.returns-in_err-keep-2-clause-images
returns-in_err-keep-2-clause-images g c =
    let spells = c.deref.ensures.value ∙ c.in_ok-spell_record.ensures in
    let first = c.in_ok-keep.ensures in
    each_gate _ _ _ _ c.args.body.now _ c.requires.synced.layout spells _ first.written first.limit _ _ first.durable
    c.in_err-keep-2.ensures.images

pub returns-clause-synced : goal.returns-clause-synced
returns-clause-synced g c =
    let spells = c.deref.ensures.value ∙ c.in_ok-spell_record.ensures in
    let first = c.in_ok-keep.ensures in
    let then = c.in_ok-keep-2.ensures in
    let moved : c.args.self.now.layout.gate + c.len.result ≡ c.args.self.now.layout.gate + length c.deref.result.now =
    omega (arith, c.len.ensures, c.deref.ensures.len) in
    let laid =
    laid_after _ _ _ _ c.args.body.now _ c.requires.synced.layout spells _ first.written first.limit _ _ _ then.written moved refl in
    synced _ _ _ then.durable laid

pub returns-clause-state : goal.returns-clause-state
returns-clause-state g c =
    let spells = c.deref.ensures.value ∙ c.in_ok-spell_record.ensures in
    let first = c.in_ok-keep.ensures in
    let then = c.in_ok-keep-2.ensures in
    let laid =
    laid_after _ _ _ _ c.args.body.now _ c.requires.synced.layout spells _ first.written first.limit _ _ _ then.written refl refl in
    ap state_of (laid_encodes _ _ _ _ laid)

pub returns-clause-appended : goal.returns-clause-appended
returns-clause-appended g c =
    let spells = c.deref.ensures.value ∙ c.in_ok-spell_record.ensures in
    let first = c.in_ok-keep.ensures in
    let then = c.in_ok-keep-2.ensures in
    let laid =
    laid_after _ _ _ _ c.args.body.now _ c.requires.synced.layout spells _ first.written first.limit _ _ _ then.written refl refl in
    each_laid _ _ _ _ _ then.durable laid

pub returns-clause-images : goal.returns-clause-images
returns-clause-images g c = either_after _ _ _ _ (returns-clause-appended g c)

pub returns-clause-layout : goal.returns-clause-layout
returns-clause-layout g c =
    let spells = c.deref.ensures.value ∙ c.in_ok-spell_record.ensures in
    let old = c.args.self.now.layout in
    let size = length c.args.body.now in
    let moved : old.gate + c.len.result ≡ old.gate + 9 + size = omega (
      arith,
      c.len.ensures,
      c.deref.ensures.len,
      ap length spells,
      length-append (spelled c.args.body.now) (0 ∷ []),
      length-spelled c.args.body.now,
    ) in
    ap (λ (n : ℕ). record old { gate = n; count = next old.count }) moved

pub returns-in_err-spell_record-clause-takes : goal.returns-in_err-spell_record-clause-takes
returns-in_err-spell_record-clause-takes g c =
    takes_only _ _ _ _ _ _ c.requires.synced.only c.requires.synced.layout c.requires.not_due

pub returns-in_err-keep-clause-takes : goal.returns-in_err-keep-clause-takes
returns-in_err-keep-clause-takes g c =
    let spells = c.deref.ensures.value ∙ c.in_ok-spell_record.ensures in
    takes_behind _ _ _ _ c.args.body.now _ c.requires.synced.layout spells _ _ c.requires.synced.only c.in_err-keep.ensures.images
    c.requires.not_due

pub returns-in_err-keep-2-clause-takes : goal.returns-in_err-keep-2-clause-takes
returns-in_err-keep-2-clause-takes g c =
    let spells = c.deref.ensures.value ∙ c.in_ok-spell_record.ensures in
    let first = c.in_ok-keep.ensures in
    takes_gate _ _ _ _ c.args.body.now _ c.requires.synced.layout spells _ first.written first.limit _ _ first.durable
    c.in_err-keep-2.ensures.images c.requires.not_due

pub returns-clause-takes : goal.returns-clause-takes
returns-clause-takes g c = takes_none _ _ _ _ _ (returns-clause-appended g c)
