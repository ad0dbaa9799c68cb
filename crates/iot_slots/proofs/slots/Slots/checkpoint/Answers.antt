use Rattle.std.proofs.Common.{◌≡◌, ◌≢◌, ◌≤◌, ◌<◌, ◌⊎◌, inl, inr, ℕ, ◌+◌, ◌^◌, Option, Some, None, List, [], ◌∷◌, ◌++◌, length, get_or}
use Rattle.std.proofs.Common.{refl, sym, ◌∙◌, ap, subst, rules, arith, length-append}
use Rattle.std.proofs.lemmas.Bool.{cases_eq}
use Rattle.iot_disk.specs.Disk.{overwritten, Torn, IsTornFrom, Only, SameImages}
use Rattle.iot_records.specs.Bytes.{Has, number, number_at}
use Rattle.iot_records.specs.Images.{Each}
use Rattle.iot_records.specs.Records.{spelled}
use Rattle.iot_records.proofs.BytesLaws.{length-number, has_left, has_right, has_none, has_byte, has_number, has_number_first, has_torn}
use Rattle.iot_records.proofs.BytesLaws.{has_written, torn_written}
use Rattle.iot_records.proofs.ImagesLaws.{each_only, each_same, each_so, each_torn}
use Rattle.iot_records.proofs.RecordsLaws.{length-spelled}
use Rattle.iot_slots.specs.Cells.{next, cell_at, naming, place_named, other_of}
use Rattle.iot_slots.specs.Decoding.{Encodes, State, decoded, state_of}
use Rattle.iot_slots.specs.Layouts.{IsOther, IsLaidOut, renewed_layout, closing_of}
use Rattle.iot_slots.specs.Parts.{Outranks, IsInForce}
use Rattle.iot_slots.specs.Slots.{renewed, EachEncodesEither}
use Rattle.iot_slots.specs.declared.layout.Layout.{Layout}
use Rattle.iot_slots.specs.declared.version.Version.{Version}
use Rattle.iot_slots.specs.declared.version.Version.TheVariants.{Two}
use Rattle.iot_slots.proofs.CellsLaws.{cell_range, cells_apart, other_other, place_back}
use Rattle.iot_slots.proofs.LayoutsLaws.{IsFree, laid_encodes, next_place_free, makes_room}
use Rattle.iot_slots.proofs.PartsLaws.{encodes, shut_torn, cell_torn, outranks_number, outranks_torn, in_force_torn, in_force_aside}
use Rattle.iot_slots.proofs.SlotsLaws.{synced, each_laid, either_before, either_after}
use Rattle.iot_slots.proofs.slots.Slots.checkpoint.Goals as goal

-- A checkpoint with this body is under way on a disk of these bytes: `gate` is the gate of the cell that it takes.
record IsUnderWay (header bytes : List ℕ) (state : State) (layout new : Layout) (body : List ℕ) (gate : ℕ) : Type 0 where
  laid : IsLaidOut header bytes state layout
  is : new ≡ renewed_layout layout (length bytes) (length body)
  gate_is : gate ≡ cell_at (other_of layout.cell)

under_way : (header bytes : List ℕ) (state : State) (layout : Layout) → IsLaidOut header bytes state layout → (body : List ℕ) (len : ℕ) →
    len ≡ length bytes → (new : Layout) → new ≡ renewed_layout layout len (length body) → (gate : ℕ) → gate ≡ cell_at new.cell →
    IsUnderWay header bytes state layout new body gate
under_way header bytes state layout laid body len len_is new is gate gate_is = record {
  laid = laid;
  is = is ∙ ap (λ (n : ℕ). renewed_layout layout n (length body)) len_is;
  gate_is = gate_is ∙ ap (λ (l : Layout). cell_at l.cell) is;
}

module _ (header bytes : List ℕ) (state : State) (layout new : Layout) (body : List ℕ) (gate : ℕ)
    (way : IsUnderWay header bytes state layout new body gate) where
  abbrev other : ℕ
  other = cell_at (other_of layout.cell)

  laid : IsLaidOut header bytes state layout
  laid = way.laid

  room : 43 ≤ length bytes
  room = laid.in_force.cell.room

  range : (9 ≤ gate) × (gate + 17 ≤ 43)
  range = subst (λ (n : ℕ). (9 ≤ n) × (n + 17 ≤ 43)) (sym way.gate_is) (cell_range (other_of layout.cell))

  apart : (gate + 17 ≤ cell_at layout.cell) ⊎ (cell_at layout.cell + 17 ≤ gate)
  apart = subst (λ (n : ℕ). (n + 17 ≤ cell_at layout.cell) ⊎ (cell_at layout.cell + 17 ≤ n)) (sym way.gate_is) (cells_apart layout.cell)

  free : IsFree layout.place layout.gate (length bytes) (length body) new.place
  free = subst (λ (n : ℕ). IsFree layout.place layout.gate (length bytes) (length body) n) (sym (ap (λ (l : Layout). l.place) way.is))
      (next_place_free layout.place layout.gate (length bytes) (length body) room laid.in_force.checkpoint.inside)

  abbrev InForce : List ℕ → Type 0
  InForce image = IsInForce header image layout state

  abbrev Old : List ℕ → Type 0
  Old image = decoded header image ≡ Encodes state

  old : (image : List ℕ) → InForce image → Old image
  old image is = encodes header image layout state is

  -- a write within the cell that is taken
  taken_torn : (at end : ℕ) (i j : List ℕ) → gate ≤ at → end ≤ gate + 17 → Torn at end i j → Outranks j other layout.generation → InForce i
      → InForce j
  taken_torn at end i j from to torn outranks is =
      in_force_torn at end i j torn header layout state (omega (arith, range.0))
      (elim apart [ inl before ↦ inl (omega arith) | inr after ↦ inr (omega arith) ])
      (inl (omega (arith, range.1, is.checkpoint.past))) outranks is

  -- ---- the gate is closed

  outranks_closing : (named : Option ℕ) (j : List ℕ) → IsOther bytes other layout.generation named →
      Torn gate (gate + length (closing_of named)) bytes j → Outranks j other layout.generation
  outranks_closing None j is torn =
      outranks_torn gate (gate + 0) bytes j torn other layout.generation (omega (arith, way.gate_is, range.1, room))
      (inl (omega (arith, way.gate_is))) laid.in_force.outranks
  outranks_closing (Some place) j is torn =
      outranks_number gate (gate + 1) bytes j torn other layout.generation (omega (arith, way.gate_is, range.1, room))
      (inl (omega (arith, way.gate_is))) is.1

  length_closing : (named : Option ℕ) → length (closing_of named) ≤ 1
  length_closing None = omega arith
  length_closing (Some place) = omega arith

  closing_torn : (j : List ℕ) → Torn gate (gate + length (closing_of layout.other)) bytes j → InForce j
  closing_torn j torn =
      taken_torn gate (gate + length (closing_of layout.other)) bytes j (omega arith) (omega (arith, length_closing layout.other)) torn
      (outranks_closing layout.other j laid.other torn) laid.in_force

  closed_by : (named : Option ℕ) (first : List ℕ) → IsOther bytes other layout.generation named →
      first ≡ overwritten bytes gate (closing_of named) → get_or first other 0 ≢ 165
  closed_by None first is written =
      shut_torn gate (gate + 0) bytes first (torn_written bytes gate [] first written (omega (arith, range.1, room))) other
      (inr (omega (arith, way.gate_is))) (omega (arith, way.gate_is, range.1, room)) is
  closed_by (Some place) first is written = λ h.
      let byte = has_byte first gate 0 (has_written bytes gate (0 ∷ []) first written (omega (arith, range.1, room))) in
      absurd (omega (arith, ap (λ (n : ℕ). get_or first n 0) way.gate_is, byte, h))

  -- the old cell is in force alone
  record IsAlone (image : List ℕ) : Type 0 where
    in_force : InForce image
    closed : get_or image other 0 ≢ 165

  alone_old : (image : List ℕ) → IsAlone image → Old image
  alone_old image is = old image is.in_force

  module _ (zeros : List ℕ) (zeros_are : zeros ≡ closing_of layout.other) where
    each_closing : (before now : List ℕ → Type 0) → Only bytes before → IsTornFrom gate (gate + length zeros) before now → Each Old now
    each_closing before now only torn = record {
      each = λ image left.
          let from = torn.from image left in
          old image (closing_torn image (subst (λ (l : List ℕ). Torn gate (gate + length l) bytes image) zeros_are
          (subst (λ (b : List ℕ). Torn gate (gate + length zeros) b image) (only.is from.0 from.1) from.2)));
    }

    alone_first : (first : List ℕ) → first ≡ overwritten bytes gate zeros → IsAlone first
    alone_first first written =
        let is : first ≡ overwritten bytes gate (closing_of layout.other) = written
        ∙ ap (λ (l : List ℕ). overwritten bytes gate l) zeros_are in
        record {
          in_force = closing_torn first (torn_written bytes gate (closing_of layout.other) first is (omega (arith, range.1, room)));
          closed = closed_by layout.other first laid.other is;
        }

    length_first : (first : List ℕ) → first ≡ overwritten bytes gate zeros → length first ≡ length bytes
    length_first first written =
        let torn = torn_written bytes gate zeros first written (omega (arith, range.1, room)) in
        omega (arith, torn.no_shorter, torn.no_longer, ap length zeros_are, length_closing layout.other, range.1, room)

  -- ---- the generation and the place are written, and the checkpoint

  alone_torn : (at end : ℕ) (i j : List ℕ) → gate < at → end ≤ gate + 17 → Torn at end i j → IsAlone i → IsAlone j
  alone_torn at end i j from to torn is =
      let closed =
      shut_torn at end i j torn other (inl (omega (arith, way.gate_is))) (omega (arith, way.gate_is, range.1, is.in_force.cell.room))
      is.closed in
      record { in_force = taken_torn at end i j (omega arith) to torn (record { either = inl closed }) is.in_force; closed = closed }

  alone_aside : (at end : ℕ) (i j : List ℕ) → at ≡ new.place → end ≡ at + (17 + length body) → Torn at end i j → IsAlone i → IsAlone j
  alone_aside at end i j at_is end_is torn is =
      let out : (end ≤ layout.place)
      ⊎ (layout.gate < at) = elim free.1 [ inl before ↦ inl (omega arith) | inr after ↦ inr (omega arith) ] in
      record {
        in_force = in_force_aside at end i j torn header layout state (omega (arith, free.0)) out is.in_force;
        closed =
            shut_torn at end i j torn other (inl (omega (arith, way.gate_is, range.1, free.0)))
            (omega (arith, way.gate_is, range.1, is.in_force.cell.room)) is.closed;
      }

  -- all is there but the open gate
  record IsReady (image : List ℕ) : Type 0 where
    alone : IsAlone image
    cell : Has image (gate + 1) (number new.generation ++ number (naming Two new.place))
    checkpoint : Has image new.place (spelled body ++ (number layout.count ++ 0 ∷ []))
    limit : length image ≤ 2 ^ 62

  module _ (named first : List ℕ) (named_is : named ≡ number new.generation ++ number (naming Two new.place)) (alone : IsAlone first)
      (same_length : length first ≡ length bytes) where
    wide : length named ≡ 16
    wide =
        ap length named_is
        ∙ omega (
          arith,
          length-append (number new.generation) (number (naming Two new.place)),
          length-number new.generation,
          length-number (naming Two new.place),
        )

    each_staging : (two three : List ℕ → Type 0) → Only first two → IsTornFrom (gate + 1) (gate + 1 + length named) two three
        → Each IsAlone three
    each_staging two three only torn =
        each_torn IsAlone IsAlone (gate + 1) (gate + 1 + length named) two three
        (λ i j is t. alone_torn (gate + 1) (gate + 1 + length named) i j (omega arith) (omega (arith, wide)) t is) torn
        (each_only IsAlone first two only alone)

    module _ (buffer : List ℕ) (buffer_is : buffer ≡ spelled body ++ (number layout.count ++ 0 ∷ [])) where
      long : length buffer ≡ 17 + length body
      long =
          ap length buffer_is
          ∙ omega (
            arith,
            length-append (spelled body) (number layout.count ++ 0 ∷ []),
            length-append (number layout.count) (0 ∷ []),
            length-spelled body,
            length-number layout.count,
          )

      each_placing : (two three four : List ℕ → Type 0) → Only first two → IsTornFrom (gate + 1) (gate + 1 + length named) two three →
          IsTornFrom new.place (new.place + length buffer) three four → Each IsAlone four
      each_placing two three four only torn next_torn =
          each_torn IsAlone IsAlone new.place (new.place + length buffer) three four
          (λ i j is t. alone_aside new.place (new.place + length buffer) i j refl (omega (arith, long)) t is) next_torn
          (each_staging two three only torn)

      now_ready : (second third : List ℕ) → second ≡ overwritten first (gate + 1) named → third ≡ overwritten second new.place buffer →
          new.place + length buffer ≤ 2 ^ 62 → IsReady third
      now_ready second third second_is third_is fits =
          let second_in : gate + 1 ≤ length first = omega (arith, same_length, range.1, room) in
          let second_torn = torn_written first (gate + 1) named second second_is second_in in
          let third_in : new.place ≤ length second = omega (arith, free.2, same_length, second_torn.no_shorter) in
          let third_torn = torn_written second new.place buffer third third_is third_in in
          let cell_there =
          subst (λ (l : List ℕ). Has second (gate + 1) l) named_is (has_written first (gate + 1) named second second_is second_in) in
          record {
            alone = alone_aside new.place (new.place + length buffer) second third refl (omega (arith, long)) third_torn
                (alone_torn (gate + 1) (gate + 1 + length named) first second (omega arith) (omega (arith, wide)) second_torn alone);
            cell =
                has_torn new.place (new.place + length buffer) second third third_torn (gate + 1)
                (number new.generation ++ number (naming Two new.place))
                (inl (omega (arith, ap length named_is, wide, range.1, free.0))) cell_there;
            checkpoint =
                subst (λ (l : List ℕ). Has third new.place l) buffer_is (has_written second new.place buffer third third_is third_in);
            limit = omega (arith, third_torn.no_longer, second_torn.no_longer, wide, same_length, range.1, room, laid.limit, fits);
          }

  -- ---- the gate is opened

  -- the gate of the new cell is written: it is in force, or the old one still is
  opening_torn : (i j : List ℕ) → IsReady i → Torn gate (gate + 1) i j → IsAlone j ⊎ IsInForce header j new (renewed state body)
  opening_torn i j ready torn =
      let is = ready.alone.in_force in
      let count = laid.count in
      let counted : layout.count < 2 ^ 64 = laid.count_fits in
      let low : layout.generation < 2 ^ 64 = laid.generation_fits in
      let new_cell : cell_at new.cell ≡ gate = ap (λ (l : Layout). cell_at l.cell) way.is ∙ sym way.gate_is in
      let new_other : cell_at (other_of new.cell) ≡ cell_at layout.cell =
      ap (λ (l : Layout). cell_at (other_of l.cell)) way.is ∙ ap cell_at (other_other layout.cell) in
      let version : new.version ≡ Two = ap (λ (l : Layout). l.version) way.is in
      let generation : new.generation ≡ next layout.generation = ap (λ (l : Layout). l.generation) way.is in
      let end : new.gate ≡ new.place + 16 + length body =
      ap (λ (l : Layout). l.gate) way.is ∙ ap (λ (l : Layout). l.place + 16 + length body) (sym way.is) in
      let cell = cell_torn gate (gate + 1) i j torn header layout (omega (arith, range.0))
      (elim apart [ inl before ↦ inl (omega arith) | inr after ↦ inr (omega arith) ]) is.cell in
      let cell_there =
      has_torn gate (gate + 1) i j torn (gate + 1) (number new.generation ++ number (naming Two new.place))
      (inr (omega arith)) ready.cell in
      let place_there =
      has_right j (gate + 1) (gate + 9) (number new.generation) (number (naming Two new.place))
      (omega (arith, length-number new.generation))
      cell_there in
      let all =
      has_torn gate (gate + 1) i j torn new.place (spelled body ++ (number layout.count ++ 0 ∷ []))
      (inr (omega (arith, range.1, free.0))) ready.checkpoint in
      let count_there =
      has_right j new.place (new.place + 8 + length body) (spelled body) (number layout.count ++ 0 ∷ [])
      (omega (arith, length-spelled body)) all in
      let last =
      has_right j (new.place + 8 + length body) new.gate (number layout.count) (0 ∷ []) (omega (arith, end, length-number layout.count))
      count_there in
      let shut : get_or j new.gate 0 ≡ 0 = has_byte j new.gate 0 last in
      let counts : number_at j (new.place + 8 + length body)
      ≡ layout.count = has_number_first j (new.place + 8 + length body) layout.count (0 ∷ []) counted count_there in
      let limit : new.gate < 2 ^ 62 = omega (arith, ready.limit, last.inside, torn.no_longer, range.1, ready.alone.in_force.cell.room) in
      elim (cases_eq (get_or j gate 0) 165) [
        | inl is_open ↦ inr (record {
          version = version;
          cell = record {
            header_size = cell.header_size;
            room = cell.room;
            opening = cell.opening;
            front = cell.front;
            gate = ap (λ (n : ℕ). get_or j n 0) new_cell ∙ is_open;
            generation =
                ap (λ (n : ℕ). number_at j (n + 1)) new_cell
                ∙ has_number_first j (gate + 1) new.generation (number (naming Two new.place)) (omega (arith, generation)) cell_there;
            place =
                ap (λ (n : ℕ). number_at j (n + 9)) new_cell
                ∙ has_number j (gate + 9) (naming Two new.place) (omega (arith, end, limit)) place_there
                ∙ ap (λ (v : Version). naming v new.place) (sym version);
          };
          checkpoint = record {
            past = free.0;
            body = has_left j new.place (spelled body) (number layout.count ++ 0 ∷ []) all;
            count = omega (arith, counts, count, counted);
            follow = has_none j (new.place + 16 + length body) (omega (arith, end, last.inside));
            end = omega (arith, end);
            inside = omega (arith, last.inside);
            limit = limit;
          };
          shut = λ h. absurd (omega (arith, shut, h));
          outranks = record {
            either = inr (generation ∙ ap next (sym cell.generation) ∙ ap (λ (n : ℕ). next (number_at j (n + 1))) (sym new_other));
          };
        })
        | inr is_shut ↦ inl (
            let closed : get_or j other 0 ≢ 165 = subst (λ (n : ℕ). get_or j n 0 ≢ 165) way.gate_is is_shut in
            record {
              in_force = taken_torn gate (gate + 1) i j (omega arith) (omega arith) torn (record { either = inl closed }) is;
              closed = closed;
            }
            )
      ]

  module _ (third : List ℕ) (ready : IsReady third) where
    each_opening : (before now : List ℕ → Type 0) → Only third before → IsTornFrom gate (gate + 1) before now →
        EachEncodesEither header now state (renewed state body)
    each_opening before now only torn =
        each_torn IsReady (λ image. (decoded header image ≡ Encodes state) ⊎ (decoded header image ≡ Encodes (renewed state body)))
        gate (gate + 1) before now
        (λ i j is t. elim (opening_torn i j is t) [
          | inl old_one ↦ inl (alone_old j old_one)
          | inr new_one ↦ inr (encodes header j new (renewed state body) new_one)
        ]) torn (each_only IsReady third before only ready)

    each_ready : (before now : List ℕ → Type 0) → Only third before → SameImages before now → Each Old now
    each_ready before now only same =
        each_same Old before now same (each_only Old third before only (alone_old third ready.alone))

    laid_new : (now : List ℕ) → now ≡ overwritten third gate (165 ∷ []) → IsLaidOut header now (renewed state body) new
    laid_new now written =
        let within : gate ≤ length third = omega (arith, range.1, ready.alone.in_force.cell.room) in
        let torn = torn_written third gate (165 ∷ []) now written within in
        let byte : get_or now gate 0 ≡ 165 = has_byte now gate 165 (has_written third gate (165 ∷ []) now written within) in
        let new_one : IsInForce header now new (renewed state body) = elim (opening_torn third now ready torn) [
          | inl old_one ↦ absurd (subst (λ (n : ℕ). get_or now n 0 ≢ 165) (sym way.gate_is) old_one.closed byte)
          | inr new_one ↦ new_one
        ] in
        let cell = cell_torn gate (gate + 1) third now torn header layout (omega (arith, range.0))
        (elim apart [ inl before ↦ inl (omega arith) | inr after ↦ inr (omega arith) ]) ready.alone.in_force.cell in
        let new_other : cell_at (other_of new.cell) ≡ cell_at layout.cell =
        ap (λ (l : Layout). cell_at (other_of l.cell)) way.is ∙ ap cell_at (other_other layout.cell) in
        let generation : new.generation ≡ next layout.generation = ap (λ (l : Layout). l.generation) way.is in
        let count : new.count ≡ layout.count = ap (λ (l : Layout). l.count) way.is in
        let checkpoint = laid.in_force.checkpoint in
        let named : IsOther now (cell_at layout.cell) new.generation (Some layout.place) = (
          cell.gate,
          generation ∙ ap next (sym cell.generation),
          ap place_named cell.place ∙ place_back layout.version layout.place (omega (arith, checkpoint.end, checkpoint.limit)),
        ) in
        record {
          in_force = new_one;
          first = ap (λ (l : Layout). l.first) way.is ∙ ap (λ (l : Layout). l.place + 16 + length body) (sym way.is);
          other = subst (λ (o : Option ℕ). IsOther now (cell_at (other_of new.cell)) new.generation o)
              (sym (ap (λ (l : Layout). l.other) way.is))
              (subst (λ (n : ℕ). IsOther now n new.generation (Some layout.place)) (sym new_other) named);
          count = count ∙ laid.count;
          generation_fits = omega (arith, generation);
          count_fits = omega (arith, count, laid.count_fits);
          limit = omega (arith, torn.no_longer, ready.limit, range.1, ready.alone.in_force.cell.room);
        }

pub returns-in_err-keep-clause-images : goal.returns-in_err-keep-clause-images
returns-in_err-keep-clause-images g c =
    let way = under_way _ _ _ _ c.requires.layout c.args.body.now _ c.len.ensures.length _ c.renewed-next.ensures _ c.at-gate.ensures in
    either_before _ _ _ _ (each_closing _ _ _ _ _ _ _ way _ c.closing.ensures _ _ c.requires.only c.in_err-keep.ensures.images)

pub returns-in_err-write_at-clause-no_memory : goal.returns-in_err-write_at-clause-no_memory
returns-in_err-write_at-clause-no_memory g c no_memory =
    let way = under_way _ _ _ _ c.requires.layout c.args.body.now _ c.len.ensures.length _ c.renewed-next.ensures _ c.at-gate.ensures in
    let one = c.in_ok-keep.ensures in
    let alone = alone_first _ _ _ _ _ _ _ way _ c.closing.ensures _ one.written in
    let same = length_first _ _ _ _ _ _ _ way _ c.closing.ensures _ one.written in
    each_so _ _ _ (alone_old _ _ _ _ _ _ _ way)
    (each_staging _ _ _ _ _ _ _ way _ _ c.spell_cell.ensures alone same _ _ one.durable c.in_err-write_at.ensures.images)

pub returns-in_err-write_at-clause-images : goal.returns-in_err-write_at-clause-images
returns-in_err-write_at-clause-images g c =
    let way = under_way _ _ _ _ c.requires.layout c.args.body.now _ c.len.ensures.length _ c.renewed-next.ensures _ c.at-gate.ensures in
    let one = c.in_ok-keep.ensures in
    let alone = alone_first _ _ _ _ _ _ _ way _ c.closing.ensures _ one.written in
    let same = length_first _ _ _ _ _ _ _ way _ c.closing.ensures _ one.written in
    either_before _ _ _ _
    (each_so _ _ _ (alone_old _ _ _ _ _ _ _ way)
    (each_staging _ _ _ _ _ _ _ way _ _ c.spell_cell.ensures alone same _ _ one.durable c.in_err-write_at.ensures.images))

pub returns-in_err-keep-2-clause-no_memory : goal.returns-in_err-keep-2-clause-no_memory
returns-in_err-keep-2-clause-no_memory g c no_memory =
    let way = under_way _ _ _ _ c.requires.layout c.args.body.now _ c.len.ensures.length _ c.renewed-next.ensures _ c.at-gate.ensures in
    let one = c.in_ok-keep.ensures in
    let alone = alone_first _ _ _ _ _ _ _ way _ c.closing.ensures _ one.written in
    let same = length_first _ _ _ _ _ _ _ way _ c.closing.ensures _ one.written in
    let spells = c.deref.ensures.value ∙ c.in_ok-spell_checkpoint.ensures in
    each_so _ _ _ (alone_old _ _ _ _ _ _ _ way)
    (each_placing _ _ _ _ _ _ _ way _ _ c.spell_cell.ensures alone same _ spells _ _ _ one.durable c.in_ok-write_at.ensures.images
    c.in_err-keep-2.ensures.images)

pub returns-in_err-keep-2-clause-images : goal.returns-in_err-keep-2-clause-images
returns-in_err-keep-2-clause-images g c =
    let way = under_way _ _ _ _ c.requires.layout c.args.body.now _ c.len.ensures.length _ c.renewed-next.ensures _ c.at-gate.ensures in
    let one = c.in_ok-keep.ensures in
    let alone = alone_first _ _ _ _ _ _ _ way _ c.closing.ensures _ one.written in
    let same = length_first _ _ _ _ _ _ _ way _ c.closing.ensures _ one.written in
    let spells = c.deref.ensures.value ∙ c.in_ok-spell_checkpoint.ensures in
    either_before _ _ _ _ (each_so _ _ _ (alone_old _ _ _ _ _ _ _ way)
    (each_placing _ _ _ _ _ _ _ way _ _ c.spell_cell.ensures alone same _ spells _ _ _ one.durable c.in_ok-write_at.ensures.images
    c.in_err-keep-2.ensures.images))

pub returns-in_err-keep-3-clause-images : goal.returns-in_err-keep-3-clause-images
returns-in_err-keep-3-clause-images g c =
    let way = under_way _ _ _ _ c.requires.layout c.args.body.now _ c.len.ensures.length _ c.renewed-next.ensures _ c.at-gate.ensures in
    let one = c.in_ok-keep.ensures in
    let alone = alone_first _ _ _ _ _ _ _ way _ c.closing.ensures _ one.written in
    let same = length_first _ _ _ _ _ _ _ way _ c.closing.ensures _ one.written in
    let spells = c.deref.ensures.value ∙ c.in_ok-spell_checkpoint.ensures in
    let two = c.in_ok-write_at.ensures in
    let three = c.in_ok-keep-2.ensures in
    let all = now_ready _ _ _ _ _ _ _ way _ _ c.spell_cell.ensures alone same _ spells _ _ two.written three.written three.limit in
    each_opening _ _ _ _ _ _ _ way _ all _ _ three.durable c.in_err-keep-3.ensures.images

pub returns-in_err-keep-3-clause-no_memory : goal.returns-in_err-keep-3-clause-no_memory
returns-in_err-keep-3-clause-no_memory g c =
    let way = under_way _ _ _ _ c.requires.layout c.args.body.now _ c.len.ensures.length _ c.renewed-next.ensures _ c.at-gate.ensures in
    let one = c.in_ok-keep.ensures in
    let alone = alone_first _ _ _ _ _ _ _ way _ c.closing.ensures _ one.written in
    let same = length_first _ _ _ _ _ _ _ way _ c.closing.ensures _ one.written in
    let spells = c.deref.ensures.value ∙ c.in_ok-spell_checkpoint.ensures in
    let two = c.in_ok-write_at.ensures in
    let three = c.in_ok-keep-2.ensures in
    let all = now_ready _ _ _ _ _ _ _ way _ _ c.spell_cell.ensures alone same _ spells _ _ two.written three.written three.limit in
    let done =
    each_ready _ _ _ _ _ _ _ way _ all (g.D.Disk.medium.may_leave c.keep-2.new.disk) (g.D.Disk.medium.may_leave c.keep-3.new.disk)
    three.durable in
    search (rules, done)

pub returns-clause-synced : goal.returns-clause-synced
returns-clause-synced g c =
    let way = under_way _ _ _ _ c.requires.layout c.args.body.now _ c.len.ensures.length _ c.renewed-next.ensures _ c.at-gate.ensures in
    let one = c.in_ok-keep.ensures in
    let alone = alone_first _ _ _ _ _ _ _ way _ c.closing.ensures _ one.written in
    let same = length_first _ _ _ _ _ _ _ way _ c.closing.ensures _ one.written in
    let spells = c.deref.ensures.value ∙ c.in_ok-spell_checkpoint.ensures in
    let two = c.in_ok-write_at.ensures in
    let three = c.in_ok-keep-2.ensures in
    let all = now_ready _ _ _ _ _ _ _ way _ _ c.spell_cell.ensures alone same _ spells _ _ two.written three.written three.limit in
    let four = c.in_ok-keep-3.ensures in
    let laid = laid_new _ _ _ _ _ _ _ way _ all _ four.written in
    synced _ _ _ four.durable laid

pub returns-clause-state : goal.returns-clause-state
returns-clause-state g c =
    let way = under_way _ _ _ _ c.requires.layout c.args.body.now _ c.len.ensures.length _ c.renewed-next.ensures _ c.at-gate.ensures in
    let one = c.in_ok-keep.ensures in
    let alone = alone_first _ _ _ _ _ _ _ way _ c.closing.ensures _ one.written in
    let same = length_first _ _ _ _ _ _ _ way _ c.closing.ensures _ one.written in
    let spells = c.deref.ensures.value ∙ c.in_ok-spell_checkpoint.ensures in
    let two = c.in_ok-write_at.ensures in
    let three = c.in_ok-keep-2.ensures in
    let all = now_ready _ _ _ _ _ _ _ way _ _ c.spell_cell.ensures alone same _ spells _ _ two.written three.written three.limit in
    let four = c.in_ok-keep-3.ensures in
    let laid = laid_new _ _ _ _ _ _ _ way _ all _ four.written in
    ap state_of (laid_encodes _ _ _ _ laid)

pub returns-clause-renewed : goal.returns-clause-renewed
returns-clause-renewed g c =
    let way = under_way _ _ _ _ c.requires.layout c.args.body.now _ c.len.ensures.length _ c.renewed-next.ensures _ c.at-gate.ensures in
    let one = c.in_ok-keep.ensures in
    let alone = alone_first _ _ _ _ _ _ _ way _ c.closing.ensures _ one.written in
    let same = length_first _ _ _ _ _ _ _ way _ c.closing.ensures _ one.written in
    let spells = c.deref.ensures.value ∙ c.in_ok-spell_checkpoint.ensures in
    let two = c.in_ok-write_at.ensures in
    let three = c.in_ok-keep-2.ensures in
    let all = now_ready _ _ _ _ _ _ _ way _ _ c.spell_cell.ensures alone same _ spells _ _ two.written three.written three.limit in
    let four = c.in_ok-keep-3.ensures in
    let laid = laid_new _ _ _ _ _ _ _ way _ all _ four.written in
    each_laid _ _ _ _ _ four.durable laid

pub returns-clause-images : goal.returns-clause-images
returns-clause-images g c =
    either_after _ _ _ _ (returns-clause-renewed g c)

pub returns-clause-layout : goal.returns-clause-layout
returns-clause-layout g c =
    c.renewed-next.ensures ∙ ap (λ (n : ℕ). renewed_layout c.args.self.now.layout n (length c.args.body.now)) c.len.ensures.length

pub returns-clause-room : goal.returns-clause-room
returns-clause-room g c =
    let checkpoint = c.requires.layout.in_force.checkpoint in
    makes_room _ _ _ _ checkpoint.past (omega (arith, c.len.ensures.length, checkpoint.end, checkpoint.inside)) c.renewed-next.ensures
