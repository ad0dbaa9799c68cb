-- What the bytes of a disk that was just started encode.
use Rattle.std.proofs.Common.{◌≡◌, ◌≤◌, ◌<◌, inl, ℕ, ◌+◌, ◌^◌, List, [], ◌∷◌, ◌++◌, length, replicate, get_or, refl, sym, arith}
use Rattle.std.proofs.Common.{length-append}
use Rattle.std.proofs.lemmas.List.{append-nil}
use Rattle.iot_records.specs.Bytes.{Has, number, number_at}
use Rattle.iot_records.specs.Records.{spelled}
use Rattle.iot_records.proofs.BytesLaws.{length-number, has_left, has_right, has_none, has_byte, has_number_first, split_has}
use Rattle.iot_records.proofs.RecordsLaws.{length-spelled}
use Rattle.iot_slots.specs.Cells.{naming}
use Rattle.iot_slots.specs.Decoding.{Encodes, decoded, state_in}
use Rattle.iot_slots.specs.Layouts.{fresh_layout}
use Rattle.iot_slots.specs.Parts.{IsInForce}
use Rattle.iot_slots.specs.Start.{after_gate, started}
use Rattle.iot_slots.specs.declared.version.Version.TheVariants.{Two}
use Rattle.iot_slots.proofs.PartsLaws.{encodes}

module _ (header body : List ℕ) (count : ℕ) (eight : length header ≡ 8) (counted : count < 2 ^ 64) where
  abbrev count_on : List ℕ
  count_on = number count ++ 0 ∷ []

  abbrev checkpoint_on : List ℕ
  checkpoint_on = spelled body ++ count_on

  abbrev second_cell_on : List ℕ
  second_cell_on = replicate 17 0 ++ checkpoint_on

  abbrev place_on : List ℕ
  place_on = number (naming Two 43) ++ second_cell_on

  -- its first cell is in force, and its second one is closed
  pub fresh_in_force : (image : List ℕ) → Has image 1 header → get_or image 0 0 ≡ 165 → get_or image 9 0 ≡ 165 →
      Has image 10 (after_gate body count) → length image ≤ 2 ^ 62 →
      IsInForce header image (fresh_layout (length body)) (state_in Two body [] count) × (get_or image 26 0 ≡ 0)
  fresh_in_force image front opening gate generation limit =
      let place = has_right image 10 18 (number 1) place_on (omega (arith, length-number 1)) generation in
      let second_cell = has_right image 18 26 (number (naming Two 43)) second_cell_on
      (omega (arith, length-number (naming Two 43))) place in
      let checkpoint = has_right image 26 43 (replicate 17 0) checkpoint_on refl second_cell in
      let count_there = has_right image 43 (51 + length body) (spelled body) count_on (omega (arith, length-spelled body)) checkpoint in
      let last =
      has_right image (51 + length body) (59 + length body) (number count) (0 ∷ []) (omega (arith, length-number count)) count_there in
      let last_shut : get_or image (59 + length body) 0 ≡ 0 = has_byte image (59 + length body) 0 last in
      let other_shut : get_or image 26 0 ≡ 0 = second_cell.each 0 (omega arith) in
      let before : number_at image (51 + length body)
      ≡ count = has_number_first image (51 + length body) count (0 ∷ []) counted count_there in (
        record {
          version = refl;
          cell = record {
            header_size = eight;
            room = omega (arith, checkpoint.inside);
            opening = opening;
            front = front;
            gate = gate;
            generation = has_number_first image 10 1 place_on (omega arith) generation;
            place = has_number_first image 18 (naming Two 43) second_cell_on (omega arith) place;
          };
          checkpoint = record {
            past = omega arith;
            body = has_left image 43 (spelled body) count_on checkpoint;
            count = omega (arith, before, counted);
            follow = has_none image (59 + length body) (omega (arith, last.inside));
            end = omega arith;
            inside = omega (arith, last.inside);
            limit = omega (arith, last.inside, limit);
          };
          shut = λ h. absurd (omega (arith, last_shut, h));
          outranks = record { either = inl (λ h. absurd (omega (arith, other_shut, h))) };
        },
        other_shut,
      )

  length-started : length (started header body count) ≡ 60 + length body
  length-started =
      omega (
        arith,
        eight,
        length-append header (165 ∷ after_gate body count),
        length-append (number 1) place_on,
        length-append (number (naming Two 43)) second_cell_on,
        length-append (replicate 17 0) checkpoint_on,
        length-append (spelled body) count_on,
        length-append (number count) (0 ∷ []),
        length-number 1,
        length-number (naming Two 43),
        length-spelled body,
        length-number count,
      )

  -- and all of it encodes the body after so many records
  pub started_encodes : length body ≤ 2 ^ 61 → decoded header (started header body count) ≡ Encodes (state_in Two body [] count)
  started_encodes small =
      let bytes : List ℕ = started header body count in
      let rest : List ℕ = 165 ∷ after_gate body count in
      let all = split_has bytes 1 (header ++ rest) [] (omega (arith, length-started)) (sym (append-nil (header ++ rest))) in
      let gate = has_right bytes 1 9 header rest (omega (arith, eight)) all in
      let generation = has_right bytes 9 10 (165 ∷ []) (after_gate body count) refl gate in
      let is = fresh_in_force bytes (has_left bytes 1 header rest all) refl (has_byte bytes 9 165 (has_left bytes 9 (165 ∷ [])
      (after_gate body count) gate)) generation (omega (arith, length-started, small)) in
      encodes header bytes (fresh_layout (length body)) (state_in Two body [] count) is.0
