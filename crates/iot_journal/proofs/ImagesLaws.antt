-- What the images of a laid out disk encode, and what each step of an append leaves of them.
use Rattle.std.proofs.Common.{◌≡◌, ◌≤◌, ◌<◌, ◌⊎◌, inr, ℕ, ◌+◌, ◌^◌, List, [], ◌∷◌, ◌++◌, length, drop, sym, ◌∙◌, ap, subst, arith}
use Rattle.std.proofs.Common.{append_assoc, length-append, length-drop}
use Rattle.iot_disk.specs.Disk.{Medium, overwritten, Torn, IsTornFrom, Only}
use Rattle.iot_journal.specs.Journal.{IsSynced, bodies_on}
use Rattle.iot_journal.specs.declared.journal.Journal.{Journal}
use Rattle.iot_journal.specs.Decoding.{Decoded, Encodes, decoded, started, records, spelled, bodies_decoded}
use Rattle.iot_journal.specs.Images.{EachDecodes, EachDecodesEither, IsLaidOut}
use Rattle.iot_journal.proofs.DecodingLaws.{encodes_shut, encodes_either, records-push, length-records-push, length-spelled}
use Rattle.iot_records.proofs.ImagesLaws as records
use Rattle.iot_disk.proofs.DiskLaws.{torn_after, torn_byte, written_after, written_byte}

-- a layout encodes its bodies
pub layout_encodes : (bytes : List ℕ) (bodies : List (List ℕ)) (gate : ℕ) → IsLaidOut bytes bodies gate → length bytes < 2 ^ 64
    → decoded bytes ≡ Encodes bodies
layout_encodes bytes bodies gate layout fits =
    let size : length (records bodies)
    < 2 ^ 64 = omega (arith, ap length layout.is, length-append (records bodies) (layout.byte ∷ layout.rest)) in
    ap decoded layout.is ∙ encodes_shut bodies layout.byte layout.rest size layout.shut

-- the records of a disk within its limit are within it
pub records_fit : (bytes : List ℕ) (bodies : List (List ℕ)) (gate : ℕ) → IsLaidOut bytes bodies gate → length bytes ≤ 2 ^ 62 →
    9 + length (records bodies) ≤ 2 ^ 62
records_fit bytes bodies gate layout limit =
    omega (arith, ap length layout.is, length-append (records bodies) (layout.byte ∷ layout.rest))

module _ (bytes : List ℕ) (bodies : List (List ℕ)) (gate : ℕ) (layout : IsLaidOut bytes bodies gate) (limit : length bytes ≤ 2 ^ 62) where
  abbrev front : List ℕ
  front = started (records bodies)

  size : length (records bodies) < 2 ^ 62
  size = omega (arith, records_fit bytes bodies gate layout limit)

  at_front : gate ≡ length (started (records bodies))
  at_front = layout.place ∙ omega arith

  -- the closed gate is in each image of a write after it
  pub encodes_after : (end : ℕ) (image : List ℕ) → Torn (gate + 1) end bytes image → decoded image ≡ Encodes bodies
  encodes_after end image torn =
      let one = subst (λ (b : List ℕ). Torn (gate + 1) end b image) layout.is torn in
      let two = subst (λ (n : ℕ). Torn (n + 1) end (front ++ layout.byte ∷ layout.rest) image) at_front one in
      let left = torn_after front layout.rest layout.byte end image two in
      ap decoded left.1 ∙ encodes_shut bodies layout.byte left.0 (omega (arith, size)) layout.shut

  pub each_after : (end : ℕ) (before now : List ℕ → Type 0) → Only bytes before → IsTornFrom (gate + 1) end before now
      → EachDecodes now (Encodes bodies)
  each_after end before now only torn = record {
    each = λ image left.
        let from = torn.from image left in
        encodes_after end image (subst (λ (b : List ℕ). Torn (gate + 1) end b image) (only.is from.0 from.1) from.2);
  }

  module _ (body : List ℕ) where
    abbrev tail : List ℕ
    tail = drop (length (spelled body ++ 0 ∷ [])) layout.rest

    -- the record after the closed gate
    staged_is : overwritten bytes (gate + 1) (spelled body ++ 0 ∷ []) ≡ front ++ layout.byte ∷ (spelled body ++ 0 ∷ tail)
    staged_is =
        ap (λ (b : List ℕ). overwritten b (gate + 1) (spelled body ++ 0 ∷ [])) layout.is
        ∙ ap (λ (n : ℕ). overwritten (front ++ layout.byte ∷ layout.rest) (n + 1) (spelled body ++ 0 ∷ [])) at_front
        ∙ written_after front layout.rest layout.byte (spelled body ++ 0 ∷ [])
        ∙ ap (λ (l : List ℕ). front ++ layout.byte ∷ l) (append_assoc (spelled body) (0 ∷ []) tail)

    -- and with its gate open
    pub appended_is : overwritten (overwritten bytes (gate + 1) (spelled body ++ 0 ∷ [])) gate (165 ∷ [])
        ≡ started (records (bodies ++ body ∷ []) ++ 0 ∷ tail)
    appended_is =
        ap (λ (b : List ℕ). overwritten b gate (165 ∷ [])) staged_is
        ∙ ap (λ (n : ℕ). overwritten (front ++ layout.byte ∷ (spelled body ++ 0 ∷ tail)) n (165 ∷ [])) at_front
        ∙ written_byte front (spelled body ++ 0 ∷ tail) layout.byte 165
        ∙ ap started (sym (records-push bodies body (0 ∷ tail)))

    -- in each image of the write of the gate the record counts or it doesn't
    pub encodes_gate : (mid image : List ℕ) → mid ≡ overwritten bytes (gate + 1) (spelled body ++ 0 ∷ [])
        → gate + 1 + length (spelled body ++ 0 ∷ []) ≤ 2 ^ 62 → Torn gate (gate + 1) mid image
        → (decoded image ≡ Encodes bodies) ⊎ (decoded image ≡ Encodes (bodies ++ body ∷ []))
    encodes_gate mid image is fits torn =
        let one = subst (λ (b : List ℕ). Torn gate (gate + 1) b image) (is ∙ staged_is) torn in
        let two = subst (λ (n : ℕ). Torn n (n + 1) (front ++ layout.byte ∷ (spelled body ++ 0 ∷ tail)) image) at_front one in
        let left = torn_byte front (spelled body ++ 0 ∷ tail) layout.byte image two in
        let either =
        encodes_either bodies left.0 0 body tail
        (omega (arith, layout.place, length-append (spelled body) (0 ∷ []), length-spelled body)) (omega arith) in
        subst (λ (b : List ℕ). (decoded b ≡ Encodes bodies) ⊎ (decoded b ≡ Encodes (bodies ++ body ∷ []))) (sym left.1) either

    pub each_gate : (buffer mid : List ℕ) (before now : List ℕ → Type 0) → buffer ≡ spelled body ++ 0 ∷ []
        → mid ≡ overwritten bytes (gate + 1) buffer → gate + 1 + length buffer ≤ 2 ^ 62 → Only mid before
        → IsTornFrom gate (gate + 1) before now → EachDecodesEither now (Encodes bodies) (Encodes (bodies ++ body ∷ []))
    each_gate buffer mid before now is_record is fits only torn = record {
      each = λ image left.
          let from = torn.from image left in
          let staged = is ∙ ap (λ (l : List ℕ). overwritten bytes (gate + 1) l) is_record in
          let room : gate + 1 + length (spelled body ++ 0 ∷ []) ≤ 2 ^ 62 = omega (arith, ap length is_record, fits) in
          encodes_gate mid image staged room (subst (λ (b : List ℕ). Torn gate (gate + 1) b image) (only.is from.0 from.1) from.2);
    }

    -- the journal is laid out again, and the disk is within its limit
    pub laid_out : (buffer mid now : List ℕ) (next : ℕ) → buffer ≡ spelled body ++ 0 ∷ [] → mid ≡ overwritten bytes (gate + 1) buffer
        → gate + 1 + length buffer ≤ 2 ^ 62 → now ≡ overwritten mid gate (165 ∷ []) → next ≡ gate + length buffer
        → IsLaidOut now (bodies ++ body ∷ []) next × (length now ≤ 2 ^ 62)
    laid_out buffer mid now next is_record staged fits opened moved =
        let is : now ≡ started (records (bodies ++ body ∷ []) ++ 0 ∷ tail) = opened
        ∙ ap (λ (l : List ℕ). overwritten l gate (165 ∷ [])) (staged ∙ ap (λ (l : List ℕ). overwritten bytes (gate + 1) l) is_record)
        ∙ appended_is in
        let long : length buffer ≡ 9 + length body = ap length is_record
        ∙ omega (arith, length-append (spelled body) (0 ∷ []), length-spelled body) in
        let more = length-records-push bodies body in (
          record { byte = 0; rest = tail; is = is; shut = omega arith; place = omega (arith, layout.place, more, long, moved) },
          omega (
            arith,
            ap length is,
            length-append (records (bodies ++ body ∷ [])) (0 ∷ tail),
            more,
            length-drop (length (spelled body ++ 0 ∷ [])) layout.rest,
            ap length is_record,
            ap length layout.is,
            length-append (records bodies) (layout.byte ∷ layout.rest),
            long,
            layout.place,
            limit,
            fits,
          ),
        )

-- a journal whose disk has one image, which is laid out, is synced
pub synced : {D : Type 0} (medium : Medium D) (journal : Journal D) (bodies : List (List ℕ))
    → Only (medium.reads journal.disk) (medium.may_leave journal.disk) → IsLaidOut (medium.reads journal.disk) bodies journal.gate
    → length (medium.reads journal.disk) ≤ 2 ^ 62 → journal.count ≡ length bodies
    → IsSynced medium journal
synced medium journal bodies only layout limit count =
    let is : decoded (medium.reads journal.disk)
    ≡ Encodes bodies = layout_encodes (medium.reads journal.disk) bodies journal.gate layout (omega (arith, limit)) in
    let on : bodies_on medium journal ≡ bodies = ap bodies_decoded is in (
    record {
      only = only;
      encodes = is ∙ ap Encodes (sym on);
      layout = subst (λ (bs : List (List ℕ)). IsLaidOut (medium.reads journal.disk) bs journal.gate) (sym on) layout;
      limit = limit;
      count = count ∙ ap length (sym on);
    }
    )

-- each image of a disk that has one decodes as that one
pub each_only : (bytes : List ℕ) (images : List ℕ → Type 0) (as_this : Decoded) → Only bytes images → decoded bytes ≡ as_this
    → EachDecodes images as_this
each_only bytes images as_this only is = records.each_only (λ image. decoded image ≡ as_this) bytes images only is

pub either_after : (images : List ℕ → Type 0) (before after : Decoded) → EachDecodes images after → EachDecodesEither images before after
either_after images before after all = record { each = λ image left. inr (all.each image left) }
