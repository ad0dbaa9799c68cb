use Rattle.std.proofs.Common.{◌≡◌, ◌≢◌, ◌≤◌, ◌<◌, inl, inr, ℕ, ◌+◌, ◌^◌, Result, Ok, Err, List, [], ◌∷◌, ◌++◌, length, get_or}
use Rattle.std.proofs.Common.{refl, sym, ◌∙◌, ap, subst, arith, true, take, drop, append_assoc, length-append}
use Rattle.std.proofs.lemmas.List.{take_at, drop_at, drop-drop}
use Rattle.std.proofs.lemmas.Result.{on_ok_weaker}
use Rattle.std.specs.Prelude.{OnOk, OnErr}
use Rattle.std.proofs.lemmas.Bool.{cases_eq}
use Rattle.std.proofs.lemmas.Bool.Decides.{nat_tests}
use Rattle.iot_disk.specs.Disk.{overwritten, Torn, IsTornFrom, Only}
use Rattle.iot_disk.specs.declared.disk.DiskFault.{DiskFault}
use Rattle.iot_records.specs.Bytes.{Has, is_closed}
use Rattle.iot_records.specs.Images.{Each}
use Rattle.iot_records.proofs.BytesLaws.{closed_more, closed_shut, has_left, has_right, has_byte}
use Rattle.iot_records.proofs.BytesLaws.{has_torn, has_written, byte_torn, torn_written}
use Rattle.iot_records.proofs.ImagesLaws.{each_only, each_so, each_torn}
use Rattle.iot_slots.specs.Decoding.{NotStarted, decoded, opened, state_in}
use Rattle.iot_slots.specs.Layouts.{IsLaidOut, fresh_layout}
use Rattle.iot_slots.specs.Parts.{IsInForce}
use Rattle.iot_slots.specs.Start.{IsOpening, fresh, after_gate, started_over}
use Rattle.iot_slots.specs.declared.version.Version.TheVariants.{Two}
use Rattle.iot_slots.proofs.DecodingLaws.{shut_first}
use Rattle.iot_slots.proofs.DueLaws.{due_in_force, due_laid, due_never}
use Rattle.iot_slots.proofs.LayoutsLaws.{laid_encodes}
use Rattle.iot_slots.proofs.PartsLaws.{encodes}
use Rattle.iot_slots.proofs.StartLaws.{fresh_in_force}
use Rattle.iot_slots.proofs.start.begin.Goals as goal

-- ---- as long as the first gate is closed

abbrev Opening : (header body image : List ℕ) → Type 0
Opening header body image = IsOpening header body image

not_started : (header body image : List ℕ) → decoded header image ≡ NotStarted → Opening header body image
not_started header body image is = record { encodes = ap (opened body) is; takes = λ size. due_never header image size is }

laid_opening : (header body image : List ℕ) → IsLaidOut header image (state_in Two body [] 0) (fresh_layout (length body)) →
    Opening header body image
laid_opening header body image laid = record {
  encodes = ap (opened body) (laid_encodes header image (state_in Two body [] 0) (fresh_layout (length body)) laid);
  takes = λ size. due_laid header image (fresh_layout (length body)) (state_in Two body [] 0) size laid;
}

each_closed : (header body old : List ℕ) (at end : ℕ) (before now : List ℕ → Type 0) → is_closed old ≡ true → 1 ≤ at → Only old before →
    IsTornFrom at end before now → Each (Opening header body) now
each_closed header body old at end before now closed past only torn =
    each_torn (λ image. image ≡ old) (Opening header body) at end before now (λ i j is t.
    not_started header body j (shut_first header j (λ h.
    closed_shut old closed
    (sym (byte_torn at end old j (subst (λ (b : List ℕ). Torn at end b j) is t) 0 (inl (omega arith)) (closed_more old closed))
    ∙ h))))
    torn (record { each = only.is })

still_closed : (at : ℕ) (old new bytes : List ℕ) → is_closed old ≡ true → 1 ≤ at → at ≤ length old → new ≡ overwritten old at bytes →
    is_closed new ≡ true
still_closed at old new bytes closed past inside is =
    let torn = torn_written old at bytes new is inside in
    let more = closed_more old closed in
    let same = byte_torn at (at + length bytes) old new torn 0 (inl (omega arith)) more in
    let shut : get_or new 0 0 ≢ 165 = λ h. closed_shut old closed (sym same ∙ h) in
    let long : 0 < length new = omega (arith, torn.no_shorter) in
    grind (arith, nat_tests)

-- ---- once all is there but the first gate

module _ (header body first second third buffer : List ℕ) (eight : length header ≡ 8) (closed : is_closed first ≡ true)
    (limit : length first ≤ 2 ^ 62) (buffer_is : buffer ≡ fresh header body 0) (second_is : second ≡ overwritten first 1 buffer)
    (fits : 1 + length buffer ≤ 2 ^ 62) (third_is : third ≡ overwritten second 9 (165 ∷ [])) where
  abbrev generation_on : List ℕ
  generation_on = after_gate body 0

  second_in : 1 ≤ length first
  second_in = closed_more first closed

  all_there : Has second 1 (header ++ 0 ∷ generation_on)
  all_there = subst (λ (l : List ℕ). Has second 1 l) buffer_is (has_written first 1 buffer second second_is second_in)

  gate_there : Has second 9 (0 ∷ generation_on)
  gate_there = has_right second 1 9 header (0 ∷ generation_on) (omega (arith, eight)) all_there

  third_in : 9 ≤ length second
  third_in = omega (arith, gate_there.inside)

  torn_third : Torn 9 10 second third
  torn_third = torn_written second 9 (165 ∷ []) third third_is third_in

  second_limit : length second ≤ 2 ^ 62
  second_limit = omega (arith, (torn_written first 1 buffer second second_is second_in).no_longer, limit, fits)

  opened_in_force : (image : List ℕ) → Torn 0 1 third image → get_or image 0 0 ≡ 165 →
      IsInForce header image (fresh_layout (length body)) (state_in Two body [] 0) × (get_or image 26 0 ≡ 0)
  opened_in_force image torn opening =
      let kept =
      λ (at : ℕ) (part : List ℕ) (past : 1 ≤ at) (has : Has third at part). has_torn 0 1 third image torn at part (inr past) has in
      let front = kept 1 header (omega arith) (has_torn 9 10 second third torn_third 1 header (inl (omega (arith, eight)))
      (has_left second 1 header (0 ∷ generation_on) all_there)) in
      let gate = kept 9 (165 ∷ []) (omega arith) (has_written second 9 (165 ∷ []) third third_is third_in) in
      let generation = kept 10 generation_on (omega arith) (has_torn 9 10 second third torn_third 10 generation_on (inr (omega arith))
      (has_right second 9 10 (0 ∷ []) generation_on refl gate_there)) in
      fresh_in_force header body 0 eight (omega arith) image front opening (has_byte image 9 165 gate) generation
      (omega (arith, torn.no_longer, torn_third.no_longer, second_limit, third_in, gate_there.inside))

  fresh_laid : (now : List ℕ) → now ≡ overwritten third 0 (165 ∷ [])
      → IsLaidOut header now (state_in Two body [] 0) (fresh_layout (length body))
  fresh_laid now opened_is =
      let torn = torn_written third 0 (165 ∷ []) now opened_is (omega arith) in
      let is = opened_in_force now torn (ap (λ (l : List ℕ). get_or l 0 0) opened_is) in
      record {
        in_force = is.0;
        first = refl;
        other = λ h. absurd (omega (arith, is.1, h));
        count = refl;
        generation_fits = omega arith;
        count_fits = omega arith;
        limit =
            omega (
              arith,
              torn.no_longer,
              torn_third.no_longer,
              third_in,
              (torn_written first 1 buffer second second_is second_in).no_longer,
              limit,
              fits,
            );
      }

  opening_image : (image : List ℕ) → Torn 0 1 third image → Opening header body image
  opening_image image torn = elim (cases_eq (get_or image 0 0) 165) [
    | inl is ↦
        let there = opened_in_force image torn is in
        record {
          encodes = ap (opened body) (encodes header image (fresh_layout (length body)) (state_in Two body [] 0) there.0);
          takes = λ size.
              due_in_force header image (fresh_layout (length body)) (state_in Two body [] 0) size there.0
              (λ h. absurd (omega (arith, there.1, h)));
        }
    | inr shut ↦ not_started header body image (shut_first header image shut)
  ]

  each_final : (now : List ℕ) (before images : List ℕ → Type 0) (result : Result (Unit {0}) DiskFault) → Only third before →
      OnErr result (IsTornFrom 0 1 before images) → OnOk result (now ≡ overwritten third 0 (165 ∷ [])) → OnOk result (Only now images) →
      Each (Opening header body) images
  each_final now before images (Ok u) only torn written durable =
      each_only (Opening header body) now images durable (laid_opening header body now (fresh_laid now written))
  each_final now before images (Err e) only torn written durable =
      each_torn (λ image. image ≡ third) (Opening header body) 0 1 before images
      (λ i j is t. opening_image j (subst (λ (b : List ℕ). Torn 0 1 b j) is t)) torn (record { each = only.is })

  final_laid : (now : List ℕ) (result : Result (Unit {0}) DiskFault) → OnOk result (now ≡ overwritten third 0 (165 ∷ [])) →
      OnOk result (IsLaidOut header now (state_in Two body [] 0) (fresh_layout (length body)))
  final_laid now (Ok u) written = fresh_laid now written
  final_laid now (Err e) written = tt

-- ---- the bytes after all writes

-- byte 0 alone
front_one : (bytes : List ℕ) → is_closed bytes ≡ true → length (take 1 bytes) ≡ 1
front_one [] closed = absurd (grind (arith, nat_tests))
front_one (b ∷ bytes) closed = refl

-- the four writes, one over the other
ends_over : (header body old first second third now : List ℕ) → length header ≡ 8 → is_closed first ≡ true →
    drop 1 first ≡ drop 1 old → second ≡ overwritten first 1 (fresh header body 0) → third ≡ overwritten second 9 (165 ∷ []) →
    now ≡ overwritten third 0 (165 ∷ []) → now ≡ started_over header body old
ends_over header body old first second third now eight closed rest second_is third_is now_is =
    let size = length (fresh header body 0) in
    let tail = after_gate body 0 ++ drop (1 + size) old in
    let front = take 1 first ++ header in
    let one = front_one first closed in
    let nine : length front ≡ 9 = omega (arith, length-append (take 1 first) header, one, eight) in
    let same : drop (1 + size) first ≡ drop (1 + size) old = sym (drop-drop size 1 first) ∙ ap (drop size) rest ∙ drop-drop size 1 old in
    let second_as : second ≡ front ++ (0 ∷ tail) = second_is
    ∙ ap (λ (l : List ℕ). take 1 first ++ (fresh header body 0 ++ l)) same
    ∙ ap (λ (l : List ℕ). take 1 first ++ l) (append_assoc header (0 ∷ after_gate body 0) (drop (1 + size) old))
    ∙ sym (append_assoc (take 1 first) header (0 ∷ tail)) in
    let left : take 9 second ≡ front = ap (take 9) second_as ∙ take_at front (0 ∷ tail) 9 nine in
    let right : drop 10 second ≡ tail = sym (drop-drop 1 9 second)
    ∙ ap (drop 1) (ap (drop 9) second_as ∙ drop_at front (0 ∷ tail) 9 nine) in
    let third_as : third ≡ take 1 first ++ (header ++ (165 ∷ tail)) = third_is
    ∙ ap (λ (l : List ℕ). l ++ (165 ∷ drop 10 second)) left
    ∙ ap (λ (l : List ℕ). front ++ (165 ∷ l)) right
    ∙ append_assoc (take 1 first) header (165 ∷ tail) in
    now_is ∙ ap (λ (l : List ℕ). 165 ∷ l) (ap (drop 1) third_as ∙ drop_at (take 1 first) (header ++ (165 ∷ tail)) 1 one)

pub returns-clause-bytes : goal.returns-clause-bytes
returns-clause-bytes g c =
    let reads = g.D.Disk.medium.reads in
    let first = c.in_ok-close_first.ensures in
    let spelled = c.deref.ensures.value ∙ c.in_ok-spell_fresh.ensures in
    on_ok_weaker c.keep-3.result
    (ends_over c.args.header.now c.args.body.now (reads c.args.disk.now) (reads c.close_first.new.disk) (reads c.keep.new.disk)
    (reads c.keep-2.new.disk) (reads c.keep-3.new.disk) c.told-header first.closed first.rest
    (c.in_ok-keep.ensures.written ∙ ap (overwritten (reads c.close_first.new.disk) 1) spelled) c.in_ok-keep-2.ensures.written)
    c.keep-3.ensures.written

pub returns-in_err-close_first-clause-images : goal.returns-in_err-close_first-clause-images
returns-in_err-close_first-clause-images g c =
    each_so _ (Opening c.args.header.now c.args.body.now) _ (λ image is. not_started c.args.header.now c.args.body.now image is)
    c.in_err-close_first.ensures.images

pub returns-in_err-keep-clause-images : goal.returns-in_err-keep-clause-images
returns-in_err-keep-clause-images g c =
    let first = c.in_ok-close_first.ensures in
    each_closed c.args.header.now c.args.body.now _ _ _ _ _ first.closed (omega arith) first.durable c.in_err-keep.ensures.images

pub returns-in_err-keep-2-clause-images : goal.returns-in_err-keep-2-clause-images
returns-in_err-keep-2-clause-images g c =
    let first = c.in_ok-close_first.ensures in
    let second = c.in_ok-keep.ensures in
    let closed =
    still_closed 1 (g.D.Disk.medium.reads c.close_first.new.disk) (g.D.Disk.medium.reads c.keep.new.disk) c.deref.result.now first.closed
    (omega arith)
    (closed_more (g.D.Disk.medium.reads c.close_first.new.disk) first.closed) second.written in
    each_closed c.args.header.now c.args.body.now _ _ _ _ _ closed (omega arith) second.durable c.in_err-keep-2.ensures.images

pub returns-clause-laid_out : goal.returns-clause-laid_out
returns-clause-laid_out g c =
    let first = c.in_ok-close_first.ensures in
    let second = c.in_ok-keep.ensures in
    let third = c.in_ok-keep-2.ensures in
    final_laid c.args.header.now c.args.body.now _ _ _ _ c.told-header first.closed first.limit
    (c.deref.ensures.value ∙ c.in_ok-spell_fresh.ensures)
    second.written second.limit third.written _ c.keep-3.result c.keep-3.ensures.written

pub returns-clause-images : goal.returns-clause-images
returns-clause-images g c =
    let first = c.in_ok-close_first.ensures in
    let second = c.in_ok-keep.ensures in
    let third = c.in_ok-keep-2.ensures in
    each_final c.args.header.now c.args.body.now _ _ _ _ c.told-header first.closed first.limit
    (c.deref.ensures.value ∙ c.in_ok-spell_fresh.ensures)
    second.written second.limit third.written _ _ _ c.keep-3.result third.durable c.keep-3.ensures.images c.keep-3.ensures.written
    c.keep-3.ensures.durable

pub returns-in_err-spell_fresh-clause-images : goal.returns-in_err-spell_fresh-clause-images
returns-in_err-spell_fresh-clause-images g c =
    each_only (Opening c.args.header.now c.args.body.now) _ _ c.requires.only
    (not_started c.args.header.now c.args.body.now _ c.requires.not_started)
