use Rattle.std.proofs.Common.{◌≡◌, ◌<◌, ◌⊎◌, inl, inr, ℕ, zero, suc, Result, Ok, Err, List, [], ◌∷◌, length, get_or, drop, false, refl}
use Rattle.std.proofs.Common.{sym, ◌∙◌, ap, subst, arith}
use Rattle.std.specs.Prelude.{OnOk, OnErr}
use Rattle.std.proofs.lemmas.Bool.{cases_eq}
use Rattle.std.proofs.lemmas.Bool.Decides.{nat_tests}
use Rattle.std.proofs.lemmas.List.{ext_get_or}
use Rattle.iot_disk.specs.Disk.{overwritten, Torn, IsTornFrom, Only}
use Rattle.iot_disk.specs.declared.disk.DiskFault.{DiskFault}
use Rattle.iot_records.specs.Bytes.{is_closed}
use Rattle.iot_records.specs.Images.{Each}
use Rattle.iot_records.proofs.ImagesLaws.{each_only, each_torn}
use Rattle.iot_slots.specs.Decoding.{NotStarted, decoded}
use Rattle.iot_slots.proofs.DecodingLaws.{shut_first, short_first}
use Rattle.iot_slots.proofs.start.close_first.Goals as goal

open_or_empty : (bytes : List ℕ) → is_closed bytes ≡ false → (length bytes ≡ 0) ⊎ (get_or bytes 0 0 ≡ 165)
open_or_empty [] not = inl refl
open_or_empty (b ∷ bytes) not = elim (cases_eq b 165) [ inl is ↦ inr is | inr other ↦ absurd (grind (arith, nat_tests)) ]

not_empty : (bytes : List ℕ) → get_or bytes 0 0 ≡ 165 → 0 < length bytes
not_empty [] is = absurd (omega (arith, is))
not_empty (b ∷ bytes) is = omega arith

-- an image whose first gate is open has the bytes that were there, or too few
closing_torn : (header old image : List ℕ) → decoded header old ≡ NotStarted → is_closed old ≡ false → Torn 0 1 old image →
    decoded header image ≡ NotStarted
closing_torn header old image not_started open_gate torn = elim (cases_eq (get_or image 0 0) 165) [
  | inr shut ↦ shut_first header image shut
  | inl is ↦ elim (open_or_empty old open_gate) [
    | inl empty ↦ short_first header image (omega (arith, torn.no_longer, empty))
    | inr was ↦
        let size : length image ≡ length old = omega (arith, not_empty old was, torn.no_shorter, torn.no_longer) in
        ap (decoded header) (ext_get_or 0 image old size (λ k below. same k (omega (arith, size)) is was)) ∙ not_started
  ]
]
  where
    same : (k : ℕ) → k < length old → get_or image 0 0 ≡ 165 → get_or old 0 0 ≡ 165 → get_or image k 0 ≡ get_or old k 0
    same zero below is was = is ∙ sym was
    same (suc k) below is was = torn.outside (suc k) below (inr (omega arith))

each_closing : (header old new : List ℕ) (before now : List ℕ → Type 0) (result : Result (Unit {0}) DiskFault) →
    decoded header old ≡ NotStarted → is_closed old ≡ false → Only old before → OnErr result (IsTornFrom 0 1 before now) →
    OnOk result (new ≡ overwritten old 0 (0 ∷ [])) → OnOk result (Only new now) → Each (λ image. decoded header image ≡ NotStarted) now
each_closing header old new before now (Ok u) not_started open_gate only torn written durable =
    each_only (λ image. decoded header image ≡ NotStarted) new now durable
    (ap (decoded header) written ∙ shut_first header (0 ∷ drop 1 old) (omega arith))
each_closing header old new before now (Err e) not_started open_gate only torn written durable =
    each_torn (λ image. image ≡ old) (λ image. decoded header image ≡ NotStarted) 0 1 before now
    (λ i j is t. closing_torn header old j not_started open_gate (subst (λ (b : List ℕ). Torn 0 1 b j) is t)) torn
    (record { each = only.is })

pub returns-then-has_closed_gate-clause-images : goal.returns-then-has_closed_gate-clause-images
returns-then-has_closed_gate-clause-images g c =
    each_only (λ image. decoded c.args.header.now image ≡ NotStarted) _ _ c.requires.only c.requires.not_started

pub returns-clause-images : goal.returns-clause-images
returns-clause-images g c =
    each_closing c.args.header.now (g.D.Disk.medium.reads c.args.disk.now) (g.D.Disk.medium.reads c.keep.new.disk)
    (g.D.Disk.medium.may_leave c.args.disk.now)
    (g.D.Disk.medium.may_leave c.keep.new.disk) c.keep.result c.requires.not_started
    (ap is_closed (sym c.requires.bytes) ∙ sym c.if-has_closed_gate.ensures) c.requires.only c.keep.ensures.images
    c.keep.ensures.written
    c.keep.ensures.durable
