use Rattle.std.proofs.Common.{◌≡◌, ◌<◌, ℕ, ◌-◌, true, false, List, ◌∷◌, length, get_or, take, drop, refl, ◌∙◌, sym, ap}
use Rattle.std.proofs.Common.{arith}
use Rattle.std.specs.Prelude.{nat_eq}
use Rattle.std.specs.List.{starts_with}
use Rattle.std.proofs.lemmas.Bool.Decides.{nat_tests, Decides-eqb}
use Rattle.std.proofs.lemmas.List.{take_rest, drop_more, drop-drop}
use Rattle.std.proofs.lemmas.Result.{IfOk-weaker, IfErr-weaker}
use Rattle.std.proofs.lemmas.Slice.Eq.{starts_is}
use Rattle.iot_disk.specs.declared.faults.StartFault.{StartFault}
use Rattle.iot_disk.specs.declared.faults.StartFault.TheVariants as fault
use Rattle.iot_records.specs.Records.{IsSeries, IsCutReason, series_in}
use Rattle.iot_journal.specs.Decoding.{decoded, header, is_started, started, with_records}
use Rattle.iot_journal.specs.Images.{IsLaidOut}
use Rattle.iot_journal.specs.Start.{IsReason}
use Rattle.iot_journal.proofs.DecodingLaws.{by_header}
use Rattle.iot_journal.proofs.records.read.Goals as goal

module _ (bytes : List ℕ) (begun : is_started bytes ≡ true) (has : starts_with nat_eq (drop 1 bytes) header ≡ true) where
  -- the bytes are those of a started journal
  started_is : bytes ≡ started (drop 9 bytes)
  started_is =
      let more : 0 < length bytes = grind (arith, nat_tests) in
      let first : get_or bytes 0 0 ≡ 165 = grind (arith, nat_tests) in
      let after = (starts_is Decides-eqb (drop 1 bytes) header (starts_with nat_eq (drop 1 bytes) header) refl).0 has in
      drop_more bytes 0 0 more
      ∙ ap (λ (g : ℕ). g ∷ drop 1 bytes) first
      ∙ ap (λ (l : List ℕ). 165 ∷ l) after
      ∙ ap (λ (l : List ℕ). started l) (drop-drop 8 1 bytes)

  -- records that are cut short
  reason : (why : StartFault) (rest : List ℕ) → rest ≡ drop 9 bytes → IsCutReason why (series_in 9 rest) → IsReason why (decoded bytes)
  reason fault.NoMemory rest is cut = tt
  reason fault.Stopped rest is cut = cut
  reason fault.Foreign rest is cut = absurd cut
  reason (fault.Damaged at) rest is cut =
      by_header bytes true begun has ∙ ap (λ (l : List ℕ). with_records (series_in 9 l)) (sym is) ∙ ap with_records cut

  laid_out : (rest : List ℕ) (bodies : List (List ℕ)) (gate : ℕ) → rest ≡ drop 9 bytes → IsSeries rest 9 bodies gate
      → IsLaidOut bytes bodies gate
  laid_out rest bodies gate is series = record {
    byte = series.byte;
    rest = series.rest;
    is = started_is ∙ ap started (sym is ∙ series.is);
    shut = series.shut;
    place = series.place;
  }

pub returns-then-not-starts_with-clause-err : goal.returns-then-not-starts_with-clause-err
returns-then-not-starts_with-clause-err c =
    let same = ap (λ (l : List ℕ). starts_with nat_eq l header) (sym (take_rest c.args.bytes.now 1)) in
    by_header c.args.bytes.now false c.requires.started (same ∙ sym c.starts_with.ensures.value ∙ c.if-not-starts_with.true)

pub returns-clause-ok : goal.returns-clause-ok
returns-clause-ok c =
    let bytes = c.args.bytes.now in
    let same = ap (λ (l : List ℕ). starts_with nat_eq l header) (sym (take_rest bytes 1)) in
    let has = same ∙ sym c.starts_with.ensures.value ∙ c.if-not-starts_with.false in
    IfOk-weaker c.read_records.result _ _ (λ found h.
    laid_out bytes c.requires.started has (take (length bytes - 9) (drop 9 bytes)) found.bodies found.gate (take_rest bytes 9) h)
    c.read_records.ensures.ok

pub returns-clause-err : goal.returns-clause-err
returns-clause-err c =
    let bytes = c.args.bytes.now in
    let same = ap (λ (l : List ℕ). starts_with nat_eq l header) (sym (take_rest bytes 1)) in
    let has = same ∙ sym c.starts_with.ensures.value ∙ c.if-not-starts_with.false in
    IfErr-weaker c.read_records.result _ _ (λ why h.
    reason bytes c.requires.started has why (take (length bytes - 9) (drop 9 bytes)) (take_rest bytes 9) h)
    c.read_records.ensures.err
