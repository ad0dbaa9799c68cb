use Rattle.std.proofs.Common.{◌≡◌, ◌≢◌, ◌<◌, inl, inr, ℕ, List, [], ◌∷◌, ◌++◌, length, get_or, drop, Result, Ok, Err, sym, ◌∙◌, ap}
use Rattle.std.proofs.Common.{subst}
use Rattle.std.proofs.Common.{arith}
use Rattle.std.specs.Prelude.{OnOk, OnErr}
use Rattle.std.proofs.lemmas.Bool.{cases_eq}
use Rattle.std.proofs.lemmas.List.{drop_more, drop-drop}
use Rattle.iot_disk.specs.Disk.{overwritten, Torn, IsTornFrom, Only}
use Rattle.iot_disk.specs.declared.disk.DiskFault.{DiskFault}
use Rattle.iot_disk.proofs.DiskLaws.{torn_byte, written_after, written_byte}
use Rattle.iot_journal.specs.Decoding.{Encodes, decoded, header}
use Rattle.iot_journal.specs.Images.{EachDecodes}
use Rattle.iot_journal.proofs.DecodingLaws.{closed_more, closed_shut, encodes_shut, shut_encodes}
use Rattle.iot_journal.proofs.ImagesLaws.{each_only}
use Rattle.iot_journal.proofs.start.put_header.Goals as goal

-- writing the header after a closed gate
each_header : (end : ℕ) (old : List ℕ) (before now : List ℕ → Type 0) → 0 < length old → get_or old 0 0 ≢ 165 →
    Only old before → IsTornFrom 1 end before now → EachDecodes now (Encodes [])
each_header end old before now more shut only torn = record {
  each = λ image left.
      let from = torn.from image left in
      let is = only.is from.0 from.1 in
      let outside = from.2.outside 0 (omega (arith, ap length is)) (inl (omega arith)) in
      let same : get_or image 0 0 ≡ get_or old 0 0 = outside ∙ ap (λ (l : List ℕ). get_or l 0 0) is in
      shut_encodes image (λ h. shut (sym same ∙ h));
}

-- opening the gate before the header
module _ (old mid new opening : List ℕ) (before now : List ℕ → Type 0) (more : 0 < length old)
    (opening_is : opening ≡ header ++ 0 ∷ []) (written : mid ≡ overwritten old 1 opening) where
  abbrev rest : List ℕ
  rest = header ++ 0 ∷ drop 10 old

  mid_is : mid ≡ get_or old 0 0 ∷ rest
  mid_is =
      written
      ∙ ap (λ (l : List ℕ). overwritten old 1 l) opening_is
      ∙ ap (λ (l : List ℕ). overwritten l 1 (header ++ 0 ∷ [])) (drop_more old 0 0 more)
      ∙ written_after [] (drop 1 old) (get_or old 0 0) (header ++ 0 ∷ [])
      ∙ ap (λ (l : List ℕ). get_or old 0 0 ∷ (header ++ 0 ∷ l)) (drop-drop 9 1 old)

  opened_encodes : decoded (165 ∷ rest) ≡ Encodes []
  opened_encodes = encodes_shut [] 0 (drop 10 old) (omega arith) (omega arith)

  each_opening : (result : Result (Unit {0}) DiskFault) → Only mid before → OnErr result (IsTornFrom 0 1 before now) →
      OnOk result (new ≡ overwritten mid 0 (165 ∷ [])) → OnOk result (Only new now) → EachDecodes now (Encodes [])
  each_opening (Ok u) only torn opened durable =
      let is = opened ∙ ap (λ (l : List ℕ). overwritten l 0 (165 ∷ [])) mid_is ∙ written_byte [] rest (get_or old 0 0) 165 in
      each_only new now (Encodes []) durable (ap decoded is ∙ opened_encodes)
  each_opening (Err e) only torn opened durable = record {
    each = λ image left.
        let from = torn.from image left in
        let one = subst (λ (b : List ℕ). Torn 0 1 b image) (only.is from.0 from.1 ∙ mid_is) from.2 in
        let byte = torn_byte [] rest (get_or old 0 0) image one in
        ap decoded byte.1 ∙ (elim (cases_eq byte.0 165) [
          | inl is_open ↦ ap (λ (g : ℕ). decoded (g ∷ rest)) is_open ∙ opened_encodes
          | inr shut ↦ shut_encodes (byte.0 ∷ rest) shut
        ]);
  }

pub returns-in_err-keep-clause-images : goal.returns-in_err-keep-clause-images
returns-in_err-keep-clause-images g c =
    let old = g.D.Disk.medium.reads c.args.disk.now in
    let closed = c.requires.closed in
    each_header _ old _ _ (closed_more old closed) (closed_shut old closed) c.requires.only c.in_err-keep.ensures.images

pub returns-clause-images : goal.returns-clause-images
returns-clause-images g c =
    let old = g.D.Disk.medium.reads c.args.disk.now in
    let mid = g.D.Disk.medium.reads c.keep.new.disk in
    let new = g.D.Disk.medium.reads c.keep-2.new.disk in
    let before = g.D.Disk.medium.may_leave c.keep.new.disk in
    let now = g.D.Disk.medium.may_leave c.keep-2.new.disk in
    let first = c.in_ok-keep.ensures in
    let then = c.keep-2.ensures in
    let opening = c.copy_from_slice.new.self ++ 0 ∷ [] in
    let opening_is = ap (λ (l : List ℕ). l ++ 0 ∷ []) c.copy_from_slice.ensures.after in
    let more = closed_more old c.requires.closed in
    each_opening old mid new opening before now more opening_is first.written c.keep-2.result
    first.durable then.images then.written then.durable
