use Rattle.std.proofs.Common.{◌≡◌, ◌<◌, ℕ, false, List, [], ◌∷◌, length, get_or, Result, Ok, Err, sym, ap, ◌∙◌, arith}
use Rattle.std.specs.Prelude.{OnOk, OnErr}
use Rattle.std.proofs.lemmas.Bool.Decides.{nat_tests}
use Rattle.iot_disk.specs.Disk.{overwritten, IsTornFrom, Only}
use Rattle.iot_disk.specs.declared.disk.DiskFault.{DiskFault}
use Rattle.iot_journal.specs.Decoding.{Encodes, is_closed, is_started}
use Rattle.iot_journal.specs.Images.{EachDecodes}
use Rattle.iot_journal.proofs.DecodingLaws.{closed_shut, short_encodes, shut_encodes}
use Rattle.iot_journal.proofs.ImagesLaws.{each_only}
use Rattle.iot_journal.proofs.start.close_first.Goals as goal

-- a disk with no closed first gate, on which no journal was started, is short
open_is_short : (bytes : List ℕ) → is_started bytes ≡ false → is_closed bytes ≡ false → length bytes < 10
open_is_short bytes not_begun not_closed = grind (arith, nat_tests)

-- closing the first gate of a short disk
each_closing : (old new : List ℕ) (before now : List ℕ → Type 0) (result : Result (Unit {0}) DiskFault) → length old < 10 →
    Only old before → OnErr result (IsTornFrom 0 1 before now) → OnOk result (new ≡ overwritten old 0 (0 ∷ [])) →
    OnOk result (Only new now) → EachDecodes now (Encodes [])
each_closing old new before now (Ok u) short only torn written durable =
    let byte : get_or new 0 0 ≡ 0 = ap (λ (l : List ℕ). get_or l 0 0) written in
    each_only new now (Encodes []) durable (shut_encodes new (λ is. absurd (omega (arith, byte, is))))
each_closing old new before now (Err e) short only torn written durable = record {
  each = λ image left.
      let from = torn.from image left in
      short_encodes image (omega (arith, from.2.no_longer, ap length (only.is from.0 from.1)));
}

pub returns-then-has_closed_gate-clause-images : goal.returns-then-has_closed_gate-clause-images
returns-then-has_closed_gate-clause-images g c =
    let old = g.D.Disk.medium.reads c.args.disk.now in
    let closed = ap is_closed (sym c.requires.bytes) ∙ sym c.if-has_closed_gate.ensures in
    each_only old _ (Encodes []) c.requires.only (shut_encodes old (closed_shut old closed))

pub returns-clause-images : goal.returns-clause-images
returns-clause-images g c =
    let old = g.D.Disk.medium.reads c.args.disk.now in
    let still_open = ap is_closed (sym c.requires.bytes) ∙ sym c.if-has_closed_gate.ensures in
    let short = open_is_short old c.requires.not_started still_open in
    let done = c.keep.ensures in
    let before = g.D.Disk.medium.may_leave c.args.disk.now in
    let now = g.D.Disk.medium.may_leave c.keep.new.disk in
    each_closing old _ before now c.keep.result short c.requires.only done.images done.written done.durable
