use Rattle.std.proofs.Common.{◌≡◌, List, [], ◌∷◌, ℕ, false, length, ◌∙◌, refl, sym, ap, subst, arith}
use Rattle.std.proofs.lemmas.Result.{IfOk-weaker}
use Rattle.iot_journal.specs.Decoding.{Decoded, Encodes, decoded, is_started, started}
use Rattle.iot_journal.specs.Images.{EachDecodes, IsLaidOut}
use Rattle.iot_journal.proofs.DecodingLaws.{not_started}
use Rattle.iot_journal.proofs.ImagesLaws.{layout_encodes}
use Rattle.iot_journal.proofs.start.open.Goals as goal

pub returns-then-has_start-clause-bodies : goal.returns-then-has_start-clause-bodies
returns-then-has_start-clause-bodies g c =
    let bytes = c.deref-then-has_start.result.now in
    let same : bytes ≡ g.D.Disk.medium.reads c.args.disk.now = c.deref-then-has_start.ensures.value ∙ c.in_ok-bytes.ensures.bytes in
    IfOk-weaker c.read.result _ _ (λ found h.
    ap decoded (sym same)
    ∙ layout_encodes bytes found.bodies found.gate h (omega (arith, ap length same, c.in_ok-bytes.ensures.limit))) c.read.ensures.ok

pub returns-in_err-begin-clause-images : goal.returns-in_err-begin-clause-images
returns-in_err-begin-clause-images g c =
    let old = g.D.Disk.medium.reads c.args.disk.now in
    let same = c.deref.ensures.value ∙ c.in_ok-bytes.ensures.bytes in
    let not : is_started old ≡ false = ap is_started (sym same) ∙ sym c.if-has_start.ensures in
    subst (λ (r : Decoded). EachDecodes (g.D.Disk.medium.may_leave c.begin.new.disk) r) (sym (not_started old not)) c.begin.ensures.images

pub returns-clause-bodies : goal.returns-clause-bodies
returns-clause-bodies g c =
    let old = g.D.Disk.medium.reads c.args.disk.now in
    let same = c.deref.ensures.value ∙ c.in_ok-bytes.ensures.bytes in
    let not : is_started old ≡ false = ap is_started (sym same) ∙ sym c.if-has_start.ensures in
    not_started old not ∙ ap Encodes (sym c.new.ensures)

-- a journal with no records is laid out
empty_layout : (bytes rest : List ℕ) → bytes ≡ started (0 ∷ rest) → IsLaidOut bytes [] 9
empty_layout bytes rest is = record { byte = 0; rest = rest; is = is; shut = omega arith; place = refl }

pub returns-clause-layout : goal.returns-clause-layout
returns-clause-layout g c =
    let bytes = g.D.Disk.medium.reads c.begin.new.disk in
    subst (λ (bs : List (List ℕ)). IsLaidOut bytes bs 9) (sym c.new.ensures) (empty_layout _ _ c.in_ok-begin.ensures.bytes)

pub returns-clause-images : goal.returns-clause-images
returns-clause-images g c =
    let old = g.D.Disk.medium.reads c.args.disk.now in
    let same = c.deref.ensures.value ∙ c.in_ok-bytes.ensures.bytes in
    let not : is_started old ≡ false = ap is_started (sym same) ∙ sym c.if-has_start.ensures in
    subst (λ (r : Decoded). EachDecodes (g.D.Disk.medium.may_leave c.begin.new.disk) r) (sym (not_started old not)) c.begin.ensures.images
