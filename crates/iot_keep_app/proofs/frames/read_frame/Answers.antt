use Rattle.std.proofs.Common.{List, ℕ, ◌≤◌, ◌∙◌, ap, arith, vec_len}
use Rattle.std.proofs.lemmas.Result.{err_from_is_err_and}
use Rattle.iot_records.specs.Bytes.{number_in}
use Rattle.iot_keep_app.proofs.FramesLaws.{fill_fails, cut_taken, frame_taken}
use Rattle.iot_keep_app.proofs.frames.read_frame.Goals as goal

pub returns-in_err-bytes-clause-frame : goal.returns-in_err-bytes-clause-frame
returns-in_err-bytes-clause-frame g c =
    let source = g.S.Source in
    let p = err_from_is_err_and c.from_residual-in_err-bytes.result c.from_residual-in_err-bytes.ensures.1 in
    rw (p.1, p.2) (fill_fails source.left source.taken c.args.source.now c.fill.new.source c.fill-2.new.source
    c.in_ok-digits.digits.items c.count_in-count.result c.in_ok-digits.ensures.took
    (omega (arith, c.in_ok-digits.ensures.within, c.in_ok-digits.digits.ok.0, c.if-len-lt-DIGITS.false, c.len.ensures))
    (c.count_in-count.ensures.number ∙ ap (λ (l : List ℕ). number_in l) c.deref.ensures.value)
    (omega (arith, c.if-count-gt-FRAME_LIMIT.false)) _ c.in_err-bytes.field-0.0
    c.in_err-bytes.ensures.prefix)

pub returns-then-len-count-clause-frame : goal.returns-then-len-count-clause-frame
returns-then-len-count-clause-frame g c =
    let source = g.S.Source in (
      cut_taken source.left source.taken c.args.source.now c.fill.new.source c.fill-2.new.source
          c.in_ok-digits.digits.items c.count_in-count.result c.in_ok-digits.ensures.took
          (omega (arith, c.in_ok-digits.ensures.within, c.in_ok-digits.digits.ok.0, c.if-len-lt-DIGITS.false, c.len.ensures))
          (c.count_in-count.ensures.number ∙ ap (λ (l : List ℕ). number_in l) c.deref.ensures.value)
          (omega (arith, c.if-count-gt-FRAME_LIMIT.false))
          c.in_ok-bytes.bytes.items c.in_ok-bytes.ensures.took (omega arith),
      c.in_ok-bytes.ensures.end (omega arith),
    )

pub returns-clause-frame : goal.returns-clause-frame
returns-clause-frame g c =
    let source = g.S.Source in
    let within : vec_len c.in_ok-bytes.bytes ≤ c.count_in-count.result = c.in_ok-bytes.ensures.within in
    frame_taken source.left source.taken c.args.source.now c.fill.new.source c.fill-2.new.source
    c.in_ok-digits.digits.items c.count_in-count.result c.in_ok-digits.ensures.took
    (omega (arith, c.in_ok-digits.ensures.within, c.in_ok-digits.digits.ok.0, c.if-len-lt-DIGITS.false, c.len.ensures))
    (c.count_in-count.ensures.number ∙ ap (λ (l : List ℕ). number_in l) c.deref.ensures.value)
    (omega (arith, c.if-count-gt-FRAME_LIMIT.false))
    c.in_ok-bytes.bytes.items c.in_ok-bytes.ensures.took
    (omega (arith, within, c.in_ok-bytes.bytes.ok.0, c.if-len-count.false, c.len-2.ensures))
    (c.count_in-count.ensures.spelled ∙ c.deref.ensures.value)
