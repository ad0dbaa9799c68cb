use Rattle.std.proofs.Common.{◌≡◌, false, sym, ◌∙◌, arith}
use Rattle.iot_lines.specs.Words.{words}
use Rattle.iot_event.specs.Closing.{is_closing}
use Rattle.iot_event.proofs.ClosingLaws.{nothing_sought, seek_line}
use Rattle.iot_event.proofs.closing.find_first_closing.Goals as goal

pub loop-line-init : goal.loop-line-init
loop-line-init c = record { sought = nothing_sought c.args.text.now; few = omega arith }

pub loop-line-preserved : goal.loop-line-preserved
loop-line-preserved c =
    let open_ : is_closing (words c.in-Some.line.now) ≡ false = sym c.is_closing.ensures ∙ c.if-is_closing.false in
    record {
      sought =
          seek_line c.args.text.now c.loop-line.rest.now c.in-Some.line.now c.in-Some.later.now c.loop-line.count
          c.loop-line.invariant.sought c.in-Some.ensures.first c.in-Some.ensures.joined open_;
      few = omega (arith, c.loop-line.invariant.few, c.in-Some.ensures.shorter);
    }
