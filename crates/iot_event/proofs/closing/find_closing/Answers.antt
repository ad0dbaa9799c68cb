use Rattle.std.proofs.Common.{sym, arith}
use Rattle.iot_event.proofs.ClosingLaws.{nothing_searched, search_line}
use Rattle.iot_event.proofs.closing.find_closing.Goals as goal

pub loop-line-init : goal.loop-line-init
loop-line-init c = record { searched = nothing_searched c.args.text.now; few = omega arith; open_ = omega arith }

pub loop-line-preserved : goal.loop-line-preserved
loop-line-preserved c = record {
  searched =
      search_line c.args.text.now c.loop-line.rest.now c.in-Some.line.now c.in-Some.later.now _ c.loop-line.count
      c.in-Some-blocks_after.open
      c.loop-line.invariant.searched c.in-Some.ensures.first c.in-Some.ensures.joined (sym c.in-Some-blocks_after.ensures.after);
  few = omega (arith, c.loop-line.invariant.few, c.in-Some.ensures.shorter);
  open_ = omega (arith, c.loop-line.invariant.open_, c.in-Some-blocks_after.ensures.few);
}
