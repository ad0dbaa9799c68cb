use Rattle.std.proofs.Common.{◌+◌, ◌≤◌, length}
use Rattle.iot_event.proofs.ClosingLaws.{Searched}
use Rattle.iot_event.proofs.closing.find_closing.Given as goal

abbrev pub invariant-loop-line : goal.invariant-loop-line
invariant-loop-line l = record {
  searched : Searched l.text l.rest l.blocks l.count;
  few : l.count + length l.rest ≤ length l.text;
  open_ : l.blocks ≤ l.count;
}

abbrev pub decreases-loop-line : goal.decreases-loop-line
decreases-loop-line l = length l.rest
