use Rattle.std.proofs.Common.{◌+◌, ◌≤◌, length}
use Rattle.iot_event.proofs.ClosingLaws.{Sought}
use Rattle.iot_event.proofs.closing.find_first_closing.Given as goal

abbrev pub invariant-loop-line : goal.invariant-loop-line
invariant-loop-line l = record {
  sought : Sought l.text l.rest l.count;
  few : l.count + length l.rest ≤ length l.text;
}

abbrev pub decreases-loop-line : goal.decreases-loop-line
decreases-loop-line l = length l.rest
