use Rattle.std.proofs.Common.{◌+◌, ◌≤◌, length}
use Rattle.iot_lines.specs.Lines.{lines}
use Rattle.iot_event.specs.Results.{scope_of}
use Rattle.iot_event.proofs.EventsLaws.{GoesOn}
use Rattle.iot_event.proofs.parsing.parse.Given as goal

-- what the rest gives, after the events so far, is what the input gives
abbrev pub invariant-loop-line : goal.invariant-loop-line
invariant-loop-line l = record {
  goes_on : GoesOn l.input l.events.items (lines l.rest) (scope_of l.declared) l.number;
  few : l.number + length l.rest ≤ length l.input + 1;
}

abbrev pub decreases-loop-line : goal.decreases-loop-line
decreases-loop-line l = length l.rest
