use Rattle.std.proofs.Common.{◌≡◌, ◌+◌, ◌≤◌, [], length}
use Rattle.iot_lines.specs.Lines.{lines}
use Rattle.iot_event.specs.Profiles.{wishes_of}
use Rattle.iot_event.proofs.profiles.parse_profile.Given as goal

abbrev pub invariant-loop-line : goal.invariant-loop-line
invariant-loop-line l = record {
  same : wishes_of (lines l.block.inside.now) l.first [] ≡ wishes_of l.line-iterator l.number l.wishes;
  counted : l.number + length l.line-iterator ≡ l.first + length (lines l.block.inside.now);
  few : l.number + length l.line-iterator ≤ l.first + length l.block.inside.now;
}
