use Rattle.std.proofs.Common.{◌≡◌, ◌≤◌, length, take, drop}
use Rattle.iot_lines.specs.Lines.{lines}
use Rattle.iot_lang.specs.Nesting.{HasTaken}
use Rattle.iot_lang.proofs.parsing.parse_lines.Given as goal

-- the lines so far have been taken, and the iterator has the other ones
abbrev pub invariant-lines : goal.invariant-lines
invariant-lines l = record {
  taken : HasTaken l.nesting (take l.at (lines l.text));
  left : drop l.at (lines l.text) ≡ l.line-iterator;
  within : l.at ≤ length (lines l.text);
}
