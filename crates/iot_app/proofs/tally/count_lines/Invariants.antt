use Rattle.std.proofs.Common.{◌≡◌, ◌+◌, ◌≤◌, length, nat_eq, count_by}
use Rattle.std.specs.List.{starts_with}
use Rattle.iot_app.specs.Summary.{count_lines}
use Rattle.iot_app.proofs.tally.count_lines.Given as goal

-- the lines so far have been counted, and the iterator has the other ones
abbrev pub invariant-lines : goal.invariant-lines
invariant-lines l = record {
  counted : l.count + count_by (λ line. starts_with nat_eq line l.front) l.line-iterator ≡ count_lines l.front l.text;
  few : l.count + length l.line-iterator ≤ length l.text;
}
