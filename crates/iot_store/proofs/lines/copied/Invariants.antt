use Rattle.std.proofs.Common.{◌≡◌, ◌++◌}
use Rattle.iot_store.proofs.lines.copied.Given as goal

-- the lines so far
abbrev pub invariant-loop-line : goal.invariant-loop-line
invariant-loop-line l = l.copy ++ l.line-iterator ≡ l.fn.lines
