use Rattle.std.proofs.Common.{◌≡◌, ◌++◌, length}
use Rattle.iot_lines.specs.Lines.{lines}
use Rattle.iot_exec.proofs.lines.lines_of.Given as goal

abbrev pub invariant-lines : goal.invariant-lines
invariant-lines l = l.all ++ lines l.rest ≡ lines l.bytes

abbrev pub decreases-lines : goal.decreases-lines
decreases-lines l = length l.rest
