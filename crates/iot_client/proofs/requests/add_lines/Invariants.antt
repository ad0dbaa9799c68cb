use Rattle.std.proofs.Common.{◌≡◌, ◌++◌, drop}
use Rattle.iot_client.proofs.requests.add_lines.Given as goal

abbrev pub invariant-lines : goal.invariant-lines
invariant-lines l = l.out ++ drop l.line-index l.lines ≡ l.fn.out ++ l.lines
