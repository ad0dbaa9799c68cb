use Rattle.{std.proofs.Common.take, iot_exchange.proofs.Common.line_of, iot_exchange.proofs.Common.map, iot_exchange.proofs.Common.◌≡◌}
use Rattle.iot_exchange.proofs.tasks.lines_of.Given as goal

-- a line for each so far
abbrev pub invariant-running : goal.invariant-running
invariant-running l = l.lines.items ≡ map line_of (take l.it-index l.running)
