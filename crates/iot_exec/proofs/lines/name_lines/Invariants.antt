use Rattle.std.proofs.Common.{◌≡◌, map, take}
use Rattle.iot_exec.specs.Commands.{name_line}
use Rattle.iot_exec.proofs.lines.name_lines.Given as goal

abbrev pub invariant-names : goal.invariant-names
invariant-names l = l.lines.items ≡ map name_line (take l.name-index l.names)
