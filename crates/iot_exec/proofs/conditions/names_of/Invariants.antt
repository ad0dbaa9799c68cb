use Rattle.std.proofs.Common.{◌≡◌, map, take}
use Rattle.iot_exec.specs.Commands.{name_of}
use Rattle.iot_exec.proofs.conditions.names_of.Given as goal

abbrev pub invariant-names : goal.invariant-names
invariant-names l = l.names.items ≡ map name_of (take l.name-index l.children)
