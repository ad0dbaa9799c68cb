use Rattle.std.proofs.Common.{◌≡◌, ◌++◌, take}
use Rattle.iot_text.specs.Paths.{names_text}
use Rattle.iot_text.proofs.paths.Path.write_to.Given as goal

abbrev pub invariant-names : goal.invariant-names
invariant-names l = l.out ≡ l.fn.out ++ names_text (take l.name-index l.name-items)
