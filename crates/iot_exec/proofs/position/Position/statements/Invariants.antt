use Rattle.std.proofs.Common.{◌≡◌, drop}
use Rattle.iot_lang.specs.Code.{End}
use Rattle.iot_lang.specs.Blocks.{code_of_statements}
use Rattle.iot_exec.specs.Positions.{left_in}
use Rattle.iot_exec.proofs.position.Position.statements.Given as goal

abbrev pub invariant-outer : goal.invariant-outer
invariant-outer l =
    left_in l.script (drop l.open-index l.self.outer.items) (code_of_statements l.statements) ≡ left_in l.script l.self.outer.items End
