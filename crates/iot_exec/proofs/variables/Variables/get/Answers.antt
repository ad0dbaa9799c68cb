use Rattle.std.proofs.Common.{ap, ◌∙◌}
use Rattle.std.specs.FinMap.{get}
use Rattle.iot_exec.proofs.VariableLaws.{lookup_is_get}
use Rattle.iot_exec.proofs.variables.Variables.get.Goals as goal

pub returns : goal.returns
returns c =
    c.get.ensures.value ∙ lookup_is_get c.args.name.now c.self.inside.values.entries ∙ ap (λ m. get m c.args.name.now) c.self.view_is
