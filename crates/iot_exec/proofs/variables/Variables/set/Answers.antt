use Rattle.std.proofs.Common.{ap, ◌∙◌}
use Rattle.std.specs.FinMap.{insert, from_entries}
use Rattle.iot_exec.proofs.VariableLaws.{insert_is_insert}
use Rattle.iot_exec.proofs.variables.Variables.set.Goals as goal

pub returns : goal.returns
returns c =
    ap from_entries c.in_ok-insert.ensures.entries ∙ insert_is_insert c.args.name c.args.value c.self.inside.values.entries
    ∙ ap (λ m. insert m c.args.name c.args.value) c.self.view_is
