use Rattle.std.proofs.Common.{sym, ◌∙◌}
use Rattle.std.specs.Option.{option_copied}
use Rattle.iot_exec.proofs.ExecLaws.{end_is, none_is}
use Rattle.iot_exec.proofs.exec.Exec.at_end.Goals as goal

pub returns : goal.returns
returns c =
    none_is c.statement.result c.is_none.result c.is_none.ensures
    ∙ sym
    (end_is c.block.result.now c.args.self.now.script.value (c.block.ensures.value ∙ c.deref.ensures) c.args.self.now.position
    c.args.self.now.env (option_copied c.statement.result) c.statement.ensures)
