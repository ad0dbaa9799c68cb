use Rattle.iot_exec.specs.Commands.{kept_files}
use Rattle.iot_exec.proofs.GoingLaws.{command_comes}
use Rattle.iot_exec.proofs.performing.do_command.Goals as goal

pub returns : goal.returns
returns c =
    command_comes c.new-asking.result _ (kept_files c.args.kept.now) c.args.env.now c.args.command.now _ c.command-end.result
    c.args.tree.now c.command-end.ensures c.new-asking.ensures.none c.new-asking.ensures.tree c.name_of.ensures c.finish.result
    c.finish.ensures
