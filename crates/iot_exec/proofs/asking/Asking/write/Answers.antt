use Rattle.iot_exec.specs.Commands.{makes, target}
use Rattle.iot_tree.specs.declared.updates.Update.TheVariants.{Put}
use Rattle.iot_exec.proofs.AskingLaws.{stopped}
use Rattle.iot_exec.proofs.asking.Asking.write.Goals as goal

pub returns-in_err-target : goal.returns-in_err-target
returns-in_err-target c =
    stopped _ _ (target c.args.path) _ (makes (Put c.args.path c.args.bytes)) c.in_err-target.ensures _ c.from_residual.ensures.1
