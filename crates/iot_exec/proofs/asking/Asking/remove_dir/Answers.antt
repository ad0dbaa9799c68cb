use Rattle.std.proofs.Common.{sym, ◌∙◌, subst}
use Rattle.iot_tree.specs.declared.updates.Update.TheVariants.{Remove}
use Rattle.iot_exec.specs.Plans.{Plan}
use Rattle.iot_exec.specs.Commands.{Ending, makes, empty_dir}
use Rattle.iot_exec.specs.Asking.{Leads, Ends}
use Rattle.iot_exec.proofs.AskingLaws.{stopped}
use Rattle.iot_exec.proofs.CommandLaws.{below_root}
use Rattle.iot_exec.proofs.asking.Asking.remove_dir.Goals as goal

pub returns-in_err-empty_directory : goal.returns-in_err-empty_directory
returns-in_err-empty_directory c =
    subst (λ (plan : Plan Ending). Ends c.args.self.now plan c.empty_directory.new.self c.from_residual.result)
    (below_root c.args.path (rw (c.names.ensures.value) at (sym c.is_empty.ensures ∙ c.if-is_empty.false)))
    (stopped _ _ (empty_dir c.args.path) _ (makes (Remove c.args.path)) c.in_err-empty_directory.ensures _ c.from_residual.ensures.1)

pub returns : goal.returns
returns c =
    subst (λ (plan : Plan Ending). Leads c.args.self.now plan c.empty_directory.new.self (makes (Remove c.args.path)))
    (below_root c.args.path (rw (c.names.ensures.value) at (sym c.is_empty.ensures ∙ c.if-is_empty.false)))
    (c.in_ok-empty_directory.ensures (makes (Remove c.args.path)))
