use Rattle.std.proofs.Common.{reverse, ◌∙◌}
use Rattle.std.proofs.lemmas.Result.{IfOk-weaker}
use Rattle.iot_fitting.proofs.UndoLaws.{restores}
use Rattle.iot_fitting.proofs.undoing.push_undoing.Goals as goal

pub returns-in-Remove : goal.returns-in-Remove
returns-in-Remove c =
    IfOk-weaker c.push_restoring-in-Remove.result _ _
    (λ ok is. is ∙ restores c.args.tree.now c.args.update.now c.in-Remove.path (reverse c.args.undo.now) c.in-Remove.is)
    c.push_restoring-in-Remove.ensures
