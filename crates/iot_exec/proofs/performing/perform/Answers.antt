use Rattle.std.proofs.Common.{IfOk, List, sym, subst}
use Rattle.iot_lang.specs.Code.{Code}
use Rattle.iot_lang.specs.declared.blocks.Stmt.{Stmt}
use Rattle.iot_exec.specs.Commands.{kept_files}
use Rattle.iot_exec.specs.Places.{Frame}
use Rattle.iot_exec.specs.Going.{IsDone}
use Rattle.iot_exec.specs.declared.performing.Done.{Done}
use Rattle.iot_exec.proofs.performing.perform.Goals as goal

pub returns-in-Do-clause-done : goal.returns-in-Do-clause-done
returns-in-Do-clause-done c =
    subst
    (λ (statement : Stmt). IfOk c.do_command.result
    (λ (done : Done). (rest : Code) (frames : List Frame)
    → IsDone (kept_files c.args.kept.now) c.args.tree.now statement rest frames c.args.env.now done))
    (sym c.in-Do.is) c.do_command.ensures
