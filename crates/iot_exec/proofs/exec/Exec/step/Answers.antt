use Rattle.std.proofs.Common.{◌+◌, ◌++◌, ◌∷◌, [], sym, subst}
use Rattle.iot_tree.specs.Tree.{Nodes}
use Rattle.iot_acts.specs.Traces.{after_update}
use Rattle.iot_exec.specs.Execs.{IsRunning, RunsOn}
use Rattle.iot_exec.proofs.exec.Exec.step.Goals as goal

pub returns-clause-runs : goal.returns-clause-runs
returns-clause-runs c =
    let runs : RunsOn c.args.self.now c.args.t.now c.in-Some.act c.advance.new.self (after_update c.args.t.now c.in-Some.act.update) =
    rw c.in-Some.is at c.in_ok-act.ensures.runs in
    λ script kept t0 n acts running.
    subst (λ (t : Nodes). IsRunning script kept t0 (n + 1) (acts ++ c.in-Some.act ∷ []) c.advance.new.self t) (sym c.in_ok-apply.ensures)
    (runs script kept t0 n acts running)
