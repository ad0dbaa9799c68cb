use Rattle.std.proofs.Common.{◌+◌, ap, refl, subst, sym, ◌∙◌}
use Rattle.iot_acts.specs.Traces.{after_update}
use Rattle.iot_acts.proofs.GuardLaws.{guarded_act}
use Rattle.iot_exec.specs.Commands.{Kept, kept_files}
use Rattle.iot_exec.specs.Execs.{place, IsNextAt}
use Rattle.iot_exec.specs.Misses.{first_away}
use Rattle.iot_exec.proofs.ExecLaws.{first_miss, next_guarded, next_holds, step_next, runs_on}
use Rattle.iot_exec.proofs.exec.Exec.decide_if_known.Goals as goal

pub returns-in-Some-2-clause-misses : goal.returns-in-Some-2-clause-misses
returns-in-Some-2-clause-misses c =
    sym c.in-Some-2.is ∙ c.in_ok-path.ensures ∙ ap first_away c.as_slice.ensures
    ∙ first_miss c.block-block.result.now c.args.self.now.script.value (c.block-block.ensures.value ∙ c.deref.ensures)
    c.args.self.now.position c.args.self.now.env
    (kept_files c.args.self.now.kept) c.args.t.now c.in-Some.statement.now
    (c.in-Some.ensures c.block-block.result.now c.statements-statements.ensures) c.in_ok-done.done c.in_ok-done.ensures.done

pub returns-clause-next : goal.returns-clause-next
returns-clause-next c =
    step_next c.block-block.result.now c.args.self.now.script.value (c.block-block.ensures.value ∙ c.deref.ensures) c.args.self.now.position
    c.args.self.now.env
    (kept_files c.args.self.now.kept) c.args.t.now c.in-Some.statement.now
    (c.in-Some.ensures c.block-block.result.now c.statements-statements.ensures) c.in_ok-done.done c.in_ok-done.ensures.done
    c.go_on.new.position c.go_on.new.env (after_update c.args.t.now c.in_ok-done.done.act.update) c.in_ok-go_on.ensures refl

pub returns-clause-guarded : goal.returns-clause-guarded
returns-clause-guarded c =
    next_guarded c.block-block.result.now c.args.self.now.script.value (c.block-block.ensures.value ∙ c.deref.ensures)
    c.args.self.now.position c.args.self.now.env
    (kept_files c.args.self.now.kept) c.args.t.now c.in-Some.statement.now
    (c.in-Some.ensures c.block-block.result.now c.statements-statements.ensures) c.in_ok-done.done c.in_ok-done.ensures.done
    c.in_ok-done.ensures.tree

pub returns-clause-fits : goal.returns-clause-fits
returns-clause-fits c = guarded_act c.in_ok-done.done.act (returns-clause-guarded c)

pub returns-clause-holds : goal.returns-clause-holds
returns-clause-holds c =
    next_holds c.block-block.result.now c.args.self.now.script.value (c.block-block.ensures.value ∙ c.deref.ensures)
    c.args.self.now.position c.args.self.now.env
    (kept_files c.args.self.now.kept) c.args.t.now c.in-Some.statement.now
    (c.in-Some.ensures c.block-block.result.now c.statements-statements.ensures) c.in_ok-done.done c.in_ok-done.ensures.done
    c.in_ok-done.ensures.tree

pub returns-clause-runs : goal.returns-clause-runs
returns-clause-runs c = λ script kept t0 n acts running. record {
  kept_same = running.kept_same;
  counted = ap (λ k. k + 1) running.counted;
  after =
      runs_on script kept t0 n acts (place c.args.self.now) c.args.t.now _ _ (after_update c.args.t.now c.in_ok-done.done.act.update)
      running.after
      (subst
      (λ (kept : Kept). IsNextAt kept (place c.args.self.now) c.args.t.now c.in_ok-done.done.act
      (place
      record {
        script = c.args.self.now.script;
        kept = c.args.self.now.kept;
        env = c.go_on.new.env;
        position = c.go_on.new.position;
        acts = c.args.self.now.acts + 1;
      })
      (after_update c.args.t.now c.in_ok-done.done.act.update))
      running.kept_same (returns-clause-next c));
}
