use Rattle.std.proofs.Common.{◌≡◌, ◌≤◌, ◌⊎◌, true, refl, ap, ◌∙◌, inl, inr, length, arith}
use Rattle.iot_acts.proofs.TraceLaws.{done_more}
use Rattle.iot_acts.proofs.GuardLaws.{guarded_hold}
use Rattle.iot_exec.specs.Commands.{kept_files}
use Rattle.iot_exec.specs.Places.{is_over}
use Rattle.iot_exec.specs.Execs.{place, act_count, RunsOn}
use Rattle.iot_exec.specs.declared.exec.Exec.{Exec}
use Rattle.iot_tree.specs.Tree.{Nodes}
use Rattle.iot_exec.proofs.RunLaws.{begins, goes_on, ran_is}
use Rattle.iot_exec.proofs.job.run_on.Goals as goal
use Rattle.iot_exec.proofs.job.run_on.Goals.{then-acts-test+in_ok-act+in-None, else-acts-test}

pub acts-init : goal.acts-init
acts-init c =
    let new = c.new-exec.ensures c.args.tree.now in
    record {
      running = begins c.args.script.value (kept_files c.args.kept) c.args.tree.now c.args.tree.now c.new-acts.result c.new-exec.result refl
          c.new-acts.ensures new;
      within = omega (arith, new.counted);
      done = rw c.new-acts.ensures (record { hold = tt; made = refl; guarded = tt });
    }

pub acts-preserved : goal.acts-preserved
acts-preserved c =
    let runs : RunsOn c.acts.exec c.acts.tree c.in-Some.act c.step.new.self c.step.new.t = rw c.in-Some.is at c.in_ok-act.ensures.runs in
    let more = runs c.args.script.value (kept_files c.args.kept) c.args.tree.now (length c.acts.acts) c.acts.acts
    c.acts.invariant.running in
    record {
      running = goes_on c.args.script.value (kept_files c.args.kept) c.args.tree.now c.step.new.t c.acts.acts c.push.new.self
          c.in-Some.act c.step.new.self c.in_ok-push-in-Some.ensures.ok more;
      within = omega (arith, more.counted, c.acts.invariant.running.counted, c.acts-test.true, c.acts-in-acts.ensures);
      done = done_more c.args.tree.now c.acts.acts c.push.new.self c.in-Some.act c.acts.tree c.step.new.t c.in_ok-push-in-Some.ensures.ok
          c.acts.invariant.done (rw c.in-Some.is at c.in_ok-act.ensures.holds) (rw c.in-Some.is at c.in_ok-act.ensures.makes)
          (rw c.in-Some.is at c.in_ok-act.ensures.guarded);
    }

pub acts-smaller : goal.acts-smaller
acts-smaller c =
    let runs : RunsOn c.acts.exec c.acts.tree c.in-Some.act c.step.new.self c.step.new.t = rw c.in-Some.is at c.in_ok-act.ensures.runs in
    let more = runs c.args.script.value (kept_files c.args.kept) c.args.tree.now (length c.acts.acts) c.acts.acts
    c.acts.invariant.running in
    omega (arith, more.counted, c.acts.invariant.running.counted, c.acts-test.true, c.acts-in-acts.ensures)

-- after the loop all is as before its last turn, and the script has ended or no act is left
pub returns-clause-run : goal.returns-clause-run
returns-clause-run c =
    let left : (c.acts-test.exec ≡ c.acts.exec) × (c.acts-test.tree ≡ c.acts.tree)
    × ((is_over (place c.acts.exec) ≡ true) ⊎ (c.args.budget ≤ act_count c.acts.exec)) = elim c.acts-test.branch [
      | then-acts-test+in_ok-act+in-None w ↦
          let stays : (w.step.new.self ≡ c.acts.exec) × (w.step.new.t ≡ c.acts.tree) = rw w.in-None.is at w.in_ok-act.ensures.stays in
          (w.exec-is ∙ stays.0, w.tree-is ∙ stays.1, inl (rw w.in-None.is at w.in_ok-act.ensures.over))
      | else-acts-test w ↦ (w.exec-is, w.tree-is, inr (omega (arith, w.acts-test.false, c.acts-in-acts.ensures)))
    ] in
    ap (λ (t : Nodes). record { acts = c.acts.acts; tree = t; ended = c.at_end.result }) left.1
    ∙ ran_is c.args.script.value (kept_files c.args.kept) c.args.tree.now c.acts.acts c.acts.exec c.acts.tree c.args.budget c.at_end.result
    c.acts.invariant.running c.acts.invariant.within (c.at_end.ensures ∙ ap (λ (exec : Exec). is_over (place exec)) left.0) left.2

pub returns-clause-holds : goal.returns-clause-holds
returns-clause-holds c = c.acts.invariant.done.hold

pub returns-clause-made : goal.returns-clause-made
returns-clause-made c = elim c.acts-test.branch [
  | then-acts-test+in_ok-act+in-None w ↦
      let stays : (w.step.new.self ≡ c.acts.exec) × (w.step.new.t ≡ c.acts.tree) = rw w.in-None.is at w.in_ok-act.ensures.stays in
      w.tree-is ∙ stays.1 ∙ c.acts.invariant.done.made
  | else-acts-test w ↦ w.tree-is ∙ c.acts.invariant.done.made
]

pub returns-clause-guarded : goal.returns-clause-guarded
returns-clause-guarded c = c.acts.invariant.done.guarded

pub returns-clause-fits : goal.returns-clause-fits
returns-clause-fits c = guarded_hold c.acts.acts c.acts.invariant.done.guarded

pub returns-clause-few : goal.returns-clause-few
returns-clause-few c = omega (arith, c.acts.invariant.running.counted, c.acts.invariant.within)
