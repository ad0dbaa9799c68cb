use Rattle.std.proofs.Common.{◌≡◌, ◌≤◌, ◌⊎◌, [], List, true, refl, sym, ap, subst, ◌∙◌, inl, inr, length, arith}
use Rattle.iot_acts.proofs.TraceLaws.{done_more}
use Rattle.iot_acts.proofs.GuardLaws.{guarded_hold}
use Rattle.iot_exec.specs.Commands.{kept_files}
use Rattle.iot_exec.specs.Places.{is_over}
use Rattle.iot_exec.specs.Execs.{place, act_count, RunsOn, IsRunning}
use Rattle.iot_exec.specs.Finding.{files_among, AreFound}
use Rattle.iot_exec.specs.declared.exec.Exec.{Exec}
use Rattle.iot_tree.specs.Tree.{Path, Nodes}
use Rattle.iot_exec.proofs.RunLaws.{begins, goes_on, ran_is}
use Rattle.iot_exec.proofs.FindingLaws.{has_found_none, has_found_push, has_found_all, are_found}
use Rattle.iot_exec.proofs.finding_job.run_finding.Goals as goal
use Rattle.iot_exec.proofs.finding_job.run_finding.Goals.{then-acts-test+in_ok-path+in_ok-act+in-None, else-acts-test}

pub acts-init : goal.acts-init
acts-init c =
    let new : IsRunning c.args.script.value (kept_files c.args.kept.now) c.args.tree.now 0 [] c.at_start-exec.result c.args.tree.now =
    rw c.in_ok-offered.ensures at c.at_start-exec.ensures.runs c.args.tree.now in
    record {
      running = begins c.args.script.value (kept_files c.args.kept.now) c.args.tree.now c.args.tree.now c.new-acts.result
          c.at_start-exec.result refl c.new-acts.ensures new;
      within = omega (arith, new.counted);
      done = rw c.new-acts.ensures (record { hold = tt; made = refl; guarded = tt });
      found = has_found_none c.args.script.value (kept_files c.args.kept.now) c.args.tree.now (length c.new-acts.result) c.new-paths.result
          (place c.at_start-exec.result) (ap length c.new-acts.ensures) c.new-paths.ensures c.at_start-exec.ensures.place;
    }

pub acts-preserved : goal.acts-preserved
acts-preserved c =
    let runs : RunsOn c.acts.exec c.acts.tree c.in-Some.act c.step.new.self c.step.new.t = rw c.in-Some.is at c.in_ok-act.ensures.runs in
    let more = runs c.args.script.value (kept_files c.args.kept.now) c.args.tree.now (length c.acts.acts) c.acts.acts
    c.acts.invariant.running in
    record {
      running = goes_on c.args.script.value (kept_files c.args.kept.now) c.args.tree.now c.step.new.t c.acts.acts c.push.new.self
          c.in-Some.act c.step.new.self c.in_ok-push-in-Some.ensures.ok more;
      within = omega (arith, more.counted, c.acts.invariant.running.counted, c.acts-test.true, c.acts-in-acts.ensures);
      done = done_more c.args.tree.now c.acts.acts c.push.new.self c.in-Some.act c.acts.tree c.step.new.t c.in_ok-push-in-Some.ensures.ok
          c.acts.invariant.done (rw c.in-Some.is at c.in_ok-act.ensures.holds) (rw c.in-Some.is at c.in_ok-act.ensures.makes)
          (rw c.in-Some.is at c.in_ok-act.ensures.guarded);
      found = has_found_push c.args.script.value (kept_files c.args.kept.now) c.args.tree.now c.acts.acts c.push.new.self c.acts.paths
          c.push_path.new.paths c.in_ok-path.path c.acts.exec c.acts.tree c.in-Some.act (place c.step.new.self) c.step.new.t
          c.acts.invariant.running.kept_same c.acts.invariant.found (rw c.in-Some.is at c.in_ok-act.ensures.next) c.in_ok-path.ensures
          c.in_ok-push-in-Some.ensures.ok c.in_ok-push_path-in-Some.ensures;
    }

pub acts-smaller : goal.acts-smaller
acts-smaller c =
    let runs : RunsOn c.acts.exec c.acts.tree c.in-Some.act c.step.new.self c.step.new.t = rw c.in-Some.is at c.in_ok-act.ensures.runs in
    let more = runs c.args.script.value (kept_files c.args.kept.now) c.args.tree.now (length c.acts.acts) c.acts.acts
    c.acts.invariant.running in
    omega (arith, more.counted, c.acts.invariant.running.counted, c.acts-test.true, c.acts-in-acts.ensures)

-- after the loop all is as before its last turn, and the script has ended or no act is left
pub returns-clause-run : goal.returns-clause-run
returns-clause-run c =
    let left : (c.acts-test.exec ≡ c.acts.exec) × (c.acts-test.tree ≡ c.acts.tree)
    × ((is_over (place c.acts.exec) ≡ true) ⊎ (c.args.budget ≤ act_count c.acts.exec)) = elim c.acts-test.branch [
      | then-acts-test+in_ok-path+in_ok-act+in-None w ↦
          let stays : (w.step.new.self ≡ c.acts.exec) × (w.step.new.t ≡ c.acts.tree) = rw w.in-None.is at w.in_ok-act.ensures.stays in
          (w.exec-is ∙ stays.0, w.tree-is ∙ stays.1, inl (rw w.in-None.is at w.in_ok-act.ensures.over))
      | else-acts-test w ↦ (w.exec-is, w.tree-is, inr (omega (arith, w.acts-test.false, c.acts-in-acts.ensures)))
    ] in
    ap (λ (t : Nodes). record { acts = c.acts.acts; tree = t; ended = c.at_end-ended.result }) left.1
    ∙ ran_is c.args.script.value (kept_files c.args.kept.now) c.args.tree.now c.acts.acts c.acts.exec c.acts.tree c.args.budget
    c.at_end-ended.result c.acts.invariant.running c.acts.invariant.within
    (c.at_end-ended.ensures ∙ ap (λ (exec : Exec). is_over (place exec)) left.0) left.2

pub returns-clause-files : goal.returns-clause-files
returns-clause-files c =
    let stops : (is_over (place c.acts.exec) ≡ true) ⊎ (c.args.budget ≤ length c.acts.acts) = elim c.acts-test.branch [
      | then-acts-test+in_ok-path+in_ok-act+in-None w ↦ inl (rw w.in-None.is at w.in_ok-act.ensures.over)
      | else-acts-test w ↦ inr (omega (arith, w.acts-test.false, c.acts-in-acts.ensures, c.acts.invariant.running.counted))
    ] in
    c.in_ok-files.ensures
    ∙ ap (λ (paths : List Path). files_among paths c.args.kept.now)
    (c.as_slice.ensures
    ∙ sym
    (has_found_all c.args.script.value (kept_files c.args.kept.now) c.args.tree.now (length c.acts.acts) c.acts.paths (place c.acts.exec)
    c.acts.tree c.args.budget c.acts.invariant.found
    (omega (arith, c.acts.invariant.running.counted, c.acts.invariant.within)) stops))

pub returns-clause-found : goal.returns-clause-found
returns-clause-found c =
    subst (λ files. AreFound c.args.script.value c.args.kept.now files c.args.tree.now c.args.budget) (sym (returns-clause-files c))
    (are_found c.args.script.value c.args.kept.now c.args.tree.now c.args.budget)

pub returns-clause-fits : goal.returns-clause-fits
returns-clause-fits c = guarded_hold c.acts.acts c.acts.invariant.done.guarded
