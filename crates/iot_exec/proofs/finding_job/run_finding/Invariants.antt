use Rattle.std.proofs.Common.{length, ◌≤◌, ◌-◌}
use Rattle.iot_acts.proofs.TraceLaws.{AreDone}
use Rattle.iot_exec.specs.Commands.{kept_files}
use Rattle.iot_exec.specs.Execs.{IsRunning, act_count, place}
use Rattle.iot_exec.proofs.FindingLaws.{HasFound}
use Rattle.iot_exec.proofs.finding_job.run_finding.Given as goal

-- the acts so far are those of the run, and were done on the tree; the paths so far are those at which they found a file
abbrev pub invariant-acts : goal.invariant-acts
invariant-acts l = record {
  running : IsRunning l.fn.script.value (kept_files l.kept) l.initial.tree (length l.acts) l.acts l.exec l.tree;
  within : act_count l.exec ≤ l.budget;
  done : AreDone l.initial.tree l.acts l.tree;
  found : HasFound l.fn.script.value (kept_files l.kept) l.initial.tree (length l.acts) l.paths (place l.exec) l.tree;
}

abbrev pub decreases-acts : goal.decreases-acts
decreases-acts l = l.budget - act_count l.exec
