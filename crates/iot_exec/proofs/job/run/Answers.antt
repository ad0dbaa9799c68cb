use Rattle.std.proofs.Common.{ap, subst, ◌∙◌}
use Rattle.iot_tree.specs.Tree.{Nodes}
use Rattle.iot_acts.specs.Traces.{ActsHold}
use Rattle.iot_exec.specs.Commands.{kept_files}
use Rattle.iot_exec.specs.Runs.{run}
use Rattle.iot_exec.proofs.RunLaws.{alike_is}
use Rattle.iot_exec.proofs.PartingLaws.{parts_is}
use Rattle.iot_exec.proofs.job.run.Goals as goal

pub returns-clause-run : goal.returns-clause-run
returns-clause-run c =
    c.in_ok-acted.ensures.run ∙ ap (λ (t : Nodes). run c.args.script.value (kept_files c.args.kept) t c.args.budget) c.in_ok-tree.ensures

pub returns-clause-holds : goal.returns-clause-holds
returns-clause-holds c = subst (λ (t : Nodes). ActsHold t c.in_ok-acted.acted.acts) c.in_ok-tree.ensures c.in_ok-acted.ensures.holds

pub returns-clause-alike : goal.returns-clause-alike
returns-clause-alike c = λ u tree.
    alike_is c.args.script.value (kept_files c.args.kept) c.args.t.now u c.args.budget _ (returns-clause-run c) tree

pub returns-clause-parts : goal.returns-clause-parts
returns-clause-parts c = λ u. parts_is c.args.script.value (kept_files c.args.kept) c.args.t.now u c.args.budget _ (returns-clause-run c)
