use Rattle.std.proofs.Common.{sym, subst, ◌∙◌}
use Rattle.iot_tree.specs.Tree.{Nodes}
use Rattle.iot_acts.specs.Traces.{ActsHold}
use Rattle.iot_exec.specs.Finding.{AreFound}
use Rattle.iot_resolve.specs.Files.{offered}
use Rattle.iot_resolve.proofs.FilesLaws.{offers_files}
use Rattle.iot_resolve.proofs.ResolvedLaws.{acts_there, resolved_is, keeps_found}
use Rattle.iot_resolve.proofs.job.resolve.Goals as goal

pub returns-clause-resolved : goal.returns-clause-resolved
returns-clause-resolved c =
    let run_is = rw c.in_ok-offered.ensures at c.in_ok-done.ensures.run in
    let files_are = rw c.in_ok-offered.ensures at c.in_ok-done.ensures.files in
    resolved_is c.args.plan.now c.args.script.value c.args.local.now c.args.server.now c.in_ok-tree.tree c.in_ok-done.done.files
    c.in_ok-done.done.acted.acts files_are c.in_ok-tree.ensures
    (acts_there c.args.script.value (offered c.args.plan.now.keeps c.args.local.now) c.in_ok-tree.tree _ c.args.server.now
    c.args.plan.now.budget c.in_ok-done.done.acted run_is c.in_ok-tree.ensures)

pub returns-clause-offers : goal.returns-clause-offers
returns-clause-offers c = offers_files c.args.plan.now.keeps c.args.local.now

pub returns-clause-files : goal.returns-clause-files
returns-clause-files c =
    keeps_found c.args.plan.now c.args.script.value c.args.local.now c.args.server.now c.in_ok-done.done.files
    (subst
    (λ (t : Nodes). AreFound c.args.script.value (offered c.args.plan.now.keeps c.args.local.now) c.in_ok-done.done.files t
    c.args.plan.now.budget)
    c.in_ok-tree.ensures (rw c.in_ok-offered.ensures at c.in_ok-done.ensures.found))

pub returns-clause-again : goal.returns-clause-again
returns-clause-again c =
    acts_there c.args.script.value c.in_ok-done.done.files c.in_ok-tree.tree _ c.args.server.now c.args.plan.now.budget
    c.in_ok-done.done.acted (c.in_ok-done.ensures.run ∙ sym c.in_ok-done.ensures.found.same_run) c.in_ok-tree.ensures

pub returns-clause-holds : goal.returns-clause-holds
returns-clause-holds c = subst (λ (t : Nodes). ActsHold t c.in_ok-done.done.acted.acts) c.in_ok-tree.ensures c.in_ok-done.ensures.holds
