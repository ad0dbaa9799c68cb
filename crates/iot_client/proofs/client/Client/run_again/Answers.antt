use Rattle.std.proofs.Common.{◌≡◌, ℕ, List, subst, sym}
use Rattle.std.proofs.lemmas.Result.{on_ok_weaker}
use Rattle.iot_access.specs.Access.{AreNumbers}
use Rattle.iot_changes.specs.declared.changes.Change.TheVariants.{Resolved}
use Rattle.iot_views.specs.Rules.{IsAccess}
use Rattle.iot_kept.specs.States.{State}
use Rattle.iot_limits.proofs.AccessLaws.{access_spelled}
use Rattle.iot_queue.specs.declared.items.Resolution.{Resolution}
use Rattle.iot_tree.specs.declared.access.Access.{Access}
use Rattle.iot_client.specs.Calls.{CutsOff, Notes}
use Rattle.iot_limits.proofs.TreesLaws.{tree_spelled}
use Rattle.iot_client.proofs.client.Client.run_again.Goals as goal

pub change_head-requires-clause-change : goal.change_head-requires-clause-change
change_head-requires-clause-change g c =
    let done = c.in_ok-done.ensures.spelled in
    let is = c.in_ok-access.ensures.is in (
      done,
      subst IsAccess (sym is)
          (access_spelled c.in_ok-done.done.acts c.args.server.now done.acts.each (tree_spelled c.args.server.now c.requires.spelled)
          (subst (λ (access : Access). AreNumbers access.places) is c.in_ok-access.ensures.numbers)),
    )

pub returns-clause-reruns : goal.returns-clause-reruns
returns-clause-reruns g c =
    on_ok_weaker c.change_head.result
    (λ notes. record {
      done = c.in_ok-done.done;
      run = c.in_ok-done.ensures.run;
      notes = subst (λ (access : Access). Notes (Resolved c.in_ok-done.done access) c.args.self.now c.change_head.new.self)
          c.in_ok-access.ensures.is notes;
    })
    c.change_head.ensures.notes

cut_by : {state : State} {records : ℕ} {images : List ℕ → Type 0} (done : Resolution) {access other : Access} → access ≡ other
    → CutsOff (Resolved done access) state records images → CutsOff (Resolved done other) state records images
cut_by {state} {records} {images} done is cuts = subst (λ (access : Access). CutsOff (Resolved done access) state records images) is cuts

pub returns-clause-stopped : goal.returns-clause-stopped
returns-clause-stopped g c = λ is. record {
  done = c.in_ok-done.done;
  run = c.in_ok-done.ensures.run;
  cuts_off = cut_by c.in_ok-done.done c.in_ok-access.ensures.is (c.change_head.ensures.stopped is);
}
