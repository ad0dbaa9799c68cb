use Rattle.std.proofs.Common.{◌≡◌, Some, IfOk, sym, ap, subst, ◌∙◌}
use Rattle.std.proofs.lemmas.Result.{IfOk-weaker}
use Rattle.iot_tree.specs.Tree.{Nodes}
use Rattle.iot_acts.specs.Traces.{after_acts}
use Rattle.iot_views.specs.Rules.{IsTreeOfRows}
use Rattle.iot_stamp.specs.Acting.{UpdatesFit}
use Rattle.iot_lang.specs.Scripts.{IsScript}
use Rattle.iot_queue.specs.Queues.{head_of}
use Rattle.iot_resolve.specs.Resolved.{resolved}
use Rattle.iot_kept.specs.Spelled.{IsSpelledItem, IsSpelledState}
use Rattle.iot_kept.specs.States.{AllHold}
use Rattle.iot_kept.proofs.SyncedLaws.{synced_holds, synced_spelled}
use Rattle.iot_client.specs.Ties.{state_of}
use Rattle.iot_client.proofs.LocalLaws.{same_run, heads_run}
use Rattle.iot_client.proofs.SpelledLaws.{head_fits, head_spelled, head_rows, plan_good, IsGoodPlan, resolution_spelled}
use Rattle.iot_client.proofs.client.Client.resolution.Goals.{After-drop-local-inside}
use Rattle.iot_client.proofs.client.Client.resolution.Goals as goal

pub local_tree-requires : goal.local_tree-requires
local_tree-requires g c =
    let hold : AllHold (state_of c.args.self.now) = synced_holds _ c.args.self.now.kept c.requires.tied.synced in
    subst (λ (t : Nodes). UpdatesFit t c.in-Some.head.now.acts) (sym c.held.ensures)
    (head_fits (state_of c.args.self.now).items c.in-Some.head.now (state_of c.args.self.now).held
    (c.in-Some.ensures ∙ ap head_of c.queue.ensures) hold.items)

-- the run is the one for the held tree after the acts, whether the plan keeps files or not
run_is : (g : _) (c : After-drop-local-inside g)
    → IfOk c.resolve.result
    (λ done. done
    ≡ resolved c.in-Some-plan_of.plan c.args.script.value
    (after_acts (state_of c.args.self.now).held c.in-Some.head.now.acts) c.args.server.now)
run_is g c =
    let acts = c.in-Some.head.now.acts in
    IfOk-weaker c.resolve.result _ _
    (λ done is.
    is
    ∙ same_run c.in-Some-plan_of.plan c.args.script.value c.in_ok-local.local
    (after_acts (state_of c.args.self.now).held acts) c.args.server.now
    (λ keeps. c.in_ok-local.ensures keeps ∙ ap (λ (t : Nodes). after_acts t acts) c.held.ensures))
    c.resolve.ensures.resolved

pub returns-clause-run : goal.returns-clause-run
returns-clause-run g c =
    IfOk-weaker c.resolve.result _ _
    (λ done is.
    heads_run (state_of c.args.self.now).held (state_of c.args.self.now).items c.in-Some.head.now c.in-Some-plan_of.plan
    c.args.script.value c.args.server.now done (c.in-Some.ensures ∙ ap head_of c.queue.ensures) (sym c.in-Some-plan_of.ensures) is)
    (run_is g c)

pub returns-clause-spelled : goal.returns-clause-spelled
returns-clause-spelled g c =
    let state = state_of c.args.self.now in
    let hold : AllHold state = synced_holds _ c.args.self.now.kept c.requires.tied.synced in
    let spelled : IsSpelledState state = synced_spelled _ c.args.self.now.kept c.requires.tied.synced in
    let first : Some c.in-Some.head.now ≡ head_of state.items = c.in-Some.ensures ∙ ap head_of c.queue.ensures in
    let item : IsSpelledItem c.in-Some.head.now = head_spelled state.items c.in-Some.head.now first spelled.items in
    let plan : IsGoodPlan c.in-Some-plan_of.plan =
    plan_good c.in-Some.head.now c.in-Some-plan_of.plan item (sym c.in-Some-plan_of.ensures) in
    let local : IsTreeOfRows (after_acts state.held c.in-Some.head.now.acts) =
    head_rows state.items c.in-Some.head.now state.held first spelled.items hold.items spelled.held in
    resolution_spelled c.resolve.result c.in-Some-plan_of.plan c.args.script.value
    (after_acts state.held c.in-Some.head.now.acts) c.args.server.now
    (run_is g c) plan (subst IsScript c.deref.ensures c.block-block.ensures.script) local c.requires.spelled
