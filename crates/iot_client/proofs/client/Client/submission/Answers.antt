use Rattle.std.proofs.Common.{ap, subst, sym, ◌∙◌}
use Rattle.iot_acts.specs.Traces.{ActsHold}
use Rattle.iot_views.specs.Rules.{IsAccess, IsTreeOfRows}
use Rattle.iot_queue.specs.Queues.{head_of}
use Rattle.iot_tree.specs.Tree.{Nodes}
use Rattle.iot_kept.specs.Spelled.{IsSpelledState}
use Rattle.iot_kept.proofs.SyncedLaws.{synced_guarded, synced_holds, synced_spelled}
use Rattle.iot_client.specs.Ties.{state_of}
use Rattle.iot_client.proofs.SpelledLaws.{head_guarded, head_holds, head_spelled}
use Rattle.iot_client.proofs.client.Client.submission.Goals as goal

pub ask_for-requires-clause-spelled : goal.ask_for-requires-clause-spelled
ask_for-requires-clause-spelled g c =
    let spelled : IsSpelledState (state_of c.args.self.now) = synced_spelled _ c.args.self.now.kept c.requires.tied.synced in
    head_spelled (state_of c.args.self.now).items c.in-Some.item.now (c.in-Some.ensures ∙ ap head_of c.queue.ensures)
    spelled.items

pub ask_for-requires-clause-held : goal.ask_for-requires-clause-held
ask_for-requires-clause-held g c =
    subst IsTreeOfRows (sym c.held-held.ensures) (synced_spelled _ c.args.self.now.kept c.requires.tied.synced).held

pub ask_for-requires-clause-access : goal.ask_for-requires-clause-access
ask_for-requires-clause-access g c =
    subst IsAccess (sym c.access-access.ensures) (synced_spelled _ c.args.self.now.kept c.requires.tied.synced).access

pub ask_for-requires-clause-hold : goal.ask_for-requires-clause-hold
ask_for-requires-clause-hold g c =
    subst (λ (t : Nodes). ActsHold t c.in-Some.item.now.acts) (sym c.held-held.ensures)
    (head_holds (state_of c.args.self.now).items c.in-Some.item.now _ (c.in-Some.ensures ∙ ap head_of c.queue.ensures)
    (synced_holds _ c.args.self.now.kept c.requires.tied.synced).items)

pub ask_for-requires-clause-guarded : goal.ask_for-requires-clause-guarded
ask_for-requires-clause-guarded g c =
    head_guarded (state_of c.args.self.now).items c.in-Some.item.now (c.in-Some.ensures ∙ ap head_of c.queue.ensures)
    (synced_guarded _ c.args.self.now.kept c.requires.tied.synced).items
