use Rattle.std.proofs.Common.{◌∙◌, ap}
use Rattle.iot_stamp.specs.Stamps.{nodes_of}
use Rattle.iot_kept.specs.Bringing.{base_for}
use Rattle.iot_kept.specs.Kept.{state_of, stamps_of, classes_in}
use Rattle.iot_kept.specs.Memory.{memory_state, classes_of}
use Rattle.iot_kept.specs.declared.memory.Memory.{Memory}
use Rattle.iot_kept.proofs.BringingLaws.{change_spelled, same_classes, same_tree}
use Rattle.iot_kept.proofs.StandingLaws.{is_record}
use Rattle.iot_kept.proofs.SyncedLaws.{synced_spelled}
use Rattle.iot_kept.proofs.kept.Kept.bring.Goals as goal

pub record_for-requires-clause-spells : goal.record_for-requires-clause-spells
record_for-requires-clause-spells g c =
    change_spelled (state_of c.args.self.now) (stamps_of c.args.self.now) c.in_ok-held.held c.merge.new.held c.args.changes c.args.purpose
    c.in_ok-copy.field-0 (state_of c.args.self.now).held c.brought_for-change.result
    (c.in_ok-held.ensures ∙ ap (λ (m : Memory). base_for c.args.purpose m.durable.held) c.state.ensures)
    (synced_spelled g.D.Disk.medium c.args.self.now c.requires.synced) c.requires.follows
    (synced_spelled g.D.Disk.medium c.args.self.now c.requires.synced).held c.requires.changes c.in_ok-merge.ensures.stamps
    c.in_ok-merge.ensures.tree (c.in_ok-copy.ensures ∙ c.tree.ensures.value) c.brought_for-change.ensures

pub note_spelled-requires-clause-change : goal.note_spelled-requires-clause-change
note_spelled-requires-clause-change g c =
    change_spelled (state_of c.args.self.now) (stamps_of c.args.self.now) c.in_ok-held.held c.merge.new.held c.args.changes c.args.purpose
    c.in_ok-copy.field-0 (state_of c.args.self.now).held c.brought_for-change.result
    (c.in_ok-held.ensures ∙ ap (λ (m : Memory). base_for c.args.purpose m.durable.held) c.state.ensures)
    (synced_spelled g.D.Disk.medium c.args.self.now c.requires.synced) c.requires.follows
    (synced_spelled g.D.Disk.medium c.args.self.now c.requires.synced).held c.requires.changes c.in_ok-merge.ensures.stamps
    c.in_ok-merge.ensures.tree (c.in_ok-copy.ensures ∙ c.tree.ensures.value) c.brought_for-change.ensures

pub note_spelled-requires-clause-spelled : goal.note_spelled-requires-clause-spelled
note_spelled-requires-clause-spelled g c =
    let has =
    change_spelled (state_of c.args.self.now) (stamps_of c.args.self.now) c.in_ok-held.held c.merge.new.held c.args.changes c.args.purpose
    c.in_ok-copy.field-0 (state_of c.args.self.now).held c.brought_for-change.result
    (c.in_ok-held.ensures ∙ ap (λ (m : Memory). base_for c.args.purpose m.durable.held) c.state.ensures)
    (synced_spelled g.D.Disk.medium c.args.self.now c.requires.synced) c.requires.follows
    (synced_spelled g.D.Disk.medium c.args.self.now c.requires.synced).held c.requires.changes c.in_ok-merge.ensures.stamps
    c.in_ok-merge.ensures.tree (c.in_ok-copy.ensures ∙ c.tree.ensures.value) c.brought_for-change.ensures in
    is_record c.brought_for-change.result c.as_bytes.result.now has (c.as_bytes.ensures ∙ c.in_ok-text.ensures.is)

pub set_stamps-requires : goal.set_stamps-requires
set_stamps-requires g c =
    same_tree c.args.purpose (state_of c.args.self.now) (memory_state c.state_mut.result.now) c.in_ok-copy.field-0
    (nodes_of c.merge.new.held) c.brought_for-change.result (c.in_ok-copy.ensures ∙ c.tree.ensures.value) c.brought_for-change.ensures
    (ap (λ (m : Memory). memory_state m) c.state_mut.ensures.value ∙ c.in_ok-note_spelled.ensures.state)

pub returns-clause-class : goal.returns-clause-class
returns-clause-class g c =
    c.set_stamps.ensures.class ∙ ap (λ (m : Memory). classes_of m.durable.running.items) c.state_mut.ensures.value
    ∙ c.in_ok-note_spelled.ensures.makes.class
    ∙ same_classes c.args.purpose c.in_ok-copy.field-0 c.brought_for-change.result (state_of c.args.self.now).running
    (classes_in c.args.self.now) c.brought_for-change.ensures
