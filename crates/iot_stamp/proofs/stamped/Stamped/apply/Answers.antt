use Rattle.std.proofs.Common.{◌≡◌, ◌∙◌, sym, ap, subst, not, ◌||◌, ℕ}
use Rattle.std.specs.FinMap.{get}
use Rattle.iot_tree.specs.Updates.{Fits, updated}
use Rattle.iot_tree.specs.declared.updates.Update.{Update}
use Rattle.iot_stamp.specs.Agreement.{Keeps}
use Rattle.iot_stamp.specs.Carried.{in_either}
use Rattle.iot_stamp.specs.Stamping.{stamped, changes_names, touches, touches_by, is_at, is_parent, shown_same}
use Rattle.iot_stamp.specs.Lining.{marked}
use Rattle.iot_stamp.specs.Stamps.{Stamps, nodes_of, stamp_at, with_stamps}
use Rattle.iot_stamp.proofs.LiningLaws.{nodes_before, marked_two, stamped_one, removed_marked, put_new}
use Rattle.iot_stamp.proofs.LiningLaws.{put_old, swapped, move_new, move_old}
use Rattle.iot_stamp.proofs.StampingLaws.{keeps_update}
use Rattle.iot_stamp.proofs.stamped.Stamped.apply.Goals as goal

pub returns-then-branch-clause-ok : goal.returns-then-branch-clause-ok
returns-then-branch-clause-ok c =
    let new = sym c.if-branch.true ∙ c.in_ok-put-in-Put.ensures.is_new in
    stamped_one c.args.self.now c.mark_parent.new.self c.args.u.now c.args.stamp (λ k. is_parent k c.in-Put.path || is_at k c.in-Put.path)
    (marked_two c.args.self.now c.put.new.self c.args.u.now c.args.stamp (λ k. is_at k c.in-Put.path) c.in_ok-put-in-Put.ensures.ok
    c.mark_parent.new.self (λ k. is_parent k c.in-Put.path) c.mark_parent.ensures)
    (λ k. put_new (is_at k c.in-Put.path) (is_parent k c.in-Put.path) _ new
    ∙ ap (λ (u : Update). touches (nodes_of c.args.self.now) u k) (sym c.in-Put.is))

pub returns-else-branch-clause-ok : goal.returns-else-branch-clause-ok
returns-else-branch-clause-ok c =
    let old = sym c.if-branch.false ∙ c.in_ok-put-in-Put.ensures.is_new in
    stamped_one c.args.self.now c.put.new.self c.args.u.now c.args.stamp (λ k. is_at k c.in-Put.path) c.in_ok-put-in-Put.ensures.ok (λ k.
    put_old (is_at k c.in-Put.path) (is_parent k c.in-Put.path) _ old
    ∙ ap (λ (u : Update). touches (nodes_of c.args.self.now) u k) (sym c.in-Put.is))

pub returns-in_ok-put-in-MakeDir-clause-ok : goal.returns-in_ok-put-in-MakeDir-clause-ok
returns-in_ok-put-in-MakeDir-clause-ok c =
    stamped_one c.args.self.now c.mark_parent-in-MakeDir.new.self c.args.u.now c.args.stamp
    (λ k. is_parent k c.in-MakeDir.path || is_at k c.in-MakeDir.path)
    (marked_two c.args.self.now c.put-in-MakeDir.new.self c.args.u.now c.args.stamp (λ k. is_at k c.in-MakeDir.path)
    c.in_ok-put-in-MakeDir.ensures.ok c.mark_parent-in-MakeDir.new.self (λ k. is_parent k c.in-MakeDir.path)
    c.mark_parent-in-MakeDir.ensures)
    (λ k. swapped (is_at k c.in-MakeDir.path) (is_parent k c.in-MakeDir.path)
    ∙ ap (λ (u : Update). touches (nodes_of c.args.self.now) u k) (sym c.in-MakeDir.is))

pub returns-in_ok-remove-in-Remove-clause-ok : goal.returns-in_ok-remove-in-Remove-clause-ok
returns-in_ok-remove-in-Remove-clause-ok c =
    let one = subst
    (λ (u : Update). c.remove.new.self
    ≡ with_stamps (stamp_at c.args.self.now) (updated (nodes_of c.args.self.now) u)
    → c.remove.new.self ≡ marked c.args.self.now (updated (nodes_of c.args.self.now) u) (λ k. is_at k c.in-Remove.path) c.args.stamp)
    (sym c.in-Remove.is) (λ is. is ∙ removed_marked c.args.self.now c.in-Remove.path c.args.stamp) c.in_ok-remove-in-Remove.ensures.ok in
    stamped_one c.args.self.now c.mark_parent-in-Remove.new.self c.args.u.now c.args.stamp
    (λ k. is_parent k c.in-Remove.path || is_at k c.in-Remove.path)
    (marked_two c.args.self.now c.remove.new.self c.args.u.now c.args.stamp (λ k. is_at k c.in-Remove.path) one
    c.mark_parent-in-Remove.new.self (λ k. is_parent k c.in-Remove.path) c.mark_parent-in-Remove.ensures)
    (λ k. swapped (is_at k c.in-Remove.path) (is_parent k c.in-Remove.path)
    ∙ ap (λ (u : Update). touches (nodes_of c.args.self.now) u k) (sym c.in-Remove.is))

pub returns-then-not-same-clause-ok : goal.returns-then-not-same-clause-ok
returns-then-not-same-clause-ok c =
    let tree = sym (nodes_before c.self.inside.tree c.self.inside.stamps.items c.self.invariant) ∙ ap nodes_of c.self.view_is in
    let from = c.node.ensures ∙ (λ i. get (tree i) (c.names.ensures.value i)) in
    let to = c.node-in-Move.ensures ∙ (λ i. get (tree i) (c.names-in-Move.ensures.value i)) in
    let same = c.shown_same-same.ensures ∙ (λ i. shown_same (from i) (to i)) in
    stamped_one c.args.self.now c.mark_parent-then-not-same.new.self c.args.u.now c.args.stamp
    (λ k. is_parent k c.in-Move.to || (is_parent k c.in-Move.from || in_either c.in-Move.from c.in-Move.to k))
    (marked_two c.args.self.now c.mark_parent-in-Move.new.self c.args.u.now c.args.stamp
    (λ k. is_parent k c.in-Move.from || in_either c.in-Move.from c.in-Move.to k)
    (marked_two c.args.self.now c.move_to.new.self c.args.u.now c.args.stamp (in_either c.in-Move.from c.in-Move.to)
    c.in_ok-move_to-in-Move.ensures.ok c.mark_parent-in-Move.new.self (λ k. is_parent k c.in-Move.from) c.mark_parent-in-Move.ensures)
    c.mark_parent-then-not-same.new.self (λ k. is_parent k c.in-Move.to) c.mark_parent-then-not-same.ensures)
    (λ k. move_new (in_either c.in-Move.from c.in-Move.to k) (is_parent k c.in-Move.from) (is_parent k c.in-Move.to) _
    (ap not (sym c.if-not-same.true ∙ same))
    ∙ ap (λ (u : Update). touches (nodes_of c.args.self.now) u k) (sym c.in-Move.is))

pub returns-else-not-same-clause-ok : goal.returns-else-not-same-clause-ok
returns-else-not-same-clause-ok c =
    let tree = sym (nodes_before c.self.inside.tree c.self.inside.stamps.items c.self.invariant) ∙ ap nodes_of c.self.view_is in
    let from = c.node.ensures ∙ (λ i. get (tree i) (c.names.ensures.value i)) in
    let to = c.node-in-Move.ensures ∙ (λ i. get (tree i) (c.names-in-Move.ensures.value i)) in
    let same = c.shown_same-same.ensures ∙ (λ i. shown_same (from i) (to i)) in
    stamped_one c.args.self.now c.mark_parent-in-Move.new.self c.args.u.now c.args.stamp
    (λ k. is_parent k c.in-Move.from || in_either c.in-Move.from c.in-Move.to k)
    (marked_two c.args.self.now c.move_to.new.self c.args.u.now c.args.stamp (in_either c.in-Move.from c.in-Move.to)
    c.in_ok-move_to-in-Move.ensures.ok c.mark_parent-in-Move.new.self (λ k. is_parent k c.in-Move.from) c.mark_parent-in-Move.ensures)
    (λ k. move_old (in_either c.in-Move.from c.in-Move.to k) (is_parent k c.in-Move.from) (is_parent k c.in-Move.to) _
    (ap not (sym c.if-not-same.false ∙ same))
    ∙ ap (λ (u : Update). touches (nodes_of c.args.self.now) u k) (sym c.in-Move.is))

pub returns-then-other-clause-ok : goal.returns-then-other-clause-ok
returns-then-other-clause-ok c =
    let new = sym c.if-other.true ∙ c.in_ok-other-in-SetMode.ensures.changes in
    stamped_one c.args.self.now c.mark_parent-then-other.new.self c.args.u.now c.args.stamp
    (λ k. is_parent k c.in-SetMode.path || is_at k c.in-SetMode.path)
    (marked_two c.args.self.now c.set_mode.new.self c.args.u.now c.args.stamp (λ k. is_at k c.in-SetMode.path)
    c.in_ok-other-in-SetMode.ensures.ok c.mark_parent-then-other.new.self (λ k. is_parent k c.in-SetMode.path)
    c.mark_parent-then-other.ensures)
    (λ k. put_new (is_at k c.in-SetMode.path) (is_parent k c.in-SetMode.path) _ new
    ∙ ap (λ (u : Update). touches_by (changes_names (nodes_of c.args.self.now) c.args.u.now) u k) (sym c.in-SetMode.is))

pub returns-else-other-clause-ok : goal.returns-else-other-clause-ok
returns-else-other-clause-ok c =
    let old = sym c.if-other.false ∙ c.in_ok-other-in-SetMode.ensures.changes in
    stamped_one c.args.self.now c.set_mode.new.self c.args.u.now c.args.stamp (λ k. is_at k c.in-SetMode.path)
    c.in_ok-other-in-SetMode.ensures.ok
    (λ k. put_old (is_at k c.in-SetMode.path) (is_parent k c.in-SetMode.path) _ old
    ∙ ap (λ (u : Update). touches_by (changes_names (nodes_of c.args.self.now) c.args.u.now) u k) (sym c.in-SetMode.is))

-- the update keeps what has another stamp
kept : (t new : Stamps) (u : Update) (stamp : ℕ) → Fits (nodes_of t) u → new ≡ stamped t u stamp → Keeps t new stamp
kept t new u stamp fits is = subst (λ (m : Stamps). Keeps t m stamp) (sym is) (keeps_update t u stamp fits)

pub returns-then-branch-clause-keeps : goal.returns-then-branch-clause-keeps
returns-then-branch-clause-keeps c =
    kept c.args.self.now c.mark_parent.new.self c.args.u.now c.args.stamp c.requires (returns-then-branch-clause-ok c)

pub returns-else-branch-clause-keeps : goal.returns-else-branch-clause-keeps
returns-else-branch-clause-keeps c =
    kept c.args.self.now c.put.new.self c.args.u.now c.args.stamp c.requires (returns-else-branch-clause-ok c)

pub returns-in_ok-put-in-MakeDir-clause-keeps : goal.returns-in_ok-put-in-MakeDir-clause-keeps
returns-in_ok-put-in-MakeDir-clause-keeps c =
    kept c.args.self.now c.mark_parent-in-MakeDir.new.self c.args.u.now c.args.stamp c.requires (returns-in_ok-put-in-MakeDir-clause-ok c)

pub returns-in_ok-remove-in-Remove-clause-keeps : goal.returns-in_ok-remove-in-Remove-clause-keeps
returns-in_ok-remove-in-Remove-clause-keeps c =
    kept c.args.self.now c.mark_parent-in-Remove.new.self c.args.u.now c.args.stamp c.requires (returns-in_ok-remove-in-Remove-clause-ok c)

pub returns-then-not-same-clause-keeps : goal.returns-then-not-same-clause-keeps
returns-then-not-same-clause-keeps c =
    kept c.args.self.now c.mark_parent-then-not-same.new.self c.args.u.now c.args.stamp c.requires (returns-then-not-same-clause-ok c)

pub returns-else-not-same-clause-keeps : goal.returns-else-not-same-clause-keeps
returns-else-not-same-clause-keeps c =
    kept c.args.self.now c.mark_parent-in-Move.new.self c.args.u.now c.args.stamp c.requires (returns-else-not-same-clause-ok c)

pub returns-then-other-clause-keeps : goal.returns-then-other-clause-keeps
returns-then-other-clause-keeps c =
    kept c.args.self.now c.mark_parent-then-other.new.self c.args.u.now c.args.stamp c.requires (returns-then-other-clause-ok c)

pub returns-else-other-clause-keeps : goal.returns-else-other-clause-keeps
returns-else-other-clause-keeps c =
    kept c.args.self.now c.set_mode.new.self c.args.u.now c.args.stamp c.requires (returns-else-other-clause-ok c)
