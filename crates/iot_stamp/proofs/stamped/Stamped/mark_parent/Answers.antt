use Rattle.std.proofs.Common.{◌≡◌, ◌∙◌, sym, ap, subst, set, cond, Some}
use Rattle.std.specs.FinMap.{entries, get}
use Rattle.iot_text.specs.Paths.{parent_of}
use Rattle.iot_tree.specs.Rows.{AreTreeRows}
use Rattle.iot_tree.specs.Place.{IsRowAt, IsGap}
use Rattle.iot_tree.specs.Tree.{Row}
use Rattle.iot_tree.specs.Snapshots.{is_known}
use Rattle.iot_stamp.specs.Lining.{marked, stamps_by}
use Rattle.iot_stamp.specs.Stamping.{is_this, is_at}
use Rattle.iot_stamp.specs.Stamps.{Stamps, nodes_of, stamp_at}
use Rattle.iot_stamp.proofs.LiningLaws.{unmarked_map, at_row, no_row, made, nodes_before, before, marks}
use Rattle.iot_stamp.proofs.PairingLaws.{far_paired}
use Rattle.iot_stamp.proofs.stamped.Stamped.mark_parent.Goals as goal

pub returns-in_default : goal.returns-in_default
returns-in_default c =
    let none = rw c.in_default.is at c.parent_names.ensures.value in
    subst (λ (t : Stamps). t ≡ marked t (nodes_of t) (λ k. is_this k (parent_of c.args.path.now)) c.args.stamp) c.self.view_is
    (unmarked_map _ (far_paired c.self.inside.tree c.self.inside.stamps.items c.self.invariant.far) _ c.args.stamp
    (λ k node is. ap (is_this k) (sym none)))

-- the stamps with the new one in its place
in_line : (c : goal.After-self-1)
    → set c.self.inside.stamps.items c.in-Ok.at c.stamp_of.result
    ≡ stamps_by
    (marks (λ k. is_at k c.in-Some.parent.now) c.args.stamp (stamp_at (before c.self.inside.tree c.self.inside.stamps.items
    c.self.invariant)))
    (entries c.self.inside.tree)
in_line c =
    let rows = c.as_slice-rows.ensures ∙ c.rows.ensures.rows in
    let stands : IsRowAt (entries c.self.inside.tree) c.in-Some.parent.now c.in-Ok.at = rw (c.in-Ok.is, rows) at c.place_of.ensures in
    at_row c.self.inside.tree c.self.inside.stamps.items c.self.invariant (subst AreTreeRows c.rows.ensures.rows c.rows.ensures.valid)
    c.in-Some.parent.now c.args.stamp c.in-Ok.at stands c.index-rows-at.result (rw rows at c.index-rows-at.is) c.stamp_of.result
    (c.stamp_of.ensures ∙ ap (λ (row : Row). cond (is_known row.1) c.args.stamp 0) (sym c.index-rows-at.is))

pub invariant_of-self : goal.invariant_of-self
invariant_of-self c =
    (made c.self.inside.tree c.self.inside.stamps.items c.self.invariant c.self.inside.tree (λ k. is_at k c.in-Some.parent.now)
    c.args.stamp _
    (in_line c)).0

pub returns-in-Ok : goal.returns-in-Ok
returns-in-Ok c =
    let parent : Some c.in-Some.parent.now ≡ parent_of c.args.path.now = rw c.in-Some.is at c.parent_names.ensures.value in
    (made c.self.inside.tree c.self.inside.stamps.items c.self.invariant c.self.inside.tree (λ k. is_at k c.in-Some.parent.now)
    c.args.stamp _
    (in_line c)).1
    ∙ (λ i. marked (before c.self.inside.tree c.self.inside.stamps.items c.self.invariant)
    (sym (nodes_before c.self.inside.tree c.self.inside.stamps.items c.self.invariant) i) (λ k. is_this k (parent i)) c.args.stamp)
    ∙ ap (λ (t : Stamps). marked t (nodes_of t) (λ k. is_this k (parent_of c.args.path.now)) c.args.stamp) c.self.view_is

pub returns-in_default-place_of : goal.returns-in_default-place_of
returns-in_default-place_of c =
    let rows = c.as_slice-rows.ensures ∙ c.rows.ensures.rows in
    let parent : Some c.in-Some.parent.now ≡ parent_of c.args.path.now = rw c.in-Some.is at c.parent_names.ensures.value in
    let gap : IsGap (entries c.self.inside.tree) c.in-Some.parent.now c.in_default-place_of.field-0 =
    rw (c.in_default-place_of.is, rows) at c.place_of.ensures in
    subst (λ (t : Stamps). t ≡ marked t (nodes_of t) (λ k. is_this k (parent_of c.args.path.now)) c.args.stamp) c.self.view_is
    (unmarked_map _ (far_paired c.self.inside.tree c.self.inside.stamps.items c.self.invariant.far) _ c.args.stamp
    (λ k node is.
    ap (is_this k) (sym parent)
    ∙ no_row c.self.inside.tree c.self.inside.stamps.items c.self.invariant (subst AreTreeRows c.rows.ensures.rows c.rows.ensures.valid)
    c.in-Some.parent.now c.args.stamp c.in_default-place_of.field-0 gap k node
    (sym (ap (λ n. get n k) (nodes_before c.self.inside.tree c.self.inside.stamps.items c.self.invariant)) ∙ is)))
