use Rattle.std.proofs.Common.{◌≡◌, ◌∙◌, ap, subst, ℕ, set, take, drop, List, ◌++◌, ◌∷◌}
use Rattle.std.specs.FinMap.{entries}
use Rattle.iot_tree.specs.Rows.{AreTreeRows}
use Rattle.iot_tree.specs.Place.{IsRowAt, IsGap}
use Rattle.iot_stamp.specs.Lining.{stamps_by}
use Rattle.iot_stamp.specs.Stamping.{is_at}
use Rattle.iot_stamp.specs.Stamps.{stamp_at}
use Rattle.iot_stamp.proofs.LiningLaws.{before, marks, made, updated_from, fits_in, put_row, put_gap, row_there, gap_there}
use Rattle.iot_stamp.proofs.stamped.Stamped.put.Goals as goal
use Rattle.iot_stamp.proofs.stamped.Stamped.put.Goals.{In_ok-insert-in-Err}

pub apply-requires : goal.apply-requires
apply-requires c =
    fits_in c.self.inside.tree c.self.inside.stamps.items c.self.invariant c.args.self.now c.self.view_is c.args.u.now c.requires.fits

-- ---- something was there

row_list : (c : goal.After-self-1)
    → set c.reserve.new.self.items c.in-Ok.at c.args.stamp
    ≡ stamps_by
    (marks (λ k. is_at k c.args.path.now) c.args.stamp (stamp_at (before c.self.inside.tree c.self.inside.stamps.items c.self.invariant)))
    (entries c.apply.new.self)
row_list c =
    let stands : IsRowAt (entries c.self.inside.tree) c.args.path.now c.in-Ok.at =
    rw (c.in-Ok.is, c.as_slice.ensures, c.rows.ensures.rows, c.names.ensures.value) at c.place_of-place.ensures in
    ap (λ (items : List ℕ). set items c.in-Ok.at c.args.stamp) c.reserve.ensures.items
    ∙ put_row c.self.inside.tree c.self.inside.stamps.items c.self.invariant (subst AreTreeRows c.rows.ensures.rows c.rows.ensures.valid)
    c.args.path.now c.args.stamp c.args.u.now c.requires.puts c.apply.new.self c.in_ok-apply.ensures.ok c.in-Ok.at stands

pub invariant_of-self-in-Ok : goal.invariant_of-self-in-Ok
invariant_of-self-in-Ok c =
    (made c.self.inside.tree c.self.inside.stamps.items c.self.invariant c.apply.new.self (λ k. is_at k c.args.path.now) c.args.stamp _
    (row_list c)).0

pub returns-in-Ok-clause-ok : goal.returns-in-Ok-clause-ok
returns-in-Ok-clause-ok c =
    (made c.self.inside.tree c.self.inside.stamps.items c.self.invariant c.apply.new.self (λ k. is_at k c.args.path.now) c.args.stamp _
    (row_list c)).1
    ∙ updated_from c.self.inside.tree c.self.inside.stamps.items c.self.invariant c.args.self.now c.self.view_is c.args.u.now
    c.apply.new.self
    c.in_ok-apply.ensures.ok (λ k. is_at k c.args.path.now) c.args.stamp

pub returns-in-Ok-clause-is_new : goal.returns-in-Ok-clause-is_new
returns-in-Ok-clause-is_new c =
    let stands : IsRowAt (entries c.self.inside.tree) c.args.path.now c.in-Ok.at =
    rw (c.in-Ok.is, c.as_slice.ensures, c.rows.ensures.rows, c.names.ensures.value) at c.place_of-place.ensures in
    row_there c.self.inside.tree c.self.inside.stamps.items c.self.invariant (subst AreTreeRows c.rows.ensures.rows c.rows.ensures.valid)
    c.args.path.now c.args.stamp c.args.self.now c.self.view_is c.in-Ok.at stands

-- ---- nothing was there

gap_is : (c : In_ok-insert-in-Err) → IsGap (entries c.self.inside.tree) c.args.path.now c.in-Err.gap
gap_is c = rw (c.in-Err.is, c.as_slice.ensures, c.rows.ensures.rows, c.names.ensures.value) at c.place_of-place.ensures

gap_list : (c : In_ok-insert-in-Err)
    → c.insert.new.self.items
    ≡ stamps_by
    (marks (λ k. is_at k c.args.path.now) c.args.stamp (stamp_at (before c.self.inside.tree c.self.inside.stamps.items c.self.invariant)))
    (entries c.apply.new.self)
gap_list c =
    c.in_ok-insert-in-Err.ensures.items
    ∙ ap (λ (items : List ℕ). take c.in-Err.gap items ++ c.args.stamp ∷ drop c.in-Err.gap items) c.reserve.ensures.items
    ∙ put_gap c.self.inside.tree c.self.inside.stamps.items c.self.invariant (subst AreTreeRows c.rows.ensures.rows c.rows.ensures.valid)
    c.args.path.now c.args.stamp c.args.u.now c.requires.puts c.apply.new.self c.in_ok-apply.ensures.ok c.in-Err.gap (gap_is c)

pub invariant_of-self-in-Err : goal.invariant_of-self-in-Err
invariant_of-self-in-Err c =
    (made c.self.inside.tree c.self.inside.stamps.items c.self.invariant c.apply.new.self (λ k. is_at k c.args.path.now) c.args.stamp _
    (gap_list c)).0

pub returns-in_ok-insert-in-Err-clause-ok : goal.returns-in_ok-insert-in-Err-clause-ok
returns-in_ok-insert-in-Err-clause-ok c =
    (made c.self.inside.tree c.self.inside.stamps.items c.self.invariant c.apply.new.self (λ k. is_at k c.args.path.now) c.args.stamp _
    (gap_list c)).1
    ∙ updated_from c.self.inside.tree c.self.inside.stamps.items c.self.invariant c.args.self.now c.self.view_is c.args.u.now
    c.apply.new.self
    c.in_ok-apply.ensures.ok (λ k. is_at k c.args.path.now) c.args.stamp

pub returns-in_ok-insert-in-Err-clause-is_new : goal.returns-in_ok-insert-in-Err-clause-is_new
returns-in_ok-insert-in-Err-clause-is_new c =
    gap_there c.self.inside.tree c.self.inside.stamps.items c.self.invariant (subst AreTreeRows c.rows.ensures.rows c.rows.ensures.valid)
    c.args.path.now c.args.stamp c.args.self.now c.self.view_is c.in-Err.gap (gap_is c)
