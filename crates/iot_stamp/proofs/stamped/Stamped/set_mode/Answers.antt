use Rattle.std.proofs.Common.{◌∙◌, sym, ap, subst, cond, not, Some}
use Rattle.std.specs.FinMap.{entries}
use Rattle.iot_tree.specs.Rows.{AreTreeRows}
use Rattle.iot_tree.specs.Place.{IsRowAt, IsGap}
use Rattle.iot_tree.specs.Snapshots.{is_known}
use Rattle.iot_tree.specs.Updates.{updated, with_mode, Fits}
use Rattle.iot_tree.specs.Tree.{Row}
use Rattle.iot_tree.specs.declared.updates.Update.{Update}
use Rattle.iot_tree.specs.declared.updates.Update.TheVariants.{SetMode}
use Rattle.iot_stamp.specs.Stamping.{is_at, shown_same, changes_names}
use Rattle.iot_stamp.specs.Stamps.{nodes_of}
use Rattle.iot_stamp.proofs.LiningLaws.{made, updated_from, fits_in, mode_row, mode_changes, gap_never}
use Rattle.iot_stamp.proofs.stamped.Stamped.set_mode.Goals as goal

pub apply-requires : goal.apply-requires
apply-requires c =
    subst (λ (u : Update). Fits c.self.inside.tree u) (sym c.requires.sets)
    (fits_in c.self.inside.tree c.self.inside.stamps.items c.self.invariant c.args.self.now c.self.view_is
    (SetMode c.args.path.now c.args.mode)
    c.requires.fits)

-- a file is there
never : (c : goal.In_default) → ⊥
never c =
    let gap : IsGap (entries c.self.inside.tree) c.args.path.now c.in_default.field-0 =
    rw (c.in_default.is, c.as_slice-rows.ensures, c.rows.ensures.rows, c.names.ensures.value) at c.place_of.ensures in
    gap_never c.self.inside.tree c.self.inside.stamps.items c.self.invariant (subst AreTreeRows c.rows.ensures.rows c.rows.ensures.valid)
    c.args.path.now 0 c.args.self.now c.self.view_is c.in_default.field-0 gap c.requires.fits

pub returns-in_default-clause-ok : goal.returns-in_default-clause-ok
returns-in_default-clause-ok c = absurd (never c)

pub returns-in_default-clause-changes : goal.returns-in_default-clause-changes
returns-in_default-clause-changes c = absurd (never c)

pub invariant_of-self-2 : goal.invariant_of-self-2
invariant_of-self-2 c =
    let rows = c.as_slice-rows.ensures ∙ c.rows.ensures.rows in
    let stands : IsRowAt (entries c.self.inside.tree) c.args.path.now c.in-Ok.at =
    rw (c.in-Ok.is, rows, c.names.ensures.value) at c.place_of.ensures in
    let list =
    mode_row c.self.inside.tree c.self.inside.stamps.items c.self.invariant (subst AreTreeRows c.rows.ensures.rows c.rows.ensures.valid)
    c.args.path.now c.args.stamp c.args.mode c.in-Ok.at stands c.index-rows-at.result (rw rows at c.index-rows-at.is) c.apply.new.self
    (c.in_ok-apply.ensures.ok ∙ ap (λ (u : Update). updated c.self.inside.tree u) c.requires.sets) c.stamp_of-own.result
    (c.stamp_of-own.ensures ∙ ap (λ (row : Row). cond (is_known row.1) c.args.stamp 0) (sym c.index-rows-at.is)) in
    (made c.self.inside.tree c.self.inside.stamps.items c.self.invariant c.apply.new.self (λ k. is_at k c.args.path.now) c.args.stamp _
    list).0

pub returns-clause-ok : goal.returns-clause-ok
returns-clause-ok c =
    let rows = c.as_slice-rows.ensures ∙ c.rows.ensures.rows in
    let stands : IsRowAt (entries c.self.inside.tree) c.args.path.now c.in-Ok.at =
    rw (c.in-Ok.is, rows, c.names.ensures.value) at c.place_of.ensures in
    let list =
    mode_row c.self.inside.tree c.self.inside.stamps.items c.self.invariant (subst AreTreeRows c.rows.ensures.rows c.rows.ensures.valid)
    c.args.path.now c.args.stamp c.args.mode c.in-Ok.at stands c.index-rows-at.result (rw rows at c.index-rows-at.is) c.apply.new.self
    (c.in_ok-apply.ensures.ok ∙ ap (λ (u : Update). updated c.self.inside.tree u) c.requires.sets) c.stamp_of-own.result
    (c.stamp_of-own.ensures ∙ ap (λ (row : Row). cond (is_known row.1) c.args.stamp 0) (sym c.index-rows-at.is)) in
    (made c.self.inside.tree c.self.inside.stamps.items c.self.invariant c.apply.new.self (λ k. is_at k c.args.path.now) c.args.stamp _
    list).1
    ∙ updated_from c.self.inside.tree c.self.inside.stamps.items c.self.invariant c.args.self.now c.self.view_is c.args.u.now
    c.apply.new.self
    c.in_ok-apply.ensures.ok (λ k. is_at k c.args.path.now) c.args.stamp

pub returns-clause-changes : goal.returns-clause-changes
returns-clause-changes c =
    let rows = c.as_slice-rows.ensures ∙ c.rows.ensures.rows in
    let stands : IsRowAt (entries c.self.inside.tree) c.args.path.now c.in-Ok.at =
    rw (c.in-Ok.is, rows, c.names.ensures.value) at c.place_of.ensures in
    mode_changes c.self.inside.tree c.self.inside.stamps.items c.self.invariant (subst AreTreeRows c.rows.ensures.rows c.rows.ensures.valid)
    c.args.path.now c.args.stamp c.args.mode c.in-Ok.at stands c.index-rows-at.result (rw rows at c.index-rows-at.is) c.args.self.now
    c.self.view_is c.has_other_mode-other.result
    (c.has_other_mode-other.ensures
    ∙ ap (λ (row : Row). not (shown_same (Some row.1) (Some (with_mode c.args.mode row.1)))) (sym c.index-rows-at.is))
    ∙ ap (λ (u : Update). changes_names (nodes_of c.args.self.now) u) (sym c.requires.sets)
