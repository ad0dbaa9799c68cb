use Rattle.std.proofs.Common.{◌≡◌, ◌∙◌, sym, ap, subst, true, false, not}
use Rattle.std.specs.FinMap.{entries}
use Rattle.iot_tree.specs.Rows.{AreTreeRows}
use Rattle.iot_tree.specs.Place.{IsRowAt, IsGap}
use Rattle.iot_tree.specs.Updates.{updated, Fits}
use Rattle.iot_tree.specs.Tree.{Nodes}
use Rattle.iot_tree.specs.declared.updates.Update.{Update}
use Rattle.iot_tree.specs.declared.updates.Update.TheVariants.{Remove}
use Rattle.iot_stamp.specs.Lining.{stamps_by}
use Rattle.iot_stamp.specs.Stamps.{Stamps, nodes_of, stamp_at, with_stamps}
use Rattle.iot_stamp.proofs.LiningLaws.{before, fits_in, row_goes, goes_map, gap_there, nodes_before}
use Rattle.iot_stamp.proofs.stamped.Stamped.remove.Goals as goal

pub apply-requires : goal.apply-requires
apply-requires c =
    subst (λ (u : Update). Fits c.self.inside.tree u) (sym c.requires.removes)
    (fits_in c.self.inside.tree c.self.inside.stamps.items c.self.invariant c.args.self.now c.self.view_is (Remove c.args.path.now)
    c.requires.fits)

goes_list : (c : goal.After-remove)
    → c.remove.new.self.items
    ≡ stamps_by (stamp_at (before c.self.inside.tree c.self.inside.stamps.items c.self.invariant)) (entries c.apply.new.self)
goes_list c =
    let stands : IsRowAt (entries c.self.inside.tree) c.args.path.now c.in-Ok.at =
    rw (c.in-Ok.is, c.as_slice.ensures, c.rows.ensures.rows, c.names.ensures.value) at c.place_of-place.ensures in
    c.remove.ensures.by_index.2
    ∙ row_goes c.self.inside.tree c.self.inside.stamps.items c.self.invariant (subst AreTreeRows c.rows.ensures.rows c.rows.ensures.valid)
    c.args.path.now c.in-Ok.at stands c.apply.new.self
    (c.in_ok-apply.ensures.ok ∙ ap (λ (u : Update). updated c.self.inside.tree u) c.requires.removes)

pub invariant_of-self-in-Ok : goal.invariant_of-self-in-Ok
invariant_of-self-in-Ok c =
    (goes_map c.self.inside.tree c.self.inside.stamps.items c.self.invariant c.apply.new.self _ (goes_list c)).0

pub returns-in-Ok-clause-ok : goal.returns-in-Ok-clause-ok
returns-in-Ok-clause-ok c =
    (goes_map c.self.inside.tree c.self.inside.stamps.items c.self.invariant c.apply.new.self _ (goes_list c)).1
    ∙ ap (λ (n : Nodes). with_stamps (stamp_at (before c.self.inside.tree c.self.inside.stamps.items c.self.invariant)) n)
    (c.in_ok-apply.ensures.ok
    ∙ ap (λ (n : Nodes). updated n c.args.u.now)
    (sym (nodes_before c.self.inside.tree c.self.inside.stamps.items c.self.invariant)))
    ∙ ap (λ (m : Stamps). with_stamps (stamp_at m) (updated (nodes_of m) c.args.u.now)) c.self.view_is

-- a row that goes is there
never : (c : goal.In_default) → ⊥
never c =
    let gap : IsGap (entries c.self.inside.tree) c.args.path.now c.in_default.field-0 =
    rw (c.in_default.is, c.as_slice.ensures, c.rows.ensures.rows, c.names.ensures.value) at c.place_of-place.ensures in
    let none =
    gap_there c.self.inside.tree c.self.inside.stamps.items c.self.invariant (subst AreTreeRows c.rows.ensures.rows c.rows.ensures.valid)
    c.args.path.now 0 c.args.self.now c.self.view_is c.in_default.field-0 gap in
    no_more (none ∙ ap not c.requires.fits.mapped)
  where
    no_more : true ≡ false → ⊥
    no_more is = cc

pub invariant_of-self-in_default : goal.invariant_of-self-in_default
invariant_of-self-in_default c = absurd (never c)

pub returns-in_default-clause-ok : goal.returns-in_default-clause-ok
returns-in_default-clause-ok c = absurd (never c)
