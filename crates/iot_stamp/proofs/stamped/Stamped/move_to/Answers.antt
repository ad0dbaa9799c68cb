use Rattle.std.proofs.Common.{◌≡◌, ◌∙◌, sym, ap, subst, refl, arith, length, take, drop, ◌+◌, ◌-◌}
use Rattle.std.proofs.lemmas.List.{length-take}
use Rattle.std.specs.FinMap.{entries}
use Rattle.iot_tree.specs.Place.{IsGap}
use Rattle.iot_tree.specs.Rows.{AreTreeRows}
use Rattle.iot_tree.specs.Tree.{Row}
use Rattle.iot_tree.specs.Updates.{Fits, updated}
use Rattle.iot_tree.specs.declared.updates.Update.{Update}
use Rattle.iot_tree.specs.declared.updates.Update.TheVariants.{Move}
use Rattle.iot_stamp.specs.Carried.{in_either}
use Rattle.iot_stamp.specs.Lining.{stamps_by}
use Rattle.iot_stamp.specs.Stamps.{stamp_at}
use Rattle.iot_stamp.proofs.CarriedLaws.{Carries, carries_tree, from_there, to_there, found_is, carried_alike}
use Rattle.iot_stamp.proofs.LiningLaws.{before, made, fits_in, own_stamps, updated_from, marks}
use Rattle.iot_stamp.proofs.stamped.Stamped.move_to.Goals as goal

pub apply-requires : goal.apply-requires
apply-requires c =
    subst (λ (u : Update). Fits c.self.inside.tree u) (sym c.requires.moves)
    (fits_in c.self.inside.tree c.self.inside.stamps.items c.self.invariant c.args.self.now c.self.view_is
    (Move c.args.from.now c.args.to.now) c.requires.fits)

-- what moves is there
gone_from : (c : goal.In_default) → ⊥
gone_from c =
    let gap : IsGap (entries c.self.inside.tree) c.args.from.now c.in_default.field-0 =
    rw (c.in_default.is, c.as_slice-rows.ensures, c.rows.ensures.rows, c.names.ensures.value) at c.place_of.ensures in
    from_there c.self.inside.tree _ (subst AreTreeRows c.rows.ensures.rows c.rows.ensures.valid) c.args.from.now c.args.to.now
    (fits_in c.self.inside.tree c.self.inside.stamps.items c.self.invariant c.args.self.now c.self.view_is
    (Move c.args.from.now c.args.to.now) c.requires.fits)
    refl c.in_default.field-0 gap

pub returns-in_default-clause-ok : goal.returns-in_default-clause-ok
returns-in_default-clause-ok c = absurd (gone_from c)

-- and it comes
gone_to : (c : goal.In_default-place_of) → ⊥
gone_to c =
    let gap : IsGap (entries c.apply.new.self) c.args.to.now c.in_default-place_of.field-0 =
    rw (c.in_default-place_of.is, c.as_slice-moved.ensures, c.rows-2.ensures.rows, c.names-4.ensures.value) at c.place_of-3.ensures in
    to_there c.self.inside.tree c.apply.new.self (subst AreTreeRows c.rows.ensures.rows c.rows.ensures.valid) c.args.from.now c.args.to.now
    (fits_in c.self.inside.tree c.self.inside.stamps.items c.self.invariant c.args.self.now c.self.view_is
    (Move c.args.from.now c.args.to.now) c.requires.fits)
    (c.in_ok-apply.ensures.ok ∙ ap (λ (u : Update). updated c.self.inside.tree u) c.requires.moves)
    (subst AreTreeRows c.rows-2.ensures.rows c.rows-2.ensures.valid).rising c.in_default-place_of.field-0 gap

pub invariant_of-self-in_default-place_of : goal.invariant_of-self-in_default-place_of
invariant_of-self-in_default-place_of c = absurd (gone_to c)

pub returns-in_default-place_of-clause-ok : goal.returns-in_default-place_of-clause-ok
returns-in_default-place_of-clause-ok c = absurd (gone_to c)

-- what the steps need and leave, said where each is needed
steps : (c : goal.In-Ok-place_of)
    → Carries (entries c.self.inside.tree) (entries c.apply.new.self) c.args.from.now c.args.to.now c.in-Ok.at c.count_within-count.result
    c.in-Ok-place_of.place c.is_ok-goes.result
steps c =
    let rows = c.as_slice-rows.ensures ∙ c.rows.ensures.rows in
    let news = c.as_slice-moved.ensures ∙ c.rows-2.ensures.rows in
    carries_tree c.self.inside.tree c.apply.new.self (subst AreTreeRows c.rows.ensures.rows c.rows.ensures.valid) c.args.from.now
    c.args.to.now
    (fits_in c.self.inside.tree c.self.inside.stamps.items c.self.invariant c.args.self.now c.self.view_is
    (Move c.args.from.now c.args.to.now) c.requires.fits)
    (c.in_ok-apply.ensures.ok ∙ ap (λ (u : Update). updated c.self.inside.tree u) c.requires.moves) c.in-Ok.at
    (rw (c.in-Ok.is, rows, c.names.ensures.value) at c.place_of.ensures) c.count_within-count.result
    (rw (rows, c.names-2.ensures.value) at c.count_within-count.ensures.count)
    c.in-Ok-place_of.place (rw (c.in-Ok-place_of.is, news, c.names-4.ensures.value) at c.place_of-3.ensures)
    c.is_ok-goes.result
    (c.is_ok-goes.ensures.value
    ∙ found_is (entries c.self.inside.tree) (subst AreTreeRows c.rows.ensures.rows c.rows.ensures.valid).rising c.args.to.now
    c.place_of-2.result (rw (rows, c.names-3.ensures.value) at c.place_of-2.ensures))

pub overflow_add-come : goal.overflow_add-come
overflow_add-come c = omega (arith, (steps c).room, ap length c.as_slice-moved.ensures, ap length c.rows-2.ensures.rows)

pub slice_bounds-come-end : goal.slice_bounds-come-end
slice_bounds-come-end c = omega (arith, (steps c).room, ap length c.as_slice-moved.ensures, ap length c.rows-2.ensures.rows)

carry_steps : (c : goal.After-carry-arg-1)
    → Carries (entries c.self.inside.tree) (entries c.apply.new.self) c.args.from.now c.args.to.now c.in-Ok.at c.count_within-count.result
    c.in-Ok-place_of.place c.is_ok-goes.result
carry_steps c =
    let rows = c.as_slice-rows.ensures ∙ c.rows.ensures.rows in
    let news = c.as_slice-moved.ensures ∙ c.rows-2.ensures.rows in
    carries_tree c.self.inside.tree c.apply.new.self (subst AreTreeRows c.rows.ensures.rows c.rows.ensures.valid) c.args.from.now
    c.args.to.now
    (fits_in c.self.inside.tree c.self.inside.stamps.items c.self.invariant c.args.self.now c.self.view_is
    (Move c.args.from.now c.args.to.now) c.requires.fits)
    (c.in_ok-apply.ensures.ok ∙ ap (λ (u : Update). updated c.self.inside.tree u) c.requires.moves) c.in-Ok.at
    (rw (c.in-Ok.is, rows, c.names.ensures.value) at c.place_of.ensures) c.count_within-count.result
    (rw (rows, c.names-2.ensures.value) at c.count_within-count.ensures.count)
    c.in-Ok-place_of.place (rw (c.in-Ok-place_of.is, news, c.names-4.ensures.value) at c.place_of-3.ensures)
    c.is_ok-goes.result
    (c.is_ok-goes.ensures.value
    ∙ found_is (entries c.self.inside.tree) (subst AreTreeRows c.rows.ensures.rows c.rows.ensures.valid).rising c.args.to.now
    c.place_of-2.result (rw (rows, c.names-3.ensures.value) at c.place_of-2.ensures))

pub carry-requires-clause-taken : goal.carry-requires-clause-taken
carry-requires-clause-taken c =
    omega (arith, (carry_steps c).taken, c.self.invariant.count, length-take {A = Row})

pub carry-requires-clause-others : goal.carry-requires-clause-others
carry-requires-clause-others c =
    omega (arith, (carry_steps c).others, c.self.invariant.count, length-take {A = Row})

last_steps : (c : goal.After-carry)
    → Carries (entries c.self.inside.tree) (entries c.apply.new.self) c.args.from.now c.args.to.now c.in-Ok.at c.count_within-count.result
    c.in-Ok-place_of.place c.is_ok-goes.result
last_steps c =
    let rows = c.as_slice-rows.ensures ∙ c.rows.ensures.rows in
    let news = c.as_slice-moved.ensures ∙ c.rows-2.ensures.rows in
    carries_tree c.self.inside.tree c.apply.new.self (subst AreTreeRows c.rows.ensures.rows c.rows.ensures.valid) c.args.from.now
    c.args.to.now
    (fits_in c.self.inside.tree c.self.inside.stamps.items c.self.invariant c.args.self.now c.self.view_is
    (Move c.args.from.now c.args.to.now) c.requires.fits)
    (c.in_ok-apply.ensures.ok ∙ ap (λ (u : Update). updated c.self.inside.tree u) c.requires.moves) c.in-Ok.at
    (rw (c.in-Ok.is, rows, c.names.ensures.value) at c.place_of.ensures) c.count_within-count.result
    (rw (rows, c.names-2.ensures.value) at c.count_within-count.ensures.count)
    c.in-Ok-place_of.place (rw (c.in-Ok-place_of.is, news, c.names-4.ensures.value) at c.place_of-3.ensures)
    c.is_ok-goes.result
    (c.is_ok-goes.ensures.value
    ∙ found_is (entries c.self.inside.tree) (subst AreTreeRows c.rows.ensures.rows c.rows.ensures.valid).rising c.args.to.now
    c.place_of-2.result (rw (rows, c.names-3.ensures.value) at c.place_of-2.ensures))

-- the stamps with those that came
in_line : (c : goal.After-carry)
    → c.carry.new.stamps.items
    ≡ stamps_by
    (marks (in_either c.args.from.now c.args.to.now) c.args.stamp
    (stamp_at (before c.self.inside.tree c.self.inside.stamps.items c.self.invariant)))
    (entries c.apply.new.self)
in_line c =
    let news = c.as_slice-moved.ensures ∙ c.rows-2.ensures.rows in
    let less : c.in-Ok-place_of.place + c.count_within-count.result - c.in-Ok-place_of.place ≡ c.count_within-count.result = omega arith in
    (last_steps c).done (stamp_at (before c.self.inside.tree c.self.inside.stamps.items c.self.invariant)) c.args.stamp
    c.carry.new.stamps.items
    (carried_alike (own_stamps c.self.inside.tree c.self.inside.stamps.items c.self.invariant)
    (λ i. stamps_by (λ k. c.args.stamp) (take (less i) (drop c.in-Ok-place_of.place (news i)))) c.carry.ensures)

pub invariant_of-self-in-Ok-place_of : goal.invariant_of-self-in-Ok-place_of
invariant_of-self-in-Ok-place_of c =
    (made c.self.inside.tree c.self.inside.stamps.items c.self.invariant c.apply.new.self (in_either c.args.from.now c.args.to.now)
    c.args.stamp _ (in_line c)).0

pub returns-in-Ok-place_of-clause-ok : goal.returns-in-Ok-place_of-clause-ok
returns-in-Ok-place_of-clause-ok c =
    (made c.self.inside.tree c.self.inside.stamps.items c.self.invariant c.apply.new.self (in_either c.args.from.now c.args.to.now)
    c.args.stamp _ (in_line c)).1
    ∙ updated_from c.self.inside.tree c.self.inside.stamps.items c.self.invariant c.args.self.now c.self.view_is c.args.u.now
    c.apply.new.self
    c.in_ok-apply.ensures.ok (in_either c.args.from.now c.args.to.now) c.args.stamp
