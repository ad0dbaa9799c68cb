use Rattle.std.proofs.Common.{refl, ◌+◌}
use Rattle.std.proofs.lemmas.List.{take_rest}
use Rattle.iot_tree.specs.Place.{IsRowAt, IsGap}
use Rattle.iot_tree.proofs.LeafLaws.{leaf_at, leaf_in_gap}
use Rattle.iot_tree.proofs.grown.Grown.has_below.Goals as goal

pub returns-in-Ok : goal.returns-in-Ok
returns-in-Ok c =
    let stands : IsRowAt c.self.inside.rows c.args.path.now c.in-Ok.at =
    rw (c.in-Ok.is, c.as_slice-rows.ensures, c.names.ensures.value) at c.place_of.ensures in
    let test =
    rw (c.as_slice-rows.ensures, take_rest c.self.inside.rows (c.in-Ok.at + 1), c.names-in-Ok.ensures.value) at
    c.begins_within.ensures in
    rw (← c.self.view_is, test) (leaf_at c.self.inside.rows c.self.invariant c.args.path.now c.in-Ok.at stands)

pub returns-in-Err : goal.returns-in-Err
returns-in-Err c =
    let gap : IsGap c.self.inside.rows c.args.path.now c.in-Err.field-0 =
    rw (c.in-Err.is, c.as_slice-rows.ensures, c.names.ensures.value) at c.place_of.ensures in
    (λ none. rw (← c.self.view_is) (leaf_in_gap c.self.inside.rows c.self.invariant c.args.path.now c.in-Err.field-0 gap), λ leaf. refl)
