use Rattle.iot_tree.specs.Place.{IsRowAt, IsGap}
use Rattle.iot_tree.proofs.RowLaws.{get_in_gap}
use Rattle.iot_tree.proofs.LeafLaws.{removed_map, removed_tree}
use Rattle.iot_tree.proofs.TreeLaws.{none_some}
use Rattle.iot_tree.proofs.grown.Grown.remove.Goals as goal

at_row : (c : goal.After-remove) → IsRowAt c.self.inside.rows c.args.path.now c.in-Ok.at
at_row c = rw (c.in-Ok.is, c.as_slice.ensures, c.names.ensures.value) at c.place_of.ensures

pub invariant_of-self : goal.invariant_of-self
invariant_of-self c =
    rw c.remove.ensures
    (removed_tree c.self.inside.rows c.self.invariant c.args.path.now c.in-Ok.at (at_row c) (rw c.self.view_is c.requires))

pub returns-in-Ok : goal.returns-in-Ok
returns-in-Ok c =
    rw (c.remove.ensures, ← c.self.view_is) (removed_map c.self.inside.rows c.self.invariant c.args.path.now c.in-Ok.at (at_row c))

pub returns-in_default : goal.returns-in_default
returns-in_default c =
    let gap : IsGap c.self.inside.rows c.args.path.now c.in_default.field-0 =
    rw (c.as_slice.ensures, c.names.ensures.value) at c.in_default.ensures in
    absurd
    (none_some _ (get_in_gap c.self.inside.rows c.self.invariant.rising c.args.path.now c.in_default.field-0 gap)
    (rw c.self.view_is c.requires.mapped))
