use Rattle.iot_tree.specs.Place.{IsPlace}
use Rattle.iot_tree.proofs.RowLaws.{place_in_tree}
use Rattle.iot_tree.proofs.grown.Grown.put.Goals as goal

pub put_at-requires-clause-place : goal.put_at-requires-clause-place
put_at-requires-clause-place c =
    let stands : IsPlace c.self.inside.rows c.args.path.now c.place_of-place.result =
    rw (c.as_slice.ensures, c.names.ensures.value) at c.place_of-place.ensures in
    place_in_tree c.self.inside.rows c.self.invariant.rising c.args.self.now c.self.view_is c.args.path.now c.place_of-place.result stands
