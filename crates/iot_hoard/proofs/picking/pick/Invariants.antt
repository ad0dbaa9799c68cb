use Rattle.std.proofs.Common.{◌≡◌, [], length, map, take}
use Rattle.std.specs.List.{flat_map}
use Rattle.iot_tree.specs.Rows.{map_of}
use Rattle.iot_hoard.specs.Choosing.{IsChoice, take_paths}
use Rattle.iot_hoard.specs.Picking.{wished}
use Rattle.iot_hoard.proofs.picking.pick.Given as goal

abbrev pub invariant-wishes : goal.invariant-wishes
invariant-wishes l = record {
  marks : length l.choice.taken.items ≡ length l.rows;
  takes : IsChoice l.rows
      (take_paths (map_of l.rows) (flat_map (wished (map_of l.rows)) (map (λ wish. wish.now) (take l.wish-index l.wish-items)))
      (record { paths = []; left = l.limit })) l.choice;
}
