use Rattle.std.proofs.Common.{◌≡◌, map, take}
use Rattle.std.specs.List.{filter}
use Rattle.iot_tree.specs.Snapshots.{has}
use Rattle.iot_tree.specs.Tree.{Row}
use Rattle.iot_hoard.specs.Choosing.{Taken, IsChoice}
use Rattle.iot_hoard.proofs.choosing.Choice.paths.Given as goal

abbrev pub invariant-rows : goal.invariant-rows
invariant-rows l =
    (so_far : Taken) → IsChoice l.rows so_far l.self → l.paths ≡ filter (has so_far.paths) (map (λ (row : Row). row.0) (take l.at l.rows))
