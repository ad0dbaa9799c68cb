use Rattle.std.proofs.Common.{◌≡◌, ◌-◌, drop, length, map, take}
use Rattle.iot_tree.specs.Rows.{map_of}
use Rattle.iot_tree.specs.Tree.{Row}
use Rattle.iot_hoard.specs.Choosing.{Taken, IsChoice, take_paths}
use Rattle.iot_hoard.proofs.choosing.Choice.take_rows.Given as goal

abbrev pub invariant-rows : goal.invariant-rows
invariant-rows l = record {
  marks : length l.self.taken.items ≡ length l.rows;
  takes : (so_far : Taken) → IsChoice l.rows so_far l.fn.self
      → IsChoice l.rows (take_paths (map_of l.rows) (map (λ (row : Row). row.0) (take (l.at - l.from) (drop l.from l.rows))) so_far) l.self;
}
