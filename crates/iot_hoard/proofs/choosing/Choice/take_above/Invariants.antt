use Rattle.std.proofs.Common.{◌≡◌, length, take}
use Rattle.iot_tree.specs.Ancestors.{proper_prefixes}
use Rattle.iot_tree.specs.Rows.{map_of}
use Rattle.iot_hoard.specs.Choosing.{Taken, IsChoice, take_paths}
use Rattle.iot_hoard.proofs.choosing.Choice.take_above.Given as goal

abbrev pub invariant-above : goal.invariant-above
invariant-above l = record {
  marks : length l.self.taken.items ≡ length l.rows;
  takes : (so_far : Taken) → IsChoice l.rows so_far l.fn.self
      → IsChoice l.rows (take_paths (map_of l.rows) (proper_prefixes (take l.len l.names)) so_far) l.self;
}
