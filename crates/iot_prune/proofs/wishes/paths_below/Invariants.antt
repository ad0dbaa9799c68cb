use Rattle.std.proofs.Common.{◌≡◌, ◌++◌, drop}
use Rattle.iot_text.specs.Paths.{is_below}
use Rattle.iot_tree.specs.Snapshots.{paths_where}
use Rattle.iot_prune.proofs.wishes.paths_below.Given as goal

abbrev pub invariant-rows : goal.invariant-rows
invariant-rows l =
    l.paths ++ paths_where (λ row. is_below row.0 l.path) (drop l.row-index l.rows) ≡ paths_where (λ row. is_below row.0 l.path) l.rows
