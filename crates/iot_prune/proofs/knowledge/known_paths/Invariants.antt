use Rattle.std.proofs.Common.{◌≡◌, ◌++◌, drop}
use Rattle.iot_tree.specs.Snapshots.{is_known, paths_where}
use Rattle.iot_prune.proofs.knowledge.known_paths.Given as goal

abbrev pub invariant-rows : goal.invariant-rows
invariant-rows l =
    l.paths ++ paths_where (λ row. is_known row.1) (drop l.row-index l.rows) ≡ paths_where (λ row. is_known row.1) l.rows
