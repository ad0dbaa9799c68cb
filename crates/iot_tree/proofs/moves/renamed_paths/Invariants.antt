use Rattle.std.proofs.Common.{◌≡◌, take, map}
use Rattle.iot_tree.specs.Updates.{renamed}
use Rattle.iot_tree.proofs.moves.renamed_paths.Given as goal

abbrev pub invariant-rows : goal.invariant-rows
invariant-rows l = l.paths.items ≡ map (λ row. renamed l.from l.to row.0) (take l.row-index l.rows)
