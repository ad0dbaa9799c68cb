use Rattle.std.proofs.Common.{◌≡◌, ◌++◌, take, length}
use Rattle.std.specs.List.{flat_map}
use Rattle.iot_codec.specs.Spelling.{node_spelling, number_spelling, pair_spelling, path_spelling}
use Rattle.iot_versions.proofs.respell.put_rows.Given as goal

abbrev pub invariant-rows : goal.invariant-rows
invariant-rows l =
    l.out ≡ l.fn.out ++ (number_spelling (length l.rows) ++ flat_map (pair_spelling path_spelling node_spelling) (take l.row-index l.rows))
