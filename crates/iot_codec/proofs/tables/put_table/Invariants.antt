use Rattle.std.proofs.Common.{◌≡◌, ◌++◌, take, length}
use Rattle.std.specs.List.{flat_map}
use Rattle.iot_codec.specs.Spelling.{number_spelling, pair_spelling}
use Rattle.iot_codec.proofs.tables.put_table.Given as goal

abbrev pub invariant-pairs : goal.invariant-pairs
invariant-pairs g l =
    l.out
    ≡ l.fn.out
    ++ (number_spelling (length l.pairs)
    ++ flat_map (pair_spelling g.K.Spelled.spelling g.V.Spelled.spelling) (take l.pair-index l.pairs))
