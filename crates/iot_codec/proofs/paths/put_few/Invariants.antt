use Rattle.std.proofs.Common.{◌≡◌, ◌+◌, ◌*◌, ◌≤◌, ◌++◌, take, length}
use Rattle.std.specs.List.{flat_map}
use Rattle.iot_codec.specs.Spelling.{number_spelling, name_spelling}
use Rattle.iot_codec.proofs.paths.put_few.Given as goal

abbrev pub invariant-names : goal.invariant-names
invariant-names l =
    (l.piece ≡ number_spelling (length l.names) ++ flat_map name_spelling (take l.name-index l.names))
    × (length l.piece ≤ 8 + 40 * l.name-index)
