use Rattle.std.specs.Prelude.{None}
use Rattle.iot_text.specs.Paths.{path_cmp}
use Rattle.iot_codec.specs.Ahead.{IsAhead}
use Rattle.iot_views.specs.Decoding.{pair_at, path_at}
use Rattle.iot_views.specs.Decoders.{items_at, number_at}
use Rattle.iot_views.proofs.DecodersLaws.{IsOnWay, last_of}
use Rattle.iot_codec.proofs.known.read_stamped.Given as goal

abbrev pub invariant-pairs : goal.invariant-pairs
invariant-pairs l =
    let item = pair_at path_cmp path_at number_at in
    IsOnWay item l.bytes l.count (items_at item l.count None l.bytes l.at) l.pairs.items l.counter l.end
    × IsAhead l.rows l.place (last_of None l.pairs.items)
