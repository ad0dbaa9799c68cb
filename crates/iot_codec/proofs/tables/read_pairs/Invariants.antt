use Rattle.std.specs.Prelude.{None}
use Rattle.iot_views.specs.Decoding.{pair_at}
use Rattle.iot_views.specs.Decoders.{items_at}
use Rattle.iot_views.proofs.DecodersLaws.{IsOnWay}
use Rattle.iot_codec.proofs.tables.read_pairs.Given as goal

abbrev pub invariant-pairs : goal.invariant-pairs
invariant-pairs g l =
    let item = pair_at g.K.Ord.cmp g.K.Spelled.decoding g.V.Spelled.decoding in
    IsOnWay item l.bytes l.count (items_at item l.count None l.bytes l.at) l.pairs.items l.counter l.end
