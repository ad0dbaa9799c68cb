use Rattle.std.specs.Prelude.{None}
use Rattle.iot_views.specs.Decoders.{items_at}
use Rattle.iot_views.specs.Decoding.{next_path_at}
use Rattle.iot_views.proofs.DecodersLaws.{IsOnWay}
use Rattle.iot_codec.proofs.rising.read_rising.Given as goal

abbrev pub invariant-paths : goal.invariant-paths
invariant-paths l =
    let item = next_path_at in
    IsOnWay item l.bytes l.count (items_at item l.count None l.bytes l.at) l.paths.items l.counter l.end
