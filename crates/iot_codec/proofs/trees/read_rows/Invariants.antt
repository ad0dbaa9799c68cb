use Rattle.std.specs.Prelude.{None}
use Rattle.iot_views.specs.Decoders.{items_at}
use Rattle.iot_views.specs.Decoding.{row_at}
use Rattle.iot_views.proofs.DecodersLaws.{IsOnWay}
use Rattle.iot_codec.proofs.trees.read_rows.Given as goal

abbrev pub invariant-rows : goal.invariant-rows
invariant-rows l =
    let item = row_at in
    IsOnWay item l.bytes l.count (items_at item l.count None l.bytes l.at) l.rows.items l.counter l.end
