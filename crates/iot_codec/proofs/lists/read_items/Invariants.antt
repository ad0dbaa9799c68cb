use Rattle.std.specs.Prelude.{None}
use Rattle.iot_views.specs.Decoders.{items_at}
use Rattle.iot_views.proofs.DecodersLaws.{IsOnWay}
use Rattle.iot_codec.proofs.lists.read_items.Given as goal

abbrev pub invariant-items : goal.invariant-items
invariant-items g l =
    let total = items_at (λ _. g.T.Spelled.decoding) l.count None l.bytes l.at in
    IsOnWay (λ _. g.T.Spelled.decoding) l.bytes l.count total l.items.items l.counter l.end
