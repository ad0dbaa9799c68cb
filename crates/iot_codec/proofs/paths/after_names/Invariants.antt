use Rattle.std.specs.Prelude.{take, length, None}
use Rattle.iot_views.specs.Decoders.{items_at}
use Rattle.iot_views.specs.Decoding.{name_at}
use Rattle.iot_views.proofs.DecodersLaws.{IsOnWay}
use Rattle.iot_codec.proofs.paths.after_names.Given as goal

abbrev pub invariant-names : goal.invariant-names
invariant-names l =
    let total = items_at (λ _. name_at) (length l.names) None l.bytes l.at in
    IsOnWay (λ _. name_at) l.bytes (length l.names) total (take l.name-index l.names) l.name-index l.end
