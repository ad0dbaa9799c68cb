use Rattle.std.specs.Prelude.{Option, None}
use Rattle.iot_views.specs.Decoders.{items_at}
use Rattle.iot_views.proofs.ListedLaws.{Reaches}
use Rattle.iot_views.proofs.lists.skip_items.Given as goal

abbrev pub invariant-items : goal.invariant-items
invariant-items g l =
    let bytes = g.V.Lent.source l.bytes in
    let total = items_at (λ _. g.V.Lent.again) l.count None bytes l.at in
    (previous : Option g.row.T.Denot) × Reaches (λ _. g.V.Lent.again) bytes l.count total previous l.counter l.end
