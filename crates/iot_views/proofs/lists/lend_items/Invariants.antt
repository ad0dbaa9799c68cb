use Rattle.std.specs.Prelude.{None, option_map}
use Rattle.iot_views.specs.Decoders.{items_at}
use Rattle.iot_views.proofs.ListedLaws.{Reaches}
use Rattle.iot_views.proofs.lists.lend_items.Given as goal

abbrev pub invariant-items : goal.invariant-items
invariant-items g l =
    let bytes = g.V.Lent.source l.bytes in
    let total = items_at g.V.Lent.item l.count None bytes l.at in
    Reaches g.V.Lent.item bytes l.count total (option_map g.V.Lent.seen l.previous) l.counter l.end
