use Rattle.std.specs.Prelude.{None, option_map}
use Rattle.std.proofs.lemmas.Result.{err_from_is_err_and}
use Rattle.iot_views.specs.Decoders.{items_at}
use Rattle.iot_views.proofs.ListedLaws.{reaches_first, reaches_next, reaches_fault, reaches_end}
use Rattle.iot_views.proofs.lists.lend_items.Goals as goal

pub items-init : goal.items-init
items-init g c = reaches_first g.V.Lent.item (g.V.Lent.source c.args.bytes) c.args.count c.args.at

pub returns-in_err-view : goal.returns-in_err-view
returns-in_err-view g c =
    let p = err_from_is_err_and c.from_residual.result c.from_residual.ensures.1 in
    let bytes = g.V.Lent.source c.args.bytes in
    let total = items_at g.V.Lent.item c.args.count None bytes c.args.at in
    rw (p.1, p.2)
    (reaches_fault g.V.Lent.item bytes c.args.count total (option_map g.V.Lent.seen c.items.previous) c.items.counter c.items.end
    c.in_err-view.field-0.0.at c.items-test.true c.in_err-view.ensures c.items.invariant)

pub items-preserved : goal.items-preserved
items-preserved g c =
    let bytes = g.V.Lent.source c.args.bytes in
    let total = items_at g.V.Lent.item c.args.count None bytes c.args.at in
    reaches_next g.V.Lent.item bytes c.args.count total (option_map g.V.Lent.seen c.items.previous) c.items.counter c.items.end
    (g.V.Lent.seen c.in_ok-view.view) c.in_ok-view.after c.items-test.true c.in_ok-view.ensures c.items.invariant

pub returns : goal.returns
returns g c =
    rw c.from.ensures
    (reaches_end g.V.Lent.item (g.V.Lent.source c.args.bytes) c.args.count g.V.Lent.again g.V.Lent.looser
    (option_map g.V.Lent.seen c.items.previous) c.items.counter c.args.at c.items.end c.items-test.false c.items.invariant)
