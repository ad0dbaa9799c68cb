use Rattle.std.specs.Prelude.{Some, None}
use Rattle.std.proofs.lemmas.Result.{err_from_is_err_and}
use Rattle.iot_views.specs.Decoders.{items_at}
use Rattle.iot_views.specs.Laws.{each, same}
use Rattle.iot_views.proofs.ListedLaws.{reaches_next, reaches_fault, reaches_end}
use Rattle.iot_views.proofs.lists.skip_items.Goals as goal

pub returns-in_err-after : goal.returns-in_err-after
returns-in_err-after g c =
    let p = err_from_is_err_and c.from_residual.result c.from_residual.ensures.1 in
    let bytes = g.V.Lent.source c.args.bytes in
    let total = items_at (λ _. g.V.Lent.again) c.args.count None bytes c.args.at in
    rw (p.1, p.2)
    (reaches_fault (λ _. g.V.Lent.again) bytes c.args.count total c.items.invariant.0 c.items.counter c.items.end
    c.in_err-after.field-0.0.at c.items-test.true c.in_err-after.ensures c.items.invariant.1)

pub items-preserved : goal.items-preserved
items-preserved g c =
    let bytes = g.V.Lent.source c.args.bytes in
    let total = items_at (λ _. g.V.Lent.again) c.args.count None bytes c.args.at in
    let x = g.V.Lent.seen c.in_ok-after.field-0-0 in (
      Some x,
      reaches_next (λ _. g.V.Lent.again) bytes c.args.count total c.items.invariant.0 c.items.counter c.items.end x
          c.in_ok-after.after c.items-test.true c.in_ok-after.ensures c.items.invariant.1,
    )

pub returns : goal.returns
returns g c =
    rw c.from-list.ensures
    (reaches_end (λ _. g.V.Lent.again) (g.V.Lent.source c.args.bytes) c.args.count g.V.Lent.again
    (each g.V.Lent.again g.V.Lent.again (same g.V.Lent.again)) c.items.invariant.0 c.items.counter c.args.at c.items.end
    c.items-test.false c.items.invariant.1)
