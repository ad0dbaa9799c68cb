use Rattle.std.specs.Prelude.{None}
use Rattle.std.proofs.lemmas.Result.{err_from_is_err_and}
use Rattle.iot_views.specs.Decoders.{items_at}
use Rattle.iot_views.proofs.DecodersLaws.{goes_on}
use Rattle.iot_codec.proofs.FaultsLaws.{ends}
use Rattle.iot_codec.proofs.lists.read_items.Goals as goal

pub returns-in_err-item : goal.returns-in_err-item
returns-in_err-item g c =
    let p = err_from_is_err_and c.from_residual-in_err-item.result c.from_residual-in_err-item.ensures.1 in
    let total = items_at (λ _. g.T.Spelled.decoding) c.args.count None c.args.bytes.now c.args.at in
    rw (p.1, p.2) (ends (λ _. g.T.Spelled.decoding) c.args.bytes.now c.args.count total c.in_err-item.field-0.0
    c.items.items.items c.items.counter c.items.end c.items-test.true c.in_err-item.ensures c.items.invariant)

pub items-preserved : goal.items-preserved
items-preserved g c =
    let total = items_at (λ _. g.T.Spelled.decoding) c.args.count None c.args.bytes.now c.args.at in
    rw c.in_ok-push.ensures.items (goes_on (λ _. g.T.Spelled.decoding) c.args.bytes.now c.args.count total
    c.items.items.items c.items.counter c.items.end c.in_ok-item.item c.in_ok-item.after
    c.items-test.true c.in_ok-item.ensures c.items.invariant)
