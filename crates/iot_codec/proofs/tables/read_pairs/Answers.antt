use Rattle.std.proofs.Common.{◌≡◌, sym}
use Rattle.std.specs.Prelude.{None}
use Rattle.std.specs.Option.{option_copied}
use Rattle.std.proofs.lemmas.Result.{err_from_is_err_and}
use Rattle.iot_views.specs.Decoders.{items_at}
use Rattle.iot_views.specs.Decoding.{pair_at}
use Rattle.iot_views.proofs.DecodersLaws.{goes_on, is_done, last_of, last_of-get}
use Rattle.iot_codec.proofs.FaultsLaws.{ends}
use Rattle.iot_codec.proofs.tables.read_pairs.Goals as goal

pub returns-in_err-pair : goal.returns-in_err-pair
returns-in_err-pair g c =
    let item = pair_at g.K.Ord.cmp g.K.Spelled.decoding g.V.Spelled.decoding in
    let total = items_at item c.args.count None c.args.bytes.now c.args.at in
    let pairs = c.pairs.pairs.items in
    let before : option_copied c.last.result ≡ last_of None pairs =
    rw (c.last.ensures.value, c.deref.ensures.value) (sym (last_of-get pairs)) in
    let p = err_from_is_err_and c.from_residual-in_err-pair.result c.from_residual-in_err-pair.ensures.1 in
    rw (p.1, p.2) (ends item c.args.bytes.now c.args.count total c.in_err-pair.field-0.0 pairs c.pairs.counter c.pairs.end
    c.pairs-test.true (rw before at c.in_err-pair.ensures) c.pairs.invariant)

pub pairs-preserved : goal.pairs-preserved
pairs-preserved g c =
    let item = pair_at g.K.Ord.cmp g.K.Spelled.decoding g.V.Spelled.decoding in
    let total = items_at item c.args.count None c.args.bytes.now c.args.at in
    let pairs = c.pairs.pairs.items in
    let before : option_copied c.last.result ≡ last_of None pairs =
    rw (c.last.ensures.value, c.deref.ensures.value) (sym (last_of-get pairs)) in
    rw c.in_ok-push.ensures.items (goes_on item c.args.bytes.now c.args.count total pairs c.pairs.counter c.pairs.end
    c.in_ok-pair.pair c.in_ok-pair.after c.pairs-test.true (rw before at c.in_ok-pair.ensures) c.pairs.invariant)

pub returns : goal.returns
returns g c =
    let item = pair_at g.K.Ord.cmp g.K.Spelled.decoding g.V.Spelled.decoding in
    let total = items_at item c.args.count None c.args.bytes.now c.args.at in
    rw c.from_vec.ensures (is_done item c.args.bytes.now c.args.count total c.pairs.pairs.items c.pairs.counter c.pairs.end
    c.pairs-test.false c.pairs.invariant)
