use Rattle.std.proofs.Common.{◌≡◌, ◌∙◌, ap, subst, sym}
use Rattle.std.specs.Prelude.{None}
use Rattle.std.specs.Option.{option_copied}
use Rattle.std.proofs.lemmas.Result.{err_from_is_err_and}
use Rattle.iot_text.specs.Paths.{path_cmp}
use Rattle.iot_codec.specs.Ahead.{IsAhead}
use Rattle.iot_views.specs.Decoders.{items_at, number_at}
use Rattle.iot_views.specs.Decoding.{pair_at, path_at}
use Rattle.iot_views.proofs.DecodersLaws.{goes_on, is_done, last_of, last_of-append, last_of-get}
use Rattle.iot_codec.proofs.FaultsLaws.{ends}
use Rattle.iot_codec.proofs.known.read_stamped.Goals as goal

pub read_pair-requires-clause-ahead : goal.read_pair-requires-clause-ahead
read_pair-requires-clause-ahead c =
    let pairs = c.pairs.pairs.items in
    let before : option_copied c.last.result ≡ last_of None pairs =
    rw (c.last.ensures.value, c.deref.ensures.value) (sym (last_of-get pairs)) in
    subst (IsAhead c.args.rows.now c.pairs.place) (sym before) c.pairs.invariant.1

pub returns-in_err-pair : goal.returns-in_err-pair
returns-in_err-pair c =
    let item = pair_at path_cmp path_at number_at in
    let total = items_at item c.args.count None c.args.bytes.now c.args.at in
    let pairs = c.pairs.pairs.items in
    let before : option_copied c.last.result ≡ last_of None pairs =
    rw (c.last.ensures.value, c.deref.ensures.value) (sym (last_of-get pairs)) in
    let p = err_from_is_err_and c.from_residual-in_err-pair.result c.from_residual-in_err-pair.ensures.1 in
    rw (p.1, p.2) (ends item c.args.bytes.now c.args.count total c.in_err-pair.field-0.0 pairs c.pairs.counter c.pairs.end
    c.pairs-test.true (rw before at c.in_err-pair.ensures.pair) c.pairs.invariant.0)

pub pairs-preserved : goal.pairs-preserved
pairs-preserved c =
    let item = pair_at path_cmp path_at number_at in
    let total = items_at item c.args.count None c.args.bytes.now c.args.at in
    let pairs = c.pairs.pairs.items in
    let before : option_copied c.last.result ≡ last_of None pairs =
    rw (c.last.ensures.value, c.deref.ensures.value) (sym (last_of-get pairs)) in
    let last : last_of None c.push.new.self.items ≡ _ =
    ap (last_of None) c.in_ok-push.ensures.items ∙ last_of-append pairs None c.in_ok-pair.pair in (
      rw c.in_ok-push.ensures.items (goes_on item c.args.bytes.now c.args.count total pairs c.pairs.counter c.pairs.end
          c.in_ok-pair.pair c.in_ok-pair.after c.pairs-test.true (rw before at c.in_ok-pair.ensures.pair) c.pairs.invariant.0),
      subst (IsAhead c.args.rows.now c.read_pair.new.place) (sym last) c.in_ok-pair.ensures.ahead,
    )

pub returns : goal.returns
returns c =
    let item = pair_at path_cmp path_at number_at in
    let total = items_at item c.args.count None c.args.bytes.now c.args.at in
    rw c.from_vec.ensures (is_done item c.args.bytes.now c.args.count total c.pairs.pairs.items c.pairs.counter c.pairs.end
    c.pairs-test.false c.pairs.invariant.0)
