use Rattle.std.proofs.Common.{◌≡◌, sym}
use Rattle.std.specs.Prelude.{None}
use Rattle.std.specs.Option.{option_copied}
use Rattle.std.proofs.lemmas.Result.{err_from_is_err_and}
use Rattle.iot_views.specs.Decoders.{items_at}
use Rattle.iot_views.specs.Decoding.{next_path_at}
use Rattle.iot_views.proofs.DecodersLaws.{goes_on, is_done, last_of, last_of-get}
use Rattle.iot_codec.proofs.FaultsLaws.{ends}
use Rattle.iot_codec.proofs.rising.read_rising.Goals as goal

pub returns-in_err-path : goal.returns-in_err-path
returns-in_err-path c =
    let item = next_path_at in
    let total = items_at item c.args.count None c.args.bytes.now c.args.at in
    let paths = c.paths.paths.items in
    let before : option_copied c.last.result ≡ last_of None paths =
    rw (c.last.ensures.value, c.deref.ensures.value) (sym (last_of-get paths)) in
    let p = err_from_is_err_and c.from_residual-in_err-path.result c.from_residual-in_err-path.ensures.1 in
    rw (p.1, p.2) (ends item c.args.bytes.now c.args.count total c.in_err-path.field-0.0 paths c.paths.counter c.paths.end
    c.paths-test.true (rw before at c.in_err-path.ensures) c.paths.invariant)

pub paths-preserved : goal.paths-preserved
paths-preserved c =
    let item = next_path_at in
    let total = items_at item c.args.count None c.args.bytes.now c.args.at in
    let paths = c.paths.paths.items in
    let before : option_copied c.last.result ≡ last_of None paths =
    rw (c.last.ensures.value, c.deref.ensures.value) (sym (last_of-get paths)) in
    rw c.in_ok-push.ensures.items (goes_on item c.args.bytes.now c.args.count total paths c.paths.counter c.paths.end
    c.in_ok-path.path c.in_ok-path.after c.paths-test.true (rw before at c.in_ok-path.ensures) c.paths.invariant)

pub returns : goal.returns
returns c =
    let item = next_path_at in
    let total = items_at item c.args.count None c.args.bytes.now c.args.at in
    rw c.from_vec.ensures (is_done item c.args.bytes.now c.args.count total c.paths.paths.items c.paths.counter c.paths.end
    c.paths-test.false c.paths.invariant)
