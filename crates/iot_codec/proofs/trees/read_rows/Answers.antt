use Rattle.std.proofs.Common.{◌≡◌, sym}
use Rattle.std.specs.Prelude.{None}
use Rattle.std.specs.Option.{option_copied}
use Rattle.std.proofs.lemmas.Result.{err_from_is_err_and}
use Rattle.iot_views.specs.Decoders.{items_at}
use Rattle.iot_views.specs.Decoding.{row_at}
use Rattle.iot_views.proofs.DecodersLaws.{goes_on, is_done, last_of, last_of-get}
use Rattle.iot_codec.proofs.FaultsLaws.{ends}
use Rattle.iot_codec.proofs.trees.read_rows.Goals as goal

pub returns-in_err-row : goal.returns-in_err-row
returns-in_err-row c =
    let item = row_at in
    let total = items_at item c.args.count None c.args.bytes.now c.args.at in
    let rows = c.rows.rows.items in
    let before : option_copied c.last.result ≡ last_of None rows =
    rw (c.last.ensures.value, c.deref.ensures.value) (sym (last_of-get rows)) in
    let p = err_from_is_err_and c.from_residual-in_err-row.result c.from_residual-in_err-row.ensures.1 in
    rw (p.1, p.2) (ends item c.args.bytes.now c.args.count total c.in_err-row.field-0.0 rows c.rows.counter c.rows.end
    c.rows-test.true (rw before at c.in_err-row.ensures) c.rows.invariant)

pub rows-preserved : goal.rows-preserved
rows-preserved c =
    let item = row_at in
    let total = items_at item c.args.count None c.args.bytes.now c.args.at in
    let rows = c.rows.rows.items in
    let before : option_copied c.last.result ≡ last_of None rows =
    rw (c.last.ensures.value, c.deref.ensures.value) (sym (last_of-get rows)) in
    rw c.in_ok-push.ensures.items (goes_on item c.args.bytes.now c.args.count total rows c.rows.counter c.rows.end
    c.in_ok-row.row c.in_ok-row.after c.rows-test.true (rw before at c.in_ok-row.ensures) c.rows.invariant)

pub returns : goal.returns
returns c =
    let item = row_at in
    let total = items_at item c.args.count None c.args.bytes.now c.args.at in
    rw c.from_vec.ensures (is_done item c.args.bytes.now c.args.count total c.rows.rows.items c.rows.counter c.rows.end
    c.rows-test.false c.rows.invariant)
