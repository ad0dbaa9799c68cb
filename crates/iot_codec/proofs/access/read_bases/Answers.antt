use Rattle.std.proofs.lemmas.Result.{err_from_is_err_and}
use Rattle.iot_codec.proofs.BasesLaws.{begin, goes_on_even, number_fault, ends_at_fault, are_read}
use Rattle.iot_codec.proofs.access.read_bases.Goals as goal

pub returns-in_err-count : goal.returns-in_err-count
returns-in_err-count c =
    let p = err_from_is_err_and c.from_residual.result c.from_residual.ensures.1 in
    rw (p.1, p.2) (number_fault c.args.bytes.now c.args.at c.in_err-count.field-0.0.at c.in_err-count.ensures)

pub bases-init : goal.bases-init
bases-init c = rw (c.new-reads.ensures, c.new-places.ensures) (begin c.args.bytes.now c.in_ok-count.count c.in_ok-count.at)

pub returns-in_err-base : goal.returns-in_err-base
returns-in_err-base c =
    let p = err_from_is_err_and c.from_residual-in_err-base.result c.from_residual-in_err-base.ensures.1 in
    rw (p.1, p.2)
    (ends_at_fault c.args.bytes.now c.args.at c.in_ok-count.count c.in_ok-count.at c.in_ok-count.ensures c.in_err-base.field-0.0
    c.bases.reads c.bases.places c.bases.counter c.bases.end c.bases-test.true c.in_err-base.ensures c.bases.invariant)

pub bases-preserved : goal.bases-preserved
bases-preserved c =
    rw (c.in_ok-push.ensures.ok, c.in_ok-push-2.ensures.ok)
    (goes_on_even c.args.bytes.now c.in_ok-count.count c.in_ok-count.at c.bases.reads c.bases.places c.bases.counter c.bases.end
    c.in_ok-base.base c.in_ok-base.place c.in_ok-base.after c.bases-test.true c.in_ok-base.ensures c.bases.invariant)

pub returns : goal.returns
returns c =
    are_read c.args.bytes.now c.args.at c.in_ok-count.count c.in_ok-count.at c.in_ok-count.ensures c.bases.reads c.bases.places
    c.bases.counter c.bases.end c.bases-test.false c.bases.invariant
