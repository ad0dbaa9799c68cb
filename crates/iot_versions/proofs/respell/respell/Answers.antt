use Rattle.std.proofs.Common.{arith}
use Rattle.iot_versions.proofs.RespellingLaws.{anew, none_first, taken}
use Rattle.iot_versions.proofs.respell.respell.Goals as goal

pub returns-in_default : goal.returns-in_default
returns-in_default c =
    none_first c.args.bytes.now c.args.out.now c.args.out.now (omega arith) (rw c.in_default.is at c.in_ok-rows.ensures)

pub slice_bounds-append-count : goal.slice_bounds-append-count
slice_bounds-append-count c =
    (taken c.args.bytes.now c.in-Some.rows c.in-Some.end (λ i. omega (arith, c.type_inv.bytes i))
    (rw c.in-Some.is at c.in_ok-rows.ensures)).place.within

pub returns : goal.returns
returns c =
    anew c.args.bytes.now c.args.out.now c.put_rows.new.out c.append.new.self c.in-Some.rows c.as_slice.result.now c.in-Some.end
    (λ i. omega (arith, c.type_inv.bytes i)) (rw c.in-Some.is at c.in_ok-rows.ensures) c.as_slice.ensures c.in_ok-put_rows.ensures
    c.in_ok-append.ensures.ok

pub slice_bounds-append-start : goal.slice_bounds-append-start
slice_bounds-append-start c =
    (taken c.args.bytes.now c.in-Some.rows c.in-Some.end (λ i. omega (arith, c.type_inv.bytes i))
    (rw c.in-Some.is at c.in_ok-rows.ensures)).place.within
