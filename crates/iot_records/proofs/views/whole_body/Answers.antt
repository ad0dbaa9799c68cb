use Rattle.std.proofs.Common.{arith}
use Rattle.iot_records.proofs.RecordsLaws.{whole_is, not_whole}
use Rattle.iot_records.proofs.views.whole_body.Goals as goal

pub returns-then-size-rest-clause-body : goal.returns-then-size-rest-clause-body
returns-then-size-rest-clause-body c =
    let found = c.in_ok-number.ensures.cases in
    whole_is c.args.bytes.now c.in_ok-number.number.now c.in_ok-number.rest.now c.from_be_bytes-size.result found.0 found.1
    (omega (arith, found.2)) c.from_be_bytes-size.ensures (λ i. (c.type_inv.bytes i).fits) c.if-size-rest.true

pub returns-else-size-rest-clause-none : goal.returns-else-size-rest-clause-none
returns-else-size-rest-clause-none c =
    let found = c.in_ok-number.ensures.cases in
    not_whole c.args.bytes.now c.in_ok-number.number.now c.in_ok-number.rest.now c.from_be_bytes-size.result found.0 found.2
    c.from_be_bytes-size.ensures c.if-size-rest.false
