use Rattle.std.proofs.Common.{arith}
use Rattle.iot_app.proofs.PartsLaws.{over_script, cut_script, over_image, has_parts}
use Rattle.iot_app.proofs.parts.parts_of.Goals as goal

pub returns-then-size-clause-none : goal.returns-then-size-clause-none
returns-then-size-clause-none c =
    let found = c.in-Some.ensures.cases in
    over_script c.args.input.now c.in-Some.digits.now c.in-Some.rest.now c.from_be_bytes-size.result found.0 found.1
    (omega (arith, found.2)) c.from_be_bytes-size.ensures c.if-size.true

pub returns-then-rest-size-clause-none : goal.returns-then-rest-size-clause-none
returns-then-rest-size-clause-none c =
    let found = c.in-Some.ensures.cases in
    cut_script c.args.input.now c.in-Some.digits.now c.in-Some.rest.now c.from_be_bytes-size.result found.0 found.1
    (omega (arith, found.2)) c.from_be_bytes-size.ensures (omega (arith, c.if-size.false)) c.if-rest-size.true

pub returns-then-image-gt-IMAGE_LIMIT-clause-none : goal.returns-then-image-gt-IMAGE_LIMIT-clause-none
returns-then-image-gt-IMAGE_LIMIT-clause-none c =
    let found = c.in-Some.ensures.cases in
    over_image c.args.input.now c.in-Some.digits.now c.in-Some.rest.now c.from_be_bytes-size.result found.0 found.1
    (omega (arith, found.2)) c.from_be_bytes-size.ensures (omega (arith, c.if-size.false))
    (omega (arith, c.split_at.ensures.back_len, c.if-rest-size.false, c.if-image-gt-IMAGE_LIMIT.true))

pub returns-clause-parts : goal.returns-clause-parts
returns-clause-parts c =
    let found = c.in-Some.ensures.cases in
    has_parts c.args.input.now c.in-Some.digits.now c.in-Some.rest.now c.from_be_bytes-size.result found.0 found.1
    (omega (arith, found.2)) c.from_be_bytes-size.ensures c.split_at.result.0.now c.split_at.result.1.now
    (λ i. (c.type_inv.input i).fits) c.split_at.ensures.front c.split_at.ensures.back (omega (arith, c.if-size.false))
    (omega (arith, c.if-rest-size.false)) (omega (arith, c.if-image-gt-IMAGE_LIMIT.false))
