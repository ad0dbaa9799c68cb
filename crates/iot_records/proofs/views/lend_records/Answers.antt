use Rattle.std.proofs.Common.{arith}
use Rattle.iot_records.proofs.RecordsLaws.{left_few, left_next, left_count, left_cut, left_shut}
use Rattle.iot_records.proofs.views.lend_records.Goals as goal

pub overflow_add-count : goal.overflow_add-count
overflow_add-count c = omega (arith, left_few _ _ _ c.loop-after.invariant, c.requires.limit)

pub loop-after-preserved : goal.loop-after-preserved
loop-after-preserved c =
    left_next _ _ _ c.loop-after.invariant c.in-Some.field-0-0.now c.in-Some.after.now c.in-Some.ensures.some c.in-Some.ensures.more

pub returns-then-rest-clause-err : goal.returns-then-rest-clause-err
returns-then-rest-clause-err c =
    left_cut _ _ _ c.loop-after.invariant c.in_default.ensures.none (omega (arith, c.requires.limit)) c.args.at c.if-rest.true

pub returns-clause-ok : goal.returns-clause-ok
returns-clause-ok c =
    left_shut _ _ _ c.loop-after.invariant c.in_default.ensures.none (omega (arith, c.requires.limit)) c.args.at c.if-rest.false

pub returns-clause-count : goal.returns-clause-count
returns-clause-count c = left_count _ _ _ c.loop-after.invariant c.in_default.ensures.none (omega (arith, c.requires.limit))
