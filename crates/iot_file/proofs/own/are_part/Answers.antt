use Rattle.std.proofs.Common.{◌<◌, length, true, false, sym, arith}
use Rattle.iot_file.proofs.OwnLaws.{compared, too_long}
use Rattle.iot_file.proofs.own.are_part.Goals as goal

pub returns-then-bytes-first : goal.returns-then-bytes-first
returns-then-bytes-first c = too_long c.args.first.now c.args.bytes.now c.if-bytes-first.true

pub loop-k-preserved : goal.loop-k-preserved
loop-k-preserved c =
    compared c.args.first.now c.args.bytes.now c.loop-k.k (omega (arith, c.loop-k-test.true, c.if-bytes-first.false)) c.loop-k-test.true
    c.is_put.result c.is_put.ensures c.loop-k.invariant true c.if-not-is_put.false

pub returns-then-not-is_put : goal.returns-then-not-is_put
returns-then-not-is_put c =
    sym (compared c.args.first.now c.args.bytes.now c.loop-k.k (omega (arith, c.loop-k-test.true, c.if-bytes-first.false)) c.loop-k-test.true
    c.is_put.result c.is_put.ensures c.loop-k.invariant false c.if-not-is_put.true)
