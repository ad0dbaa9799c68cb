use Rattle.iot_text.proofs.TextsLaws.{on_err, leaves_next, leaves_part, leaves_front}
use Rattle.iot_inspect.proofs.ReadsLaws.{one_read}
use Rattle.iot_inspect.proofs.reading.put_reads.Goals as goal

pub returns-in_err-put_read-clause-err : goal.returns-in_err-put_read-clause-err
returns-in_err-put_read-clause-err c =
    on_err _
    (leaves_part c.args.out.now c.loop-read.out c.put_read.new.out _ _ _ _ c.loop-read.invariant.left
    (one_read c.args.reads.now c.loop-read.read-index c.read-item.result c.loop-read.number c.loop-read-test.true c.read-item.is)
    c.in_err-put_read.ensures.err)

pub returns-in_err-number-clause-err : goal.returns-in_err-number-clause-err
returns-in_err-number-clause-err c =
    on_err _
    (leaves_front _ _ _ _
    (leaves_next c.args.out.now c.loop-read.out c.put_read.new.out _ _ _ _ c.loop-read.invariant.left c.in_ok-put_read.ensures.ok
    (one_read c.args.reads.now c.loop-read.read-index c.read-item.result c.loop-read.number c.loop-read-test.true c.read-item.is)))
