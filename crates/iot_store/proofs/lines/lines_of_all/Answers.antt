use Rattle.iot_store.proofs.LinesLaws.{lines_end, lines_next}
use Rattle.iot_store.proofs.lines.lines_of_all.Goals as goal

pub loop-body-preserved : goal.loop-body-preserved
loop-body-preserved c = λ version are.
    lines_next version c.args.records c.loop-body.body-iterator c.loop-body.recorded _ c.in-Some.body.now _ _
    (c.loop-body.invariant version are) c.in-Some.ensures.steps (c.in_ok-lines_of.ensures version) c.in_ok-push.ensures.ok

pub returns : goal.returns
returns c = λ version are.
    lines_end version c.args.records c.loop-body.body-iterator c.loop-body.recorded (c.loop-body.invariant version are)
    c.in-None.ensures.steps.0
