use Rattle.iot_gen.specs.Generated.{last_lines}
use Rattle.iot_gen.proofs.TextsLaws.{some_more}
use Rattle.iot_gen.proofs.lines.put_lasts.Goals as goal

pub loop-client-preserved : goal.loop-client-preserved
loop-client-preserved c =
    some_more last_lines c.args.clients.now c.loop-client.client-index _ _ _ c.loop-client-test.true c.in_ok-put_last.ensures
    c.loop-client.invariant
