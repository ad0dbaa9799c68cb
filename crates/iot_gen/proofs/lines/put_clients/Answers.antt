use Rattle.iot_gen.specs.Generated.{client_line}
use Rattle.iot_gen.proofs.TextsLaws.{one_more}
use Rattle.iot_gen.proofs.lines.put_clients.Goals as goal

pub loop-client-preserved : goal.loop-client-preserved
loop-client-preserved c =
    one_more client_line c.args.clients.now c.loop-client.client-index _ _ _ c.loop-client-test.true c.in_ok-put_client.ensures
    c.loop-client.invariant
