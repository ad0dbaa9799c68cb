use Rattle.iot_kept.proofs.ClassLaws.{one_second}
use Rattle.iot_kept.proofs.running.make_second.Goals as goal

pub running-preserved : goal.running-preserved
running-preserved c =
    one_second c.args.running.now c.running.running c.running.it-index c.it-item.result c.running-test.true
    c.running.invariant c.it-item.is
