use Rattle.iot_kept.proofs.PlaceLaws.{one_past}
use Rattle.iot_kept.proofs.running.leave_view.Goals as goal

pub running-preserved : goal.running-preserved
running-preserved c =
    one_past c.args.running.now c.running.running c.running.it-index c.it-item.result c.running-test.true
    c.running.invariant c.it-item.is
