use Rattle.iot_stamp.proofs.ActingLaws.{update_fits, update_made}
use Rattle.iot_stamp.proofs.stamped.Stamped.apply_all.Goals as goal

pub apply-requires : goal.apply-requires
apply-requires c =
    update_fits c.args.updates.now c.args.stamp c.updates.update-index c.args.self.now c.updates.self c.updates.invariant
    c.update-item.result c.updates-test.true c.update-item.is

pub updates-preserved : goal.updates-preserved
updates-preserved c =
    update_made c.args.updates.now c.args.stamp c.updates.update-index c.args.self.now c.updates.self c.updates.invariant
    c.update-item.result c.updates-test.true c.update-item.is c.apply.new.self c.in_ok-apply.ensures.ok
