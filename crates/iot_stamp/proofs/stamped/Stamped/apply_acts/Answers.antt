use Rattle.iot_stamp.proofs.ActingLaws.{act_fits, act_made}
use Rattle.iot_stamp.proofs.stamped.Stamped.apply_acts.Goals as goal

pub apply_if_any-requires : goal.apply_if_any-requires
apply_if_any-requires c =
    act_fits c.args.acts.now c.args.stamp c.acts.act-index c.args.self.now c.acts.self c.acts.invariant c.act-item.result
    c.acts-test.true c.act-item.is

pub acts-preserved : goal.acts-preserved
acts-preserved c =
    act_made c.args.acts.now c.args.stamp c.acts.act-index c.args.self.now c.acts.self c.acts.invariant c.act-item.result
    c.acts-test.true c.act-item.is c.apply_if_any.new.self c.in_ok-apply_if_any.ensures
