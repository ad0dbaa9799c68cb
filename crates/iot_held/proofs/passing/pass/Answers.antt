use Rattle.iot_held.proofs.FittingLaws.{next_passing}
use Rattle.iot_held.proofs.passing.pass.Goals as goal

pub acts-preserved : goal.acts-preserved
acts-preserved c =
    next_passing c.args.tree.now c.acts.tree c.make.new.tree c.args.acts.now c.acts.act-index c.acts.invariant c.act-item.result
    c.acts-test.true c.act-item.is c.in_ok-make.ensures
