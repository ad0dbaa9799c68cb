use Rattle.std.proofs.Common.{subst}
use Rattle.iot_store.specs.Commits.{UpdatesIf}
use Rattle.iot_store.proofs.CommitsLaws.{update_made}
use Rattle.iot_store.proofs.commits.make_all.Goals as goal

pub updates-preserved : goal.updates-preserved
updates-preserved c =
    let made =
    subst (λ b. UpdatesIf b c.update-item.result c.args.stamp c.updates.tree c.make.new.tree) c.if-not-branch.false c.in_ok-make.ensures in
    update_made c.args.updates.now c.args.stamp c.updates.update-index c.args.tree.now c.updates.tree c.updates.invariant
    c.update-item.result c.updates-test.true c.update-item.is c.make.new.tree made.0 made.1
