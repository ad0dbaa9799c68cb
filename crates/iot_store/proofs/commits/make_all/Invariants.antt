use Rattle.iot_store.proofs.CommitsLaws.{AllOnWay}
use Rattle.iot_store.proofs.commits.make_all.Given as goal

abbrev pub invariant-updates : goal.invariant-updates
invariant-updates l = AllOnWay l.updates l.stamp l.update-index l.fn.tree l.tree
