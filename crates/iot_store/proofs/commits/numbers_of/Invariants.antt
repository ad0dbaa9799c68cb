use Rattle.iot_store.proofs.NumbersLaws.{IndexOnWay}
use Rattle.iot_store.proofs.commits.numbers_of.Given as goal

abbrev pub invariant-labels : goal.invariant-labels
invariant-labels l = IndexOnWay l.labels l.place l.numbers
