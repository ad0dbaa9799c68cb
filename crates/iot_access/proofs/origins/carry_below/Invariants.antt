use Rattle.iot_access.specs.Origins.{entries, count_within}
use Rattle.iot_access.proofs.OriginsLaws.{Carrying}
use Rattle.iot_access.proofs.origins.carry_below.Given as goal

abbrev pub invariant-below : goal.invariant-below
invariant-below l = Carrying (entries l.fn.index) (entries l.index) l.from.items l.to

abbrev pub decreases-below : goal.decreases-below
decreases-below l = count_within l.from.items l.index.entries
