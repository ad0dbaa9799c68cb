use Rattle.std.proofs.Common.{◌≡◌, ◌+◌, ◌++◌, length}
use Rattle.iot_prune.specs.Joins.{joined}
use Rattle.iot_prune.proofs.joining.joined.Given as goal

abbrev pub invariant-paths : goal.invariant-paths
invariant-paths l = l.paths ++ joined l.first.items l.second.items ≡ joined l.fn.first l.fn.second

abbrev pub decreases-paths : goal.decreases-paths
decreases-paths l = length l.first.items + length l.second.items
