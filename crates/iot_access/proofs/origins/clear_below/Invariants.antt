use Rattle.std.proofs.Common.{◌≡◌}
use Rattle.iot_text.specs.Paths.{IsBelow}
use Rattle.iot_tree.specs.Tree.{Path}
use Rattle.iot_access.specs.Origins.{entries, count_within}
use Rattle.iot_access.proofs.origins.clear_below.Given as goal

abbrev pub invariant-below : goal.invariant-below
invariant-below l = (k : Path) → ¬ IsBelow k l.path.items → entries l.index k ≡ entries l.fn.index k

abbrev pub decreases-below : goal.decreases-below
decreases-below l = count_within l.path.items l.index.entries
