use Rattle.std.proofs.Common.{◌≡◌, ◌≤◌, Option, take, drop, length}
use Rattle.iot_tree.specs.Tree.{Path}
use Rattle.iot_access.specs.Entries.{Tells}
use Rattle.iot_access.specs.Origins.{entries}
use Rattle.iot_access.proofs.EntriesLaws.{grown}
use Rattle.iot_access.proofs.origins.source_of.Given as goal

abbrev pub invariant-above : goal.invariant-above
invariant-above l =
    record {
      within : l.above ≤ length l.names;
      so_far : (s : Path → Option Path) → Tells (entries l.index) s → s l.names ≡ grown (drop l.above l.names) (s (take l.above l.names));
    }

abbrev pub decreases-above : goal.decreases-above
decreases-above l = l.above
