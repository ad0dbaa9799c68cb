use Rattle.std.proofs.Common.{◌≤◌, ◌-◌, length}
use Rattle.std.specs.List.{prefix_len}
use Rattle.iot_tree.specs.Questions.{is_within}
use Rattle.iot_tree.proofs.children.half_within.Given as goal

abbrev pub invariant-doubling : goal.invariant-doubling
invariant-doubling l = l.known ≤ prefix_len (is_within l.names) l.rows

abbrev pub decreases-doubling : goal.decreases-doubling
decreases-doubling l = length l.rows - l.known
