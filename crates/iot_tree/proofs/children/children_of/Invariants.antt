use Rattle.std.proofs.Common.{◌≡◌, ◌++◌, length}
use Rattle.std.specs.List.{filter_map}
use Rattle.iot_tree.specs.Questions.{child_of}
use Rattle.iot_tree.specs.Rows.{Rising}
use Rattle.iot_tree.proofs.children.children_of.Given as goal

-- those found, in front of those that are left
abbrev pub invariant-names : goal.invariant-names
invariant-names l = Rising l.left × (l.children ++ filter_map (child_of l.names) l.left ≡ filter_map (child_of l.names) l.rows)

abbrev pub decreases-names : goal.decreases-names
decreases-names l = length l.left
