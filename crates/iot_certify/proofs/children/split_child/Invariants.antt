use Rattle.std.proofs.Common.{◌≡◌, drop}
use Rattle.std.specs.List.{filter_map}
use Rattle.iot_tree.specs.Questions.{child_of}
use Rattle.iot_certify.proofs.children.split_child.Given as goal

abbrev pub invariant-rows : goal.invariant-rows
invariant-rows l = filter_map (child_of l.names) l.rows ≡ filter_map (child_of l.names) (drop l.at l.rows)
