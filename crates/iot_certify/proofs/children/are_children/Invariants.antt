use Rattle.std.specs.Prelude.{◌≡◌, ◌↔◌, length}
use Rattle.std.specs.List.{filter_map}
use Rattle.iot_tree.specs.Questions.{child_of}
use Rattle.iot_tree.specs.Rows.{Rising}
use Rattle.iot_certify.proofs.children.are_children.Given as goal

-- what is left of both is the same exactly if both are
abbrev pub invariant-names : goal.invariant-names
invariant-names l =
    Rising l.left × ((filter_map (child_of l.names) l.left ≡ l.expected) ↔ (filter_map (child_of l.names) l.rows ≡ l.fn.children))

abbrev pub decreases-names : goal.decreases-names
decreases-names l = length l.left
