use Rattle.iot_held.proofs.OutcomeLaws.{bad_no_tree}
use Rattle.iot_held.proofs.merging.from_parts.Goals as goal

pub returns-in-Err-NoTree-clause-no_tree : goal.returns-in-Err-NoTree-clause-no_tree
returns-in-Err-NoTree-clause-no_tree c =
    λ other tree. bad_no_tree c.args.rows _ c.requires.rising (rw c.in-Err-NoTree.field-0-is at c.in-Err-NoTree.ensures.refused) tree
