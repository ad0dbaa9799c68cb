use Rattle.std.proofs.Common.{Option, subst}
use Rattle.std.specs.Prelude.{IfSome}
use Rattle.iot_audit.specs.Differences.{DifferFirst}
use Rattle.iot_tree.specs.Tree.{Path}
use Rattle.iot_audit.proofs.auditing.compare.Goals as goal

pub returns-in-Some : goal.returns-in-Some
returns-in-Some c = λ events are. (
  c.in_ok-tree.tree,
  c.in_ok-tree.ensures events are,
  subst (λ (found : Option Path). IfSome found (DifferFirst c.in_ok-tree.tree c.args.image.now.tree)) c.in-Some.is c.in_ok-path.ensures.some,
)
