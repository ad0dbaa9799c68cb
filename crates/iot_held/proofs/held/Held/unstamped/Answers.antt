use Rattle.std.proofs.Common.{◌∙◌, ap}
use Rattle.iot_stamp.specs.Stamps.{nodes_of}
use Rattle.iot_stamp.proofs.StampsLaws.{nodes_with}
use Rattle.iot_held.proofs.held.Held.unstamped.Goals as goal

pub returns-clause-nodes : goal.returns-clause-nodes
returns-clause-nodes c = ap nodes_of c.in_ok-tree.ensures.value ∙ nodes_with (λ k. 0) c.args.tree
