use Rattle.std.proofs.Common.{◌≡◌, ◌↔◌, ◌∙◌, IsTrue, ap, subst, sym}
use Rattle.iot_access.specs.Access.{FitInTurn}
use Rattle.iot_tree.specs.Tree.{Nodes}
use Rattle.iot_stamp.specs.Stamps.{nodes_of}
use Rattle.iot_stamp.proofs.PairingLaws.{nodes_paired}
use Rattle.iot_stamp.proofs.stamped.Stamped.fit_in_turn.Goals as goal

pub returns-clause-fit : goal.returns-clause-fit
returns-clause-fit c =
    let nodes : nodes_of c.args.self.now ≡ c.tree.inside.tree =
    sym (ap nodes_of (c.tree.view_is ∙ c.replace.ensures.value)) ∙ nodes_paired c.tree.inside.tree c.tree.inside.stamps.items in
    subst (λ (t : Nodes). IsTrue c.in_ok-fit.fit ↔ FitInTurn t c.args.updates.now) (sym nodes) c.in_ok-fit.ensures.fit
