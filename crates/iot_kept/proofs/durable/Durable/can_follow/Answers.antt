use Rattle.std.proofs.Common.{◌↔◌, IsTrue, IfOk, sym, subst}
use Rattle.iot_tree.specs.Tree.{Nodes}
use Rattle.iot_acts.specs.Traces.{ActsHold}
use Rattle.iot_changes.specs.declared.changes.Change.{Change}
use Rattle.iot_kept.specs.Changes.{CanFollow, RunIs}
use Rattle.iot_kept.specs.Memory.{transactions, durable_state}
use Rattle.iot_kept.proofs.durable.Durable.can_follow.Goals as goal

pub returns-in-Again : goal.returns-in-Again
returns-in-Again c =
    subst (λ (change : Change). IfOk c.parts.result (λ follows. IsTrue follows ↔ CanFollow (durable_state c.args.self.now) change))
    (sym c.in-Again.is)
    (subst (λ (t : Nodes). IfOk c.parts.result (λ follows. IsTrue follows
    ↔ RunIs c.in-Again.number (λ it. ActsHold t it.acts → ⊥) (transactions c.args.self.now.running.items)))
    c.requires.view c.parts.ensures)
