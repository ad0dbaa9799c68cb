use Rattle.iot_queue.specs.declared.items.Item.{Item}
use Rattle.iot_acts.specs.Traces.{after_acts}
use Rattle.iot_kept.specs.Reading.{ActsSuit}
use Rattle.iot_kept.proofs.TurnsLaws.{OnWay}
use Rattle.iot_kept.proofs.checks.make_each.Given as goal

abbrev pub invariant-items : goal.invariant-items
invariant-items l =
    OnWay (λ t (item : Item). ActsSuit item.acts t) (λ t (item : Item). after_acts t item.acts) l.items l.initial.tree l.item-index l.tree
