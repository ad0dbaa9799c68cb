use Rattle.std.proofs.Common.{◌∙◌, List, sym, ap, subst}
use Rattle.std.specs.List.{AllByRecursion}
use Rattle.iot_kept.specs.Memory.{durable_state, transactions, classes_of, second, AreSecond, StandsOn}
use Rattle.iot_kept.specs.States.{Transaction}
use Rattle.iot_kept.specs.declared.running.Running.{Running}
use Rattle.iot_kept.proofs.ClassLaws.{second_transactions, second_classes, second_stand}
use Rattle.iot_kept.proofs.PlaceLaws.{each_written}
use Rattle.iot_kept.proofs.durable.Durable.all_second.Goals as goal

pub returns-clause-state : goal.returns-clause-state
returns-clause-state c =
    let before = c.args.self.now.running in
    let is = each_written second before c.deref_mut.result.now c.make_second.new.running c.make_second.ensures c.deref_mut.ensures.value
    c.deref_mut.ensures.len in
    ap (λ (running : List Transaction). record (durable_state c.args.self.now) { running = running })
    (ap transactions is ∙ second_transactions before.items)

pub returns-clause-class : goal.returns-clause-class
returns-clause-class c =
    let before = c.args.self.now.running in
    let is = each_written second before c.deref_mut.result.now c.make_second.new.running c.make_second.ensures c.deref_mut.ensures.value
    c.deref_mut.ensures.len in
    subst (λ (running : List Running). AreSecond (classes_of running)) (sym is) (second_classes before.items)

pub returns-clause-sees : goal.returns-clause-sees
returns-clause-sees c = λ t all.
    let before = c.args.self.now.running in
    let is = each_written second before c.deref_mut.result.now c.make_second.new.running c.make_second.ensures c.deref_mut.ensures.value
    c.deref_mut.ensures.len in
    subst (AllByRecursion (StandsOn t)) (sym is) (second_stand t before.items all)
