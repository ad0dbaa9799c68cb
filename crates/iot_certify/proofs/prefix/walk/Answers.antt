use Rattle.std.proofs.Common.{◌∙◌, ◌+◌, drop, sym, ap, subst}
use Rattle.iot_tree.specs.Tree.{Nodes}
use Rattle.iot_acts.specs.Traces.{after_update}
use Rattle.iot_certify.proofs.LongestLaws.{Goes, goes_stop, goes_next, never_both}
use Rattle.iot_certify.proofs.prefix.walk.Goals as goal

pub returns-then-not-holds : goal.returns-then-not-holds
returns-then-not-holds c =
    goes_stop c.args.t.now c.current.result.now c.args.acts.now c.acts.act-index c.acts.count c.act-item.result c.acts-test.true
    c.act-item.is
    (subst (λ (u : Nodes). Goes c.args.t.now c.args.acts.now u (drop c.acts.act-index c.args.acts.now) c.acts.count)
    (sym c.current.ensures) c.acts.invariant.0)
    (never_both c.current.result.now c.act-item.result c.holds.result c.if-not-holds.true c.holds.ensures)

pub acts-preserved : goal.acts-preserved
acts-preserved c =
    let both = c.holds.ensures.0 c.if-not-holds.false in (
      subst (λ (u : Nodes). Goes c.args.t.now c.args.acts.now u (drop (c.acts.act-index + 1) c.args.acts.now) (c.acts.count + 1))
          (ap (λ (u : Nodes). after_update u c.act-item.result.update) c.current.ensures ∙ sym c.in_ok-changed.ensures)
          (goes_next c.args.t.now c.current.result.now c.args.acts.now c.acts.act-index c.acts.count c.act-item.result c.acts-test.true
          c.act-item.is
          (subst (λ (u : Nodes). Goes c.args.t.now c.args.acts.now u (drop c.acts.act-index c.args.acts.now) c.acts.count)
          (sym c.current.ensures) c.acts.invariant.0)
          both.0 both.1),
      ap (λ n. n + 1) c.acts.invariant.1,
    )
