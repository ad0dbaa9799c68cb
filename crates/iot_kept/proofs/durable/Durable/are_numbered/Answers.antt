use Rattle.std.proofs.Common.{◌↔◌, ◌∙◌, ◌++◌, ℕ, List, None, IsTrue, map, ap, subst}
use Rattle.std.proofs.lemmas.List.Sorted.{IsNonDecreasingBy-from_sort}
use Rattle.iot_kept.specs.Bodies.{tids}
use Rattle.iot_kept.specs.Memory.{durable_state}
use Rattle.iot_kept.specs.Reading.{InOrder}
use Rattle.iot_kept.specs.declared.running.Running.{Running}
use Rattle.iot_kept.proofs.OrderLaws.{in_order, out_of_order, run_tids}
use Rattle.iot_kept.proofs.durable.Durable.are_numbered.Goals as goal

pub returns-then-not-do_rise : goal.returns-then-not-do_rise
returns-then-not-do_rise c =
    let run = c.in_ok-run.ensures ∙ ap (map (λ (it : Running). it.tid)) c.as_slice.ensures.value
    ∙ run_tids c.args.self.now.running.items in
    out_of_order c.do_rise.result (durable_state c.args.self.now) c.as_slice-2.result.now (c.as_slice-2.ensures.value ∙ run)
    c.if-not-do_rise.true c.do_rise.ensures

pub returns : goal.returns
returns c =
    let state = durable_state c.args.self.now in
    let run = c.in_ok-run.ensures ∙ ap (map (λ (it : Running). it.tid)) c.as_slice.ensures.value
    ∙ run_tids c.args.self.now.running.items in
    in_order c.do_rise-2.result state c.in_ok-numbers.numbers.items c.sort.new.self.items
    (subst (λ (ns : List ℕ). InOrder state.last ns None) (c.as_slice-2.ensures.value ∙ run) (c.do_rise.ensures.0 c.if-not-do_rise.false))
    (c.in_ok-numbers.ensures ∙ (λ i. tids (c.items.ensures i) ++ (c.as_slice-3.ensures.value ∙ run) i)) c.sort.ensures.permutation
    (IsNonDecreasingBy-from_sort (λ (n : ℕ). n) c.sort.new.self.items c.in_ok-sort.ensures.sorted)
    (subst (λ (ns : List ℕ). IsTrue c.do_rise-2.result ↔ InOrder state.last ns None) c.as_slice-4.ensures.value c.do_rise-2.ensures)
