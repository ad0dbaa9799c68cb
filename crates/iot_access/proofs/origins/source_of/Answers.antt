use Rattle.std.proofs.Common.{Some, sym, ap, ◌∙◌, arith}
use Rattle.std.proofs.lemmas.List.{take_rest}
use Rattle.std.proofs.lemmas.Result.{IfOk-weaker}
use Rattle.iot_text.proofs.PathsLaws.{IsPath-drop}
use Rattle.iot_tree.specs.Tree.{Path}
use Rattle.iot_access.specs.Origins.{entries}
use Rattle.iot_access.proofs.EntriesLaws.{grown, found_first, found_here, found_root, found_above}
use Rattle.iot_access.proofs.origins.source_of.Goals as goal

pub above-init : goal.above-init
above-init c = record { within = omega arith; so_far = λ s tells. found_first s c.names-names.result.now }

pub below-requires : goal.below-requires
below-requires c =
    rw (take_rest c.names-names.result.now c.above.above)
    (IsPath-drop c.above.above c.names-names.result.now c.names-names.ensures.valid)

pub returns-in-Some : goal.returns-in-Some
returns-in-Some c =
    IfOk-weaker c.below.result _ _
    (λ source is s tells.
    is ∙ ap (λ (rest : Path). grown rest c.in-Some.origin.now) (take_rest c.names-names.result.now c.above.above)
    ∙ sym (found_here (entries c.args.index.now) s tells c.names-names.result.now c.above.above (c.above.invariant.so_far s tells)
    c.in-Some.origin.now
    (sym c.in-Some.ensures.value))
    ∙ ap s c.names-names.ensures.value)
    c.below.ensures

pub returns-then-above-eq0 : goal.returns-then-above-eq0
returns-then-above-eq0 c = λ s tells.
    ap (λ (k : Path). Some k) c.in_ok-copy.ensures
    ∙ ap (λ (k : Path). Some k) (sym c.names-names.ensures.value)
    ∙ sym (found_root (entries c.args.index.now) s tells c.names-names.result.now c.above.above (c.above.invariant.so_far s tells)
    c.if-above-eq0.true
    (sym c.in_default.ensures.value))
    ∙ ap s c.names-names.ensures.value

pub above-preserved : goal.above-preserved
above-preserved c = record {
  within = omega arith;
  so_far = λ s tells.
      found_above (entries c.args.index.now) s tells c.names-names.result.now c.above.above (c.above.invariant.so_far s tells)
      (omega arith) c.above.invariant.within
      (sym c.in_default.ensures.value);
}
