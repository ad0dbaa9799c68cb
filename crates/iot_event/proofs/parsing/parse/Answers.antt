use Rattle.std.proofs.Common.{◌≡◌, ◌++◌, [], ◌∷◌, List, Option, Some, None, Result, Ok, Err, IsErrAnd, IfOk, IfErr, sym, subst, ap, ◌∙◌}
use Rattle.std.proofs.Common.{arith, rules, append-nil}
use Rattle.std.specs.Option.{option_to_list}
use Rattle.iot_lines.specs.Lines.{lines}
use Rattle.iot_event.specs.Results.{scope_of, HasFault}
use Rattle.iot_event.specs.declared.event.Event.{Event}
use Rattle.iot_event.specs.declared.fault.EventFault.{EventFault}
use Rattle.iot_event.proofs.DeclarationsLaws.{are_declared}
use Rattle.iot_event.proofs.EventsLaws.{one_more, none_left, stopped, only_outcome}
use Rattle.iot_event.proofs.parsing.parse.Goals as goal

pushed : (old new : List Event) (event : Event) (found : Option Event) → new ≡ old ++ event ∷ [] → found ≡ Some event
    → new ≡ old ++ option_to_list found
pushed old new event found push is = push ∙ ap (λ (o : Option Event). old ++ option_to_list o) (sym is)

same : (old : List Event) (found : Option Event) → found ≡ None → old ≡ old ++ option_to_list found
same old found is = sym (append-nil old) ∙ ap (λ (o : Option Event). old ++ option_to_list o) (sym is)

pub loop-line-preserved-in_ok-push : goal.loop-line-preserved-in_ok-push
loop-line-preserved-in_ok-push c = record {
  goes_on =
      one_more c.args.input.now c.loop-line.events.items (lines c.loop-line.rest.now) c.in-Some.line.now (lines c.in-Some.later.now)
      (scope_of c.loop-line.declared) c.loop-line.number c.loop-line.invariant.goes_on c.in-Some.ensures.first
      _ c.in_ok-event.field-0.event _ (lines c.in_ok-event.field-0.later.now) c.in_ok-event.field-0.number c.in_ok-event.ensures.line
      (pushed c.loop-line.events.items _ c.in-Some-event.event _ c.in_ok-push.ensures.items c.in-Some-event.is);
  few = omega (arith, c.in_ok-event.ensures.number, c.in-Some.ensures.shorter, c.loop-line.invariant.few);
}

pub loop-line-preserved : goal.loop-line-preserved
loop-line-preserved c = record {
  goes_on =
      one_more c.args.input.now c.loop-line.events.items (lines c.loop-line.rest.now) c.in-Some.line.now (lines c.in-Some.later.now)
      (scope_of c.loop-line.declared) c.loop-line.number c.loop-line.invariant.goes_on c.in-Some.ensures.first
      _ c.in_ok-event.field-0.event _ (lines c.in_ok-event.field-0.later.now) c.in_ok-event.field-0.number c.in_ok-event.ensures.line
      (same c.loop-line.events.items _ c.in_default-event.is);
  few = omega (arith, c.in_ok-event.ensures.number, c.in-Some.ensures.shorter, c.loop-line.invariant.few);
}

pub returns-clause-events : goal.returns-clause-events
returns-clause-events c =
    none_left c.args.input.now c.loop-line.events.items c.loop-line.rest.now (scope_of c.loop-line.declared) c.loop-line.number
    c.loop-line.invariant.goes_on (c.in_default.ensures.none.0 (search rules))

pub returns-clause-declared : goal.returns-clause-declared
returns-clause-declared c = are_declared c.args.input.now c.loop-line.events.items (returns-clause-events c)

-- a fault that was handed on
handed : {X : Type 0} (result : Result X EventFault) (Is Has : EventFault → Type 0) → IsErrAnd result Is
    → ((fault : EventFault) → Is fault → Has fault) → IfErr result Has
handed (Ok x) Is Has is has = tt
handed (Err fault) Is Has is has = has fault is

pub returns-in_err-event-clause-fault : goal.returns-in_err-event-clause-fault
returns-in_err-event-clause-fault c =
    let has : HasFault c.args.input.now c.in_err-event.field-0.0 =
    stopped c.args.input.now c.loop-line.events.items (lines c.loop-line.rest.now) c.in-Some.line.now (lines c.in-Some.later.now)
    (scope_of c.loop-line.declared) c.loop-line.number c.loop-line.invariant.goes_on c.in-Some.ensures.first
    c.in_err-event.field-0.0 c.in_err-event.ensures.line in
    handed c.from_residual.result _ (HasFault c.args.input.now) c.from_residual.ensures.1
    (λ other is.
    let same : c.in_err-event.field-0.0 ≡ other = sym is in
    subst (λ (f : EventFault). HasFault c.args.input.now f) same has)

pub returns-clause-only : goal.returns-clause-only
returns-clause-only c = λ outcome is. only_outcome c.args.input.now (Ok c.loop-line.events) outcome (returns-clause-events c) tt is

no_events : {X : Type 0} (result : Result X EventFault) (Is : EventFault → Type 0) (Has : X → Type 0) → IsErrAnd result Is → IfOk result Has
no_events (Ok x) Is Has is = absurd is
no_events (Err fault) Is Has is = tt

pub returns-in_err-event-clause-only : goal.returns-in_err-event-clause-only
returns-in_err-event-clause-only c = λ outcome is.
    only_outcome c.args.input.now c.from_residual.result outcome
    (no_events c.from_residual.result _ _ c.from_residual.ensures.1)
    (returns-in_err-event-clause-fault c) is
