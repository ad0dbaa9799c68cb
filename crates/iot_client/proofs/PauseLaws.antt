-- What the interpreter of the transaction with a number tells of it.
use Rattle.std.proofs.Common.{◌≡◌, ℕ, ◌≤◌, Bool, true, false, Option, Some, None, slice_index_or, sym, ap, subst, ◌∙◌}
use Rattle.std.specs.Prelude.{IsSome}
use Rattle.iot_tree.specs.declared.limits.TheConstants.{ACT_LIMIT}
use Rattle.iot_lang.specs.Code.{Code}
use Rattle.iot_exec.specs.Places.{is_over}
use Rattle.iot_exec.specs.Execs.{place, act_count}
use Rattle.iot_kept.specs.States.{Transaction, numbered}
use Rattle.iot_client.specs.Calls.{StepIs, is_over_if_any, may_end_if_any, live_numbered, unended, not_at_end}
use Rattle.iot_client.specs.Doing.{GoesOn, IsAt, IsSoOfOne}
use Rattle.iot_client.specs.Ties.{code_in, IsRun, AreBegun, AreRuns, state_of, classes_in, live_of}
use Rattle.iot_client.specs.declared.client.Client.{Client}
use Rattle.iot_client.specs.declared.interpreter.Interpreter.{Interpreter}
use Rattle.iot_client.specs.declared.steps.Step.TheVariants as steps
use Rattle.iot_client.proofs.PlaceLaws.{Here, here_in, so_here}
use Rattle.iot_client.proofs.StepsLaws.{at_end, at_limit, goes_on, is_over_by, known, over_here, unended_here}

module _ {D : Type 0} (client : Client D) (number at : ℕ) (runs : AreRuns (state_of client).running client.interpreters.items)
    (is : IsAt number (state_of client).running at) (o : Option Interpreter)
    (there : o ≡ slice_index_or client.interpreters.items at o) where
  h : Here number at (state_of client).running (classes_in client) client.interpreters.items
  h = here_in client number at runs is

  same : o ≡ h.interpreter
  same = there ∙ h.interpreter_at o

  -- one that was begun since the start has one
  pub not_begun : o ≡ None → AreBegun (live_of client) → ⊥
  not_begun none begun =
      let some : IsSome (code_in None) = subst (λ (i : Option Interpreter). IsSome (code_in i)) (sym same ∙ none) (h.begun begun) in
      cc

  -- one without has not ended
  pub none_over : o ≡ None → false
      ≡ is_over_if_any (numbered number (state_of client).running) (live_numbered number (state_of client).running (live_of client))
  none_over none =
      ap is_over_by (sym none ∙ same)
      ∙ sym (over_here number at (state_of client).running (classes_in client) client.interpreters.items h)

  module _ (i : Interpreter) (some : o ≡ Some i) where
    -- whether it has ended, and whether it may be ended
    pub over_there : is_over (place i.exec)
        ≡ is_over_if_any (numbered number (state_of client).running) (live_numbered number (state_of client).running (live_of client))
    over_there =
        ap is_over_by (sym some ∙ same)
        ∙ sym (over_here number at (state_of client).running (classes_in client) client.interpreters.items h)

    pub unended_there : not_at_end (is_over (place i.exec)) (act_count i.exec)
        ≡ unended (numbered number (state_of client).running)
        (may_end_if_any (numbered number (state_of client).running) (live_numbered number (state_of client).running (live_of client)))
    unended_there =
        unended_here number at (state_of client).running (classes_in client) client.interpreters.items h i (sym same ∙ some)

    so_there : (Is : Transaction → Bool → Code → Type 0) → (IsRun h.it i → Is h.it h.first i.script.value)
        → IsSoOfOne Is number (state_of client).running (live_of client)
    so_there Is so =
        so_here number at (state_of client).running (classes_in client) client.interpreters.items h Is
        (known h.it h.interpreter i (Is h.it h.first) (sym same ∙ some) h.run so)

    -- why no act is done
    pub ends_there : (acts : ℕ) → acts ≡ act_count i.exec → is_over (place i.exec) ≡ true
        → IsSoOfOne (λ it first code. StepIs client it first code (steps.AtEnd acts) client) number (state_of client).running
        (live_of client)
    ends_there acts count over =
        so_there (λ it first code. StepIs client it first code (steps.AtEnd acts) client)
        (λ run. at_end h.it i run client h.first acts count over)

    pub limited_there : (acts : ℕ) → acts ≡ act_count i.exec → is_over (place i.exec) ≡ false → ACT_LIMIT ≤ act_count i.exec
        → IsSoOfOne (λ it first code. StepIs client it first code (steps.AtLimit acts) client) number (state_of client).running
        (live_of client)
    limited_there acts count goes full =
        so_there (λ it first code. StepIs client it first code (steps.AtLimit acts) client)
        (λ run. at_limit h.it i run client h.first acts count goes full)

    -- else it goes on
    pub goes_there : is_over (place i.exec) ≡ false → (ACT_LIMIT ≤ act_count i.exec → ⊥)
        → IsSoOfOne GoesOn number (state_of client).running (live_of client)
    goes_there goes more = so_there GoesOn (λ run. goes_on h.it i run h.first goes more)
