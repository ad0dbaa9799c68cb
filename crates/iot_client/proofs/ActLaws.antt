-- The transaction with a number does an act, or misses something.
use Rattle.std.proofs.Common.{◌≡◌, ℕ, zero, suc, List, [], ◌∷◌, Option, slice_index_or, slice_set, refl, sym, ap, subst, ◌∙◌}
use Rattle.std.specs.Prelude.{IsSomeAnd}
use Rattle.iot_tree.specs.Tree.{Nodes, Path}
use Rattle.iot_tree.specs.declared.want.Want.TheVariants as wants
use Rattle.iot_views.specs.Rules.{IsNumber}
use Rattle.iot_changes.specs.Rules.{IsChange}
use Rattle.iot_changes.specs.declared.changes.Change.TheVariants.{Acted}
use Rattle.iot_kept.specs.Changes.{CanFollow, CanAct, with_running, with_act}
use Rattle.iot_kept.specs.Memory.{transaction, transactions, classes_of}
use Rattle.iot_kept.specs.Spelled.{IsSpelledState, IsSpelledRunning}
use Rattle.iot_kept.specs.States.{State, own_view}
use Rattle.iot_kept.specs.declared.running.Running.{Running}
use Rattle.iot_kept.proofs.StatesLaws.{run_found}
use Rattle.iot_wire.specs.Meanings.{IsRefresh}
use Rattle.iot_client.specs.Calls.{ChangesClasses, CutsOff, CutsOffNext, Notes, StepIs}
use Rattle.iot_client.specs.Doing.{GoesOn, IsAble, IsAt, IsSoOfOne, DidIfAny, DecidesIfAny}
use Rattle.iot_client.specs.Ties.{code_in, lives, AreRuns, state_of, stamps_of, place_of, classes_in, live_of}
use Rattle.iot_client.specs.declared.client.Client.{Client}
use Rattle.iot_client.specs.declared.interpreter.Decided.{Decided}
use Rattle.iot_client.specs.declared.interpreter.Decided.TheVariants.{Did, Missed}
use Rattle.iot_client.specs.declared.interpreter.Done.{Done}
use Rattle.iot_client.specs.declared.interpreter.Interpreter.{Interpreter}
use Rattle.iot_client.specs.declared.steps.Step.TheVariants as steps
use Rattle.iot_client.proofs.ClassesLaws.{notes_from}
use Rattle.iot_client.proofs.DoingLaws.{acted_runs, can_do, decided_did, decided_on, decided_stays, fetches, is_able, next_in_doubt}
use Rattle.iot_client.proofs.DoingLaws.{same_code, steps_on}
use Rattle.iot_client.proofs.LivesLaws.{same_script}
use Rattle.iot_client.proofs.PlaceLaws.{Here, here_in, lent_class, lent_run, of_here, run_here, so_here}
use Rattle.iot_client.proofs.SpelledLaws.{act_spelled}
use Rattle.iot_client.proofs.TiesLaws.{carried, runs_changed}

-- an interpreter that is put in its own place changes nothing
set_same : (interpreters : List (Option Interpreter)) (at : ℕ) (new : Option Interpreter)
    → ((d : Option Interpreter) → slice_index_or interpreters at d ≡ new) → slice_set interpreters at new ≡ interpreters
set_same [] at new is = refl
set_same (i ∷ interpreters) zero new is = ap (λ (first : Option Interpreter). first ∷ interpreters) (sym (is i))
set_same (i ∷ interpreters) (suc at) new is =
    ap (λ (later : List (Option Interpreter)). i ∷ later) (set_same interpreters at new is)

module _ {D : Type 0} (old : Client D) (number at : ℕ) (runs : AreRuns (state_of old).running old.interpreters.items)
    (is : IsAt number (state_of old).running at) (goes : IsSoOfOne GoesOn number (state_of old).running (live_of old))
    (i : Option Interpreter) (there : i ≡ slice_index_or old.interpreters.items at i) where
  h : Here number at (state_of old).running (classes_in old) old.interpreters.items
  h = here_in old number at runs is

  goes_here : IsSomeAnd (code_in h.interpreter) (GoesOn h.it h.first)
  goes_here = of_here number at (state_of old).running (classes_in old) old.interpreters.items h GoesOn goes

  -- its interpreter may do an act
  pub able_there : IsAble i
  able_there = subst IsAble (sym (there ∙ h.interpreter_at i)) (is_able h.it h.first h.interpreter h.run goes_here)

  -- what is told of the tree and of the class that are lent
  module _ (lent : List Running) (lent_is : transactions lent ≡ (state_of old).running) (class_is : classes_of lent ≡ classes_in old)
      (one : Running) (one_is : one ≡ slice_index_or lent at one) (t : Nodes) (view_is : t ≡ own_view (transaction one))
      (j : Option Interpreter) (was : Decided) (decided : DecidesIfAny one.first i t was j) where
    decided_there : (now : Decided) → was ≡ now → DecidesIfAny h.first h.interpreter (own_view h.it) now j
    decided_there now same =
        decided_on one.first h.first i h.interpreter j t (own_view h.it) was now
        (lent_class lent at one one_is (classes_in old) h.first class_is h.class_at) (there ∙ h.interpreter_at i)
        (view_is ∙ ap own_view (lent_run lent at one one_is (state_of old).running h.it lent_is h.run_at)) same decided

    -- ---- it did one

    module _ (done : Done) (same : was ≡ Did done) where
      did : DidIfAny h.interpreter (own_view h.it) done j
      did = decided_did h.first h.interpreter j (own_view h.it) done (decided_there (Did done) same)

      pub spelled_there : IsSpelledState (state_of old) → IsChange (Acted number done.act)
      spelled_there spelled =
          let own : IsSpelledRunning h.it =
          run_found IsSpelledRunning number (state_of old).running h.it h.found spelled.running in
          (subst IsNumber h.same own.number, act_spelled h.it h.interpreter j done own h.run did)

      pub follows_there : CanFollow (state_of old) (Acted number done.act)
      follows_there =
          run_here (CanAct done.act) number (state_of old).running h.it h.found (can_do h.it h.first h.interpreter j done goes_here did)

      -- if its record is in doubt
      pub doubts_there : (records : ℕ) (images : List ℕ → Type 0) → CutsOff (Acted number done.act) (state_of old) records images
          → IsSoOfOne (λ it first code. CutsOffNext it first code (state_of old) records images) number (state_of old).running
          (live_of old)
      doubts_there records images cuts =
          so_here number at (state_of old).running (classes_in old) old.interpreters.items h
          (λ it first code. CutsOffNext it first code (state_of old) records images)
          (next_in_doubt h.it h.first h.interpreter j done (state_of old) records images h.run goes_here (decided_there (Did done) same)
          (subst (λ (n : ℕ). CutsOff (Acted n done.act) (state_of old) records images) (sym h.same) cuts))

      -- else it is noted
      module _ (mid new : Client D) (over : ChangesClasses old mid) (notes : Notes (Acted number done.act) mid new)
          (interpreters : new.interpreters.items ≡ slice_set old.interpreters.items at j) where
        noted : Notes (Acted number done.act) old new
        noted = notes_from old mid over new (Acted number done.act) notes

        pub tied_there : AreRuns (state_of new).running new.interpreters.items
        tied_there =
            carried (with_running number (with_act done.act) (state_of old).running) (state_of new).running
            (slice_set old.interpreters.items at j) new.interpreters.items (ap (λ (state : State). state.running) noted.state) interpreters
            (runs_changed number (with_act done.act) h.it j (acted_runs h.it h.first h.interpreter j done h.run goes_here did)
            (state_of old).running old.interpreters.items at h.found is runs)

        pub live_there : classes_in new ≡ classes_in old → live_of new ≡ live_of old
        live_there classes =
            (λ k. lives (classes k) (interpreters k))
            ∙ same_script (classes_in old) old.interpreters.items at h.interpreter j h.interpreter_at
            (same_code h.interpreter j (own_view h.it) done did)

        pub step_there : IsSoOfOne (λ it first code. StepIs old it first code (steps.Acted done.acts done.ended) new) number
            (state_of old).running (live_of old)
        step_there =
            so_here number at (state_of old).running (classes_in old) old.interpreters.items h
            (λ it first code. StepIs old it first code (steps.Acted done.acts done.ended) new)
            (steps_on h.it h.first old new h.interpreter j done h.run goes_here (decided_there (Did done) same)
            (subst (λ (n : ℕ). Notes (Acted n done.act) old new) (sym h.same) noted))

    -- ---- it misses something

    module _ (path : Path) (same : was ≡ Missed path) where
      stays : slice_set old.interpreters.items at j ≡ old.interpreters.items
      stays =
          set_same old.interpreters.items at j (λ d.
          h.interpreter_at d
          ∙ sym (decided_stays h.first h.interpreter j (own_view h.it) path (decided_there (Missed path) same)))

      pub tied_still : AreRuns (state_of old).running (slice_set old.interpreters.items at j)
      tied_still = subst (AreRuns (state_of old).running) (sym stays) runs

      pub live_still : lives (classes_in old) (slice_set old.interpreters.items at j) ≡ live_of old
      live_still = ap (lives (classes_in old)) stays

      pub fetch_there : (new : Client D) (request : List ℕ) → IsRefresh (place_of old) (stamps_of old) (wants.Path path) request
          → ChangesClasses old new
          → IsSoOfOne (λ it first code. StepIs old it first code (steps.Fetch request path) new) number (state_of old).running
          (live_of old)
      fetch_there new request asks over =
          so_here number at (state_of old).running (classes_in old) old.interpreters.items h
          (λ it first code. StepIs old it first code (steps.Fetch request path) new)
          (fetches h.it h.first old new h.interpreter j path request h.run goes_here (decided_there (Missed path) same) asks over)
