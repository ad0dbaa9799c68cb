-- The transaction with a number ends.
use Rattle.std.proofs.Common.{◌≡◌, ℕ, Bool, true, List, Option, slice_index_or, sym, subst, ◌∙◌}
use Rattle.std.specs.List.{remove}
use Rattle.std.specs.Prelude.{IsSomeAnd}
use Rattle.iot_views.specs.Rules.{IsNumber}
use Rattle.iot_changes.specs.declared.changes.Change.TheVariants.{Ended}
use Rattle.iot_kept.specs.Changes.{others}
use Rattle.iot_kept.specs.Memory.{classes_of, other_classes}
use Rattle.iot_kept.specs.Spelled.{IsSpelledState, IsSpelledRunning}
use Rattle.iot_kept.specs.States.{Transaction}
use Rattle.iot_kept.specs.declared.running.Running.{Running}
use Rattle.iot_kept.proofs.StatesLaws.{run_found}
use Rattle.iot_client.specs.Calls.{may_end, EndIs, Notes, other_lives}
use Rattle.iot_client.specs.Doing.{IsAt, IsSoOfOne}
use Rattle.iot_client.specs.Ties.{code_in, lives, AreRuns, state_of, classes_in, live_of}
use Rattle.iot_client.specs.declared.client.Client.{Client}
use Rattle.iot_client.specs.declared.ended.Ended.TheVariants as ends
use Rattle.iot_client.specs.declared.interpreter.Interpreter.{Interpreter}
use Rattle.iot_client.proofs.EndLaws.{joins}
use Rattle.iot_client.proofs.LivesLaws.{one_goes}
use Rattle.iot_client.proofs.PlaceLaws.{Here, here_in, lent_class, of_here, so_here}
use Rattle.iot_client.proofs.TiesLaws.{carried, runs_others}

module _ {D : Type 0} (old : Client D) (number at : ℕ) (runs : AreRuns (state_of old).running old.interpreters.items)
    (is : IsAt number (state_of old).running at) where
  abbrev pub h : Here number at (state_of old).running (classes_in old) old.interpreters.items
  h = here_in old number at runs is

  -- its number has a spelling
  pub number_there : IsSpelledState (state_of old) → IsNumber number
  number_there spelled =
      let own : IsSpelledRunning h.it = run_found IsSpelledRunning number (state_of old).running h.it h.found spelled.running in
      subst IsNumber h.same own.number

  module _ (running : List Transaction) (classes : List Bool) (interpreters : List (Option Interpreter))
      (goes : interpreters ≡ remove old.interpreters.items at) where
    pub tied_others : running ≡ others number (state_of old).running → AreRuns running interpreters
    tied_others same =
        carried (others number (state_of old).running) running (remove old.interpreters.items at) interpreters same goes
        (runs_others number (state_of old).running old.interpreters.items at is runs)

    pub live_others : classes ≡ other_classes number (state_of old).running (classes_in old)
        → lives classes interpreters ≡ other_lives number (state_of old).running (live_of old)
    live_others same =
        (λ k. lives (same k) (goes k)) ∙ one_goes number (state_of old).running (classes_in old) old.interpreters.items at is runs

  -- what is told of it
  module _ (may : IsSoOfOne (λ it first code. may_end it code ≡ true) number (state_of old).running (live_of old)) where
    pub may_there : IsSomeAnd (code_in h.interpreter) (λ code. may_end h.it code ≡ true)
    may_there =
        of_here number at (state_of old).running (classes_in old) old.interpreters.items h (λ it first code. may_end it code ≡ true) may

    pub joins_there : (lent : List Running) → classes_of lent ≡ classes_in old → (one : Running) → one ≡ slice_index_or lent at one
        → (first : Bool) → first ≡ one.first → (new : Client D) → Notes (Ended number) old new
        → IsSoOfOne (λ it class code. EndIs old it class code (ends.Joined number first) new) number (state_of old).running (live_of old)
    joins_there lent class_is one one_is first same new notes =
        so_here number at (state_of old).running (classes_in old) old.interpreters.items h
        (λ it class code. EndIs old it class code (ends.Joined number first) new)
        (joins old new h.it h.first h.interpreter number first h.run may_there
        (subst (λ (n : ℕ). Notes (Ended n) old new) (sym h.same) notes) (sym h.same)
        (same ∙ lent_class lent at one one_is (classes_in old) h.first class_is h.class_at))
