-- The transaction with a number starts again.
use Rattle.std.proofs.Common.{◌≡◌, ℕ, ◌<◌, Bool, List, Option, slice_index_or, slice_set, sym, subst, ◌∙◌}
use Rattle.std.specs.Prelude.{Vec}
use Rattle.std.specs.Vec.{vec_len}
use Rattle.std.specs.declared.alloc.Global.{Global}
use Rattle.iot_tree.specs.Tree.{Nodes}
use Rattle.iot_kept.specs.Changes.{with_running, anew}
use Rattle.iot_kept.specs.States.{Transaction}
use Rattle.iot_client.specs.Doing.{IsAt, IsAgainIfAny}
use Rattle.iot_client.specs.Ties.{lives, AreRuns, state_of, classes_in, live_of}
use Rattle.iot_client.specs.declared.client.Client.{Client}
use Rattle.iot_client.specs.declared.interpreter.Interpreter.{Interpreter}
use Rattle.iot_client.proofs.PlaceLaws.{Here, here_in, at_within, interpreter_within}
use Rattle.iot_client.proofs.TiesLaws.{carried, lives_again, tied_again}

module _ {D : Type 0} (old : Client D) (number at : ℕ) (runs : AreRuns (state_of old).running old.interpreters.items)
    (is : IsAt number (state_of old).running at) where
  -- it has an interpreter, if it was begun since the start
  pub within_there : at < vec_len old.interpreters
  within_there = interpreter_within (state_of old).running old.interpreters at runs (at_within number (state_of old).running at is)

  -- also in equal ones
  pub within_same : (now : Vec (Option Interpreter) Global) → now ≡ old.interpreters → at < vec_len now
  within_same now same = subst (λ (all : Vec (Option Interpreter) Global). at < vec_len all) (sym same) within_there

  module _ (was now : Option Interpreter) (there : was ≡ slice_index_or old.interpreters.items at was) (again : IsAgainIfAny was now) where
    h : Here number at (state_of old).running (classes_in old) old.interpreters.items
    h = here_in old number at runs is

    pub tied_anew : (t : Nodes) (running : List Transaction) (interpreters : List (Option Interpreter))
        → running ≡ with_running number (anew t) (state_of old).running → interpreters ≡ slice_set old.interpreters.items at now
        → AreRuns running interpreters
    tied_anew t running interpreters same put =
        carried (with_running number (anew t) (state_of old).running) running (slice_set old.interpreters.items at now) interpreters same
        put
        (tied_again number at t (state_of old).running (classes_in old) old.interpreters.items h was now there again is runs)

    pub live_anew : (classes : List Bool) (interpreters : List (Option Interpreter)) → classes ≡ classes_in old
        → interpreters ≡ slice_set old.interpreters.items at now → lives classes interpreters ≡ live_of old
    live_anew classes interpreters same put =
        (λ k. lives (same k) (put k))
        ∙ lives_again number at (state_of old).held (state_of old).running (classes_in old) old.interpreters.items h was now there again
