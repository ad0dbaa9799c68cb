-- The first transaction that runs is cut off.
use Rattle.std.proofs.Common.{◌≡◌, ℕ, ◌<◌, Bool, List, [], ◌∷◌, drop, length, Option, Some, None, slice_get, refl, sym, ap, subst, ◌∙◌}
use Rattle.std.proofs.Common.{arith}
use Rattle.std.proofs.lemmas.Option.{same_Some}
use Rattle.std.specs.List.{remove}
use Rattle.std.specs.Prelude.{Vec}
use Rattle.std.specs.Vec.{vec_len}
use Rattle.std.specs.declared.alloc.Global.{Global}
use Rattle.iot_certify.specs.Verdicts.{IsLongest}
use Rattle.iot_changes.specs.declared.changes.Change.TheVariants.{Cut}
use Rattle.iot_kept.specs.Changes.{CanFollow, FirstRunIs, cut, after}
use Rattle.iot_kept.specs.Memory.{transaction, transactions}
use Rattle.iot_kept.specs.States.{Transaction, view}
use Rattle.iot_kept.specs.declared.running.Running.{Running}
use Rattle.iot_client.specs.Calls.{CutsOff, CutsIfAny, CutsOffCut, Notes}
use Rattle.iot_client.specs.Ties.{lives, AreBegun, AreRuns, state_of, classes_in, live_of}
use Rattle.iot_client.specs.declared.client.Client.{Client}
use Rattle.iot_client.specs.declared.interpreter.Interpreter.{Interpreter}
use Rattle.iot_client.proofs.LivesLaws.{first_goes}
use Rattle.iot_client.proofs.PlaceLaws.{count_is, interpreter_within, runs_count}
use Rattle.iot_client.proofs.TiesLaws.{carried, runs_cut}

-- ---- none runs

no_lives : (classes : List Bool) (interpreters : List (Option Interpreter)) → AreRuns [] interpreters
    → lives classes interpreters ≡ drop 1 (lives classes interpreters)
no_lives [] interpreters runs = refl
no_lives (first ∷ classes) [] runs = refl
no_lives (first ∷ classes) (i ∷ interpreters) runs = absurd runs

none_begun : (classes : List Bool) (interpreters : List (Option Interpreter)) → AreRuns [] interpreters
    → AreBegun (lives classes interpreters)
none_begun [] interpreters runs = tt
none_begun (first ∷ classes) [] runs = tt
none_begun (first ∷ classes) (i ∷ interpreters) runs = absurd runs

no_runs : (lent : List Running) → None ≡ slice_get lent 0 → transactions lent ≡ []
no_runs [] none = refl
no_runs (one ∷ lent) none = absurd cc

module _ {D : Type 0} (old : Client D) (lent : List Running) (lent_is : transactions lent ≡ (state_of old).running)
    (none : None ≡ slice_get lent 0) where
  none_runs : (state_of old).running ≡ []
  none_runs = sym lent_is ∙ no_runs lent none

  pub cuts_none : CutsIfAny (state_of old).running None old old
  cuts_none = subst (λ (running : List Transaction). CutsIfAny running None old old) (sym none_runs) (refl, refl)

  pub live_none : AreRuns (state_of old).running old.interpreters.items → live_of old ≡ drop 1 (live_of old)
  live_none runs =
      no_lives (classes_in old) old.interpreters.items
      (subst (λ (running : List Transaction). AreRuns running old.interpreters.items) none_runs runs)

  pub begun_none : AreRuns (state_of old).running old.interpreters.items → AreBegun (live_of old)
  begun_none runs =
      none_begun (classes_in old) old.interpreters.items
      (subst (λ (running : List Transaction). AreRuns running old.interpreters.items) none_runs runs)

-- ---- one does

first_runs : (lent : List Running) (one : Running) → Some one ≡ slice_get lent 0
    → transactions lent ≡ transaction one ∷ drop 1 (transactions lent)
first_runs [] one first = absurd cc
first_runs (it ∷ lent) one first =
    ap (λ (x : Running). transaction x ∷ transactions lent) (sym (same_Some one it first))

module _ {D : Type 0} (old : Client D) (lent : List Running) (lent_is : transactions lent ≡ (state_of old).running) (one : Running)
    (first : Some one ≡ slice_get lent 0) where
  abbrev later : List Transaction
  later = drop 1 (transactions lent)

  is_first : (state_of old).running ≡ transaction one ∷ later
  is_first = sym lent_is ∙ first_runs lent one first

  -- what is so of the first one
  of_first : (P : List Transaction → Type 0) → P (transaction one ∷ later) → P (state_of old).running
  of_first P is = subst P (sym is_first) is

  pub first_within : AreRuns (state_of old).running old.interpreters.items → (now : Vec (Option Interpreter) Global)
      → now ≡ old.interpreters → 0 < vec_len now
  first_within runs now same =
      subst (λ (all : Vec (Option Interpreter) Global). 0 < vec_len all) (sym same)
      (interpreter_within (state_of old).running old.interpreters 0 runs
      (of_first (λ running. 0 < length running) (omega arith)))

  module _ (acts : ℕ) (longest : IsLongest (view (state_of old)) one.acts acts) where
    pub cut_follows : CanFollow (state_of old) (Cut one.tid acts)
    cut_follows =
        of_first (FirstRunIs one.tid (λ it. IsLongest (view (state_of old)) it.acts acts)) (refl, longest)

    pub cuts_first : (new : Client D) → Notes (Cut one.tid acts) old new
        → CutsIfAny (state_of old).running (Some (one.tid, acts)) old new
    cuts_first new notes =
        of_first (λ running. CutsIfAny running (Some (one.tid, acts)) old new)
        (record { acts = acts; is = refl; longest = longest; notes = notes })

    pub cuts_off_first : (records : ℕ) (images : List ℕ → Type 0) → CutsOff (Cut one.tid acts) (state_of old) records images
        → CutsOffCut (state_of old).running (state_of old) records images
    cuts_off_first records images cuts =
        of_first (λ running. CutsOffCut running (state_of old) records images)
        (record { acts = acts; longest = longest; cuts_off = cuts })

  module _ (runs : AreRuns (state_of old).running old.interpreters.items) (interpreters : List (Option Interpreter))
      (goes : interpreters ≡ remove old.interpreters.items 0) where
    pub tied_later : (acts : ℕ) (running : List Transaction) → running ≡ (after (state_of old) (Cut one.tid acts)).running
        → AreRuns running interpreters
    tied_later acts running same =
        carried later running (remove old.interpreters.items 0) interpreters
        (same ∙ ap (λ (all : List Transaction). (cut acts all (state_of old)).running) is_first) goes
        (runs_cut (transaction one) later old.interpreters.items
        (subst (λ (all : List Transaction). AreRuns all old.interpreters.items) is_first runs))

    pub live_later : (classes : List Bool) → classes ≡ drop 1 (classes_in old) → lives classes interpreters ≡ drop 1 (live_of old)
    live_later classes same =
        (λ k. lives (same k) (goes k))
        ∙ first_goes (classes_in old) old.interpreters.items
        (count_is old ∙ sym (runs_count (state_of old).running old.interpreters.items runs))
