-- The transaction with a number is certified on the view.
use Rattle.std.proofs.Common.{◌≡◌, ◌↔◌, ◌≤◌, ◌<◌, ◌-◌, ℕ, true, List, length, Some, slice_get, slice_index_or, sym, ap, subst}
use Rattle.iot_acts.specs.Guards.{AllGuarded}
use Rattle.iot_acts.specs.Traces.{ActsHold}
use Rattle.iot_acts.specs.Turns.{reads_of, turns, DiffersAt}
use Rattle.iot_certify.specs.Verdicts.{IfDiffers}
use Rattle.iot_certify.specs.declared.verdict.Verdict.{Verdict}
use Rattle.iot_certify.specs.declared.verdict.Verdict.TheVariants as verdicts
use Rattle.iot_tree.specs.Tree.{Nodes}
use Rattle.iot_tree.specs.declared.acts.Read.{Read}
use Rattle.iot_tree.specs.declared.questions.Answer.{Answer}
use Rattle.iot_tree.specs.declared.questions.Question.{Question}
use Rattle.iot_changes.specs.declared.changes.Change.TheVariants.{Ended, Again}
use Rattle.iot_kept.specs.Changes.{CanFollow}
use Rattle.iot_kept.specs.Memory.{transactions}
use Rattle.iot_kept.specs.States.{Transaction, AreGuarded, IsGuardedOwn, view}
use Rattle.iot_kept.specs.declared.running.Running.{Running}
use Rattle.iot_kept.proofs.StatesLaws.{run_found}
use Rattle.iot_client.specs.Calls.{may_end, CutsOff, CutsOffEnd, Differs, EndIs, Notes}
use Rattle.iot_client.specs.Doing.{IsAt, IsSoOfOne}
use Rattle.iot_client.specs.Ties.{AreRuns, state_of, classes_in, live_of}
use Rattle.iot_client.specs.declared.client.Client.{Client}
use Rattle.iot_client.specs.declared.ended.Ended.TheVariants as ends
use Rattle.iot_client.proofs.EndLaws.{asked_first, asked_within, differs_at, differs_by, differs_there, holds_by, joining_cut, starting_cut}
use Rattle.iot_client.proofs.EndLaws.{starts_again}
use Rattle.iot_client.proofs.GoingLaws.{may_there}
use Rattle.iot_client.proofs.PlaceLaws.{Here, here_in, lent_run, run_here, so_here}

module _ {D : Type 0} (old : Client D) (number at : ℕ) (runs : AreRuns (state_of old).running old.interpreters.items)
    (is : IsAt number (state_of old).running at)
    (may : IsSoOfOne (λ it first code. may_end it code ≡ true) number (state_of old).running (live_of old)) where
  abbrev h : Here number at (state_of old).running (classes_in old) old.interpreters.items
  h = here_in old number at runs is

  -- the record of its end is in doubt
  pub joining_there : (records : ℕ) (images : List ℕ → Type 0) → CutsOff (Ended number) (state_of old) records images
      → IsSoOfOne (λ it first code. CutsOffEnd it code (state_of old) records images) number (state_of old).running (live_of old)
  joining_there records images cuts =
      so_here number at (state_of old).running (classes_in old) old.interpreters.items h
      (λ it first code. CutsOffEnd it code (state_of old) records images)
      (joining_cut h.it h.interpreter (state_of old) records images (may_there old number at runs is may)
      (subst (λ (n : ℕ). CutsOff (Ended n) (state_of old) records images) (sym h.same) cuts))

  -- what is lent of it, and the verdict on its acts
  module _ (lent : List Running) (lent_is : transactions lent ≡ (state_of old).running) (one : Running)
      (one_is : one ≡ slice_index_or lent at one) (t : Nodes) (t_is : t ≡ view (state_of old)) (verdict : Verdict)
      (exactly : verdict ≡ verdicts.Holds ↔ ActsHold t one.acts) where
    same_acts : one.acts ≡ h.it.acts
    same_acts = ap (λ (it : Transaction). it.acts) (lent_run lent at one one_is (state_of old).running h.it lent_is h.run_at)

    -- its acts hold
    pub ends_follows : verdict ≡ verdicts.Holds → CanFollow (state_of old) (Ended number)
    ends_follows holds =
        run_here (λ it. ActsHold (view (state_of old)) it.acts) number (state_of old).running h.it h.found
        (subst (λ (u : Nodes). ActsHold u h.it.acts) t_is
        (subst (ActsHold t) same_acts (holds_by verdict (ActsHold t one.acts) holds exactly)))

    -- or a read of them differs
    module _ (place : ℕ) (answer : Answer) (differs : verdict ≡ verdicts.Differs place answer) where
      pub again_follows : CanFollow (state_of old) (Again number)
      again_follows =
          run_here (λ it. ActsHold (view (state_of old)) it.acts → ⊥) number (state_of old).running h.it h.found
          (λ hold.
          differs_by verdict place answer (ActsHold t one.acts) differs exactly
          (subst (λ (u : Nodes). ActsHold u one.acts) (sym t_is) (subst (ActsHold (view (state_of old))) (sym same_acts) hold)))

      module _ (guarded : AllGuarded one.acts → IfDiffers verdict (DiffersAt (turns t one.acts) 1)) (all : AreGuarded (state_of old))
        where
          it_differs : DiffersAt (turns t one.acts) 1 place answer
          it_differs =
              differs_at verdict place answer (DiffersAt (turns t one.acts) 1) differs
              (guarded
              (subst AllGuarded (sym same_acts) (run_found IsGuardedOwn number (state_of old).running h.it h.found all.running)))

          pub first_there : 1 ≤ place
          first_there = asked_first t one.acts place answer it_differs

          pub within_acts : place - 1 < length (reads_of one.acts)
          within_acts = asked_within t one.acts place answer it_differs

          module _ (question : Question)
              (asks : (read : Read) → slice_get (reads_of one.acts) (place - 1) ≡ Some read → question ≡ read.question) where
            differs_here : Differs (view (state_of old)) h.it place question
            differs_here =
                subst (λ (u : Nodes). Differs u h.it place question) t_is
                (differs_there t one.acts place answer it_differs h.it question (sym same_acts) asks)

            pub starts_there : (new : Client D) → Notes (Again number) old new
                → IsSoOfOne (λ it first code. EndIs old it first code (ends.Again place question) new) number (state_of old).running
                (live_of old)
            starts_there new notes =
                so_here number at (state_of old).running (classes_in old) old.interpreters.items h
                (λ it first code. EndIs old it first code (ends.Again place question) new)
                (starts_again old new h.it h.first h.interpreter place question (may_there old number at runs is may)
                (subst (λ (n : ℕ). Notes (Again n) old new) (sym h.same) notes) differs_here)

            pub starting_there : (records : ℕ) (images : List ℕ → Type 0) → CutsOff (Again number) (state_of old) records images
                → IsSoOfOne (λ it first code. CutsOffEnd it code (state_of old) records images) number (state_of old).running
                (live_of old)
            starting_there records images cuts =
                so_here number at (state_of old).running (classes_in old) old.interpreters.items h
                (λ it first code. CutsOffEnd it code (state_of old) records images)
                (starting_cut h.it h.interpreter (state_of old) records images place question (may_there old number at runs is may)
                differs_here (subst (λ (n : ℕ). CutsOff (Again n) (state_of old) records images) (sym h.same) cuts))
