-- Each change keeps that the interpreters run what runs.
use Rattle.std.proofs.Common.{◌≡◌, ℕ, zero, suc, Bool, List, [], ◌∷◌, ◌++◌, length, Option, Some, None, replicate, slice_index_or}
use Rattle.std.proofs.Common.{slice_set}
use Rattle.std.proofs.Common.{refl, sym, ap, subst, ◌∙◌, arith}
use Rattle.std.proofs.lemmas.Bool.{cond-true, cond-false}
use Rattle.std.proofs.lemmas.Option.{same_Some}
use Rattle.std.specs.List.{remove}
use Rattle.std.specs.Prelude.{IfOk, Result, Ok, Err}
use Rattle.std.specs.FinMap.{empty}
use Rattle.iot_tree.specs.Tree.{Nodes}
use Rattle.iot_tree.specs.declared.labels.OnConflict.{OnConflict}
use Rattle.iot_lang.specs.Code.{Code}
use Rattle.iot_lang.specs.Scripts.{IsScript}
use Rattle.iot_exec.specs.Commands.{kept_files}
use Rattle.iot_exec.specs.Execs.{IsRunning}
use Rattle.iot_exec.specs.declared.exec.Exec.{Exec}
use Rattle.iot_queue.specs.declared.items.Item.{Item}
use Rattle.iot_queue.specs.declared.items.Stage.{Stage}
use Rattle.iot_changes.specs.declared.changes.Change.{Change}
use Rattle.iot_changes.specs.declared.changes.Change.TheVariants.{Held, Begun, Fetched, Acted, Ended, Cut, Conflicted, Resolved}
use Rattle.iot_changes.specs.declared.changes.Change.TheVariants.{Repaired, Left, Again}
use Rattle.iot_kept.specs.States.{Transaction, State, has_number, numbered, view}
use Rattle.iot_kept.specs.Changes.{with_running, others, anew, left, stage_by, stays_in, conflicted, after}
use Rattle.iot_kept.specs.Memory.{classes_after}
use Rattle.iot_kept.proofs.StatesLaws.{view_conflicted, view_resolved, view_repaired, view_left}
use Rattle.iot_client.specs.Calls.{ChangesHead}
use Rattle.iot_client.specs.Doing.{IsAt, Starts, IsAgain, IsAgainIfAny}
use Rattle.iot_client.specs.Ties.{code_in, lives, IsRun, IsRunIfAny, AreRuns}
use Rattle.iot_client.specs.declared.interpreter.Interpreter.{Interpreter}
use Rattle.iot_client.proofs.LivesLaws.{same_script}
use Rattle.iot_client.proofs.PlaceLaws.{Here}

-- the same by other names
pub carried : (a b : List Transaction) (i j : List (Option Interpreter)) → b ≡ a → j ≡ i → AreRuns a i → AreRuns b j
carried a b i j same interpreters runs =
    subst (λ (running : List Transaction). AreRuns running j) (sym same) (subst (AreRuns a) (sym interpreters) runs)

-- ---- the first act

-- so it is if nothing is kept
pub at_start : (code same : Code) (files : List (List (List ℕ) × List ℕ)) (exec : Exec) → files ≡ [] → same ≡ code
    → ((t : Nodes) → IsRunning same (kept_files files) t 0 [] exec t) → (t : Nodes) → IsRunning code empty t 0 [] exec t
at_start code same files exec none is starts t =
    subst (λ (code : Code). IsRunning code empty t 0 [] exec t) is
    (subst (λ (files : List (List (List ℕ) × List ℕ)). IsRunning same (kept_files files) t 0 [] exec t) none (starts t))

pub again_is : {E : Type 0} (i : Interpreter) (same : Code) (result : Result Interpreter E) → same ≡ i.script.value
    → IfOk result (λ j. j.script.value ≡ same) → IfOk result (Starts same) → IfOk result (IsAgain i)
again_is i same (Ok j) is own starts = record { same = own ∙ is; starts = subst (λ (code : Code). Starts code j) is starts }
again_is i same (Err fault) is own starts = tt

-- without acts
starts_run : (it : Transaction) (code : Code) (new : Interpreter) → new.script.value ≡ code → Starts code new → IsScript code
    → IsRun (record it { acts = [] }) new
starts_run it code new is starts good = record {
  run = subst (λ (code : Code). IsRunning code empty it.base 0 [] new.exec it.base) (sym is) (starts it.base);
  few = omega arith;
  script = subst IsScript (sym is) good;
}

-- ---- one begins, ..

runs_more : (running : List Transaction) (interpreters : List (Option Interpreter)) (it : Transaction) (new : Option Interpreter)
    → AreRuns running interpreters → IsRunIfAny it new → AreRuns (running ++ it ∷ []) (interpreters ++ new ∷ [])
runs_more [] [] it new runs own = (own, tt)
runs_more [] (i ∷ interpreters) it new runs own = absurd runs
runs_more (one ∷ running) [] it new runs own = absurd runs
runs_more (one ∷ running) (i ∷ interpreters) it new runs own = (runs.0, runs_more running interpreters it new runs.1 own)

pub runs_begun : (state : State) (number : ℕ) (script : List ℕ) (option : OnConflict) (interpreters : List (Option Interpreter))
    (code : Code) (new : Interpreter) → new.script.value ≡ code → Starts code new → IsScript code → AreRuns state.running interpreters
    → AreRuns (after state (Begun number script option)).running (interpreters ++ Some new ∷ [])
runs_begun state number script option interpreters code new is starts good runs =
    let it : Transaction = record { number = number; script = script; option = option; base = view state; acts = [] } in
    runs_more state.running interpreters it (Some new) runs (starts_run it code new is starts good)

-- ---- .. changes, ..

module _ (number : ℕ) (change : Transaction → Transaction) (it : Transaction) (new : Option Interpreter)
    (own : IsRunIfAny (change it) new) where
  pub runs_changed : (running : List Transaction) (interpreters : List (Option Interpreter)) (at : ℕ) → numbered number running ≡ Some it
      → IsAt number running at → AreRuns running interpreters
      → AreRuns (with_running number change running) (slice_set interpreters at new)
  runs_changed [] interpreters at found is runs = absurd is
  runs_changed (one ∷ running) [] at found is runs = absurd runs
  runs_changed (one ∷ running) (i ∷ interpreters) zero found is runs =
      let same : one ≡ it = same_Some one it (sym (cond-true (has_number number one) (Some one) _ is) ∙ found) in
      subst (λ (later : List Transaction). AreRuns later (new ∷ interpreters))
      (sym (cond-true (has_number number one) (change one ∷ running) _ is))
      (subst (λ (x : Transaction). IsRunIfAny (change x) new) (sym same) own, runs.1)
  runs_changed (one ∷ running) (i ∷ interpreters) (suc at) found is runs =
      subst (λ (later : List Transaction). AreRuns later (i ∷ slice_set interpreters at new))
      (sym (cond-false (has_number number one) (change one ∷ running) (one ∷ with_running number change running) is.0)) (
        runs.0,
        runs_changed running interpreters at
            (sym (cond-false (has_number number one) (Some one) (numbered number running) is.0) ∙ found) is.1 runs.1,
      )

-- .. starts again on a tree, ..
again_runs : (it : Transaction) (t : Nodes) (i j : Option Interpreter) → IsRunIfAny it i → IsAgainIfAny i j → IsRunIfAny (anew t it) j
again_runs it t None None runs again = tt
again_runs it t None (Some j) runs again = absurd again
again_runs it t (Some i) None runs again = tt
again_runs it t (Some i) (Some j) runs again =
    starts_run (anew t it) i.script.value j again.same again.starts runs.script

runs_again : (number : ℕ) (t : Nodes) (it : Transaction) (i j : Option Interpreter) (running : List Transaction)
    (interpreters : List (Option Interpreter)) (at : ℕ) → numbered number running ≡ Some it → IsAt number running at
    → AreRuns running interpreters → IsRunIfAny it i → IsAgainIfAny i j
    → AreRuns (with_running number (anew t) running) (slice_set interpreters at j)
runs_again number t it i j running interpreters at found is runs own again =
    runs_changed number (anew t) it j (again_runs it t i j own again) running interpreters at found is runs

again_code : (i j : Option Interpreter) → IsAgainIfAny i j → code_in j ≡ code_in i
again_code None None again = refl
again_code None (Some j) again = absurd again
again_code (Some i) None again = absurd again
again_code (Some i) (Some j) again = ap (λ (code : Code). Some code) again.same

module _ (number at : ℕ) (t : Nodes) (running : List Transaction) (classes : List Bool) (interpreters : List (Option Interpreter))
    (h : Here number at running classes interpreters) (was now : Option Interpreter) (is : was ≡ slice_index_or interpreters at was)
    (again : IsAgainIfAny was now) where
  here_again : IsAgainIfAny h.interpreter now
  here_again = subst (λ (i : Option Interpreter). IsAgainIfAny i now) (is ∙ h.interpreter_at was) again

  pub tied_again : IsAt number running at → AreRuns running interpreters
      → AreRuns (with_running number (anew t) running) (slice_set interpreters at now)
  tied_again place runs = runs_again number t h.it h.interpreter now running interpreters at h.found place runs h.run here_again

  pub lives_again : lives classes (slice_set interpreters at now) ≡ lives classes interpreters
  lives_again = same_script classes interpreters at h.interpreter now h.interpreter_at (again_code h.interpreter now here_again)

-- ---- .. or goes

pub runs_others : (number : ℕ) (running : List Transaction) (interpreters : List (Option Interpreter)) (at : ℕ) → IsAt number running at
    → AreRuns running interpreters → AreRuns (others number running) (remove interpreters at)
runs_others number [] interpreters at is runs = absurd is
runs_others number (it ∷ running) [] at is runs = absurd runs
runs_others number (it ∷ running) (i ∷ interpreters) zero is runs =
    subst (λ (later : List Transaction). AreRuns later interpreters) (sym (cond-true (has_number number it) running _ is)) runs.1
runs_others number (it ∷ running) (i ∷ interpreters) (suc at) is runs =
    subst (λ (later : List Transaction). AreRuns later (i ∷ remove interpreters at))
    (sym (cond-false (has_number number it) running (it ∷ others number running) is.0))
    (runs.0, runs_others number running interpreters at is.1 runs.1)

-- the first one
pub runs_cut : (it : Transaction) (running : List Transaction) (interpreters : List (Option Interpreter))
    → AreRuns (it ∷ running) interpreters → AreRuns running (remove interpreters 0)
runs_cut it running [] runs = absurd runs
runs_cut it running (i ∷ interpreters) runs = runs.1

-- ---- the start finds them

pub runs_found : (running : List Transaction) (n : ℕ) → n ≡ length running → AreRuns running (replicate n None)
runs_found [] zero count = tt
runs_found [] (suc n) count = absurd (omega (arith, count))
runs_found (it ∷ running) zero count = absurd (omega (arith, count))
runs_found (it ∷ running) (suc n) count = (tt, runs_found running n (omega (arith, count)))

-- ---- the first that waits

-- a change of it leaves those that run
left_running : (items : List Item) (state : State) → (left state items).running ≡ state.running
left_running [] state = refl
left_running (item ∷ items) state = refl

stays_running : (stage : Option Stage) (state : State) → (stays_in stage state).running ≡ state.running
stays_running (Some stage) state = refl
stays_running None state = left_running state.items state

conflicted_running : (items : List Item) (state : State) → (conflicted state items).running ≡ state.running
conflicted_running [] state = refl
conflicted_running (item ∷ items) state = stays_running (stage_by item.option) state

pub running_stays : (change : Change) (state : State) → ChangesHead change → (after state change).running ≡ state.running
running_stays (Held tree) state head = absurd head
running_stays (Begun number script option) state head = absurd head
running_stays (Fetched number tree) state head = absurd head
running_stays (Acted number act) state head = absurd head
running_stays (Ended number) state head = absurd head
running_stays (Cut number acts) state head = absurd head
running_stays (Again number) state head = absurd head
running_stays Conflicted state head = conflicted_running state.items state
running_stays (Resolved done access) state head = refl
running_stays (Repaired script) state head = refl
running_stays Left state head = left_running state.items state

-- .. and the view
pub view_stays : (change : Change) (state : State) → ChangesHead change → view (after state change) ≡ view state
view_stays (Held tree) state head = absurd head
view_stays (Begun number script option) state head = absurd head
view_stays (Fetched number tree) state head = absurd head
view_stays (Acted number act) state head = absurd head
view_stays (Ended number) state head = absurd head
view_stays (Cut number acts) state head = absurd head
view_stays (Again number) state head = absurd head
view_stays Conflicted state head = view_conflicted state
view_stays (Resolved done access) state head = view_resolved state done access
view_stays (Repaired script) state head = view_repaired state script
view_stays Left state head = view_left state

pub classes_stay : (change : Change) (running : List Transaction) (classes : List Bool) → ChangesHead change
    → classes_after change running classes ≡ classes
classes_stay (Held tree) running classes head = absurd head
classes_stay (Begun number script option) running classes head = absurd head
classes_stay (Fetched number tree) running classes head = absurd head
classes_stay (Acted number act) running classes head = absurd head
classes_stay (Ended number) running classes head = absurd head
classes_stay (Cut number acts) running classes head = absurd head
classes_stay (Again number) running classes head = absurd head
classes_stay Conflicted running classes head = refl
classes_stay (Resolved done access) running classes head = refl
classes_stay (Repaired script) running classes head = refl
classes_stay Left running classes head = refl
