-- A whole run, act by act.
use Rattle.std.proofs.Common.{◌≡◌, ◌⊎◌, ℕ, ◌+◌, ◌-◌, ◌≤◌, Bool, true, List, [], ◌∷◌, ◌++◌, length, sym, ap, subst, ◌∙◌, inl, inr}
use Rattle.std.proofs.Common.{length-append, arith}
use Rattle.std.proofs.lemmas.List.{append-nil}
use Rattle.iot_tree.specs.Tree.{Nodes, IsTree}
use Rattle.iot_tree.specs.declared.acts.Act.{Act}
use Rattle.iot_lang.specs.Code.{Code}
use Rattle.iot_exec.specs.Commands.{Kept}
use Rattle.iot_exec.specs.Runs.{run}
use Rattle.iot_exec.specs.Places.{Place, Over, At, is_over, ran_before, exec, IsAfter}
use Rattle.iot_exec.specs.Traces.{IsAlike}
use Rattle.iot_exec.specs.Execs.{place, act_count, IsRunning}
use Rattle.iot_exec.specs.declared.exec.Exec.{Exec}
use Rattle.iot_exec.specs.declared.ran.Ran.{Ran}
use Rattle.iot_exec.proofs.PlaceLaws.{over}
use Rattle.iot_exec.proofs.TraceLaws.{is_alike}

pub begins : (script : Code) (kept : Kept) (t tree : Nodes) (acts : List Act) (exec : Exec) → tree ≡ t → acts ≡ []
    → IsRunning script kept t 0 [] exec t → IsRunning script kept t (length acts) acts exec tree
begins script kept t tree acts exec same none running =
    subst (λ (tree : Nodes). IsRunning script kept t (length acts) acts exec tree) (sym same)
    (subst (λ (acts : List Act). IsRunning script kept t (length acts) acts exec t) (sym none) running)

pub goes_on : (script : Code) (kept : Kept) (t tree : Nodes) (before acts : List Act) (act : Act) (exec : Exec) → acts ≡ before ++ act ∷ []
    → IsRunning script kept t (length before + 1) (before ++ act ∷ []) exec tree → IsRunning script kept t (length acts) acts exec tree
goes_on script kept t tree before acts act exec is running =
    subst (λ (acts : List Act). IsRunning script kept t (length acts) acts exec tree) (sym is)
    (subst (λ (n : ℕ). IsRunning script kept t n (before ++ act ∷ []) exec tree) (sym (length-append before (act ∷ []))) running)

-- at the end nothing more is done
over_from : (kept : Kept) (m : ℕ) (place : Place) (t : Nodes) → is_over place ≡ true
    → exec kept m place t ≡ record { acts = []; tree = t; ended = true }
over_from kept m Over t is = over kept m t
over_from kept m (At code frames env) t is = absurd cc

module _ (script : Code) (kept : Kept) (t0 : Nodes) (acts : List Act) (place : Place) (t : Nodes) (budget : ℕ)
    (after : IsAfter script kept t0 (length acts) acts place t) where
  at_end : length acts ≤ budget → is_over place ≡ true → run script kept t0 budget ≡ record { acts = acts; tree = t; ended = true }
  at_end within is =
      let rest : length acts + (budget - length acts) ≡ budget = omega arith in
      ap (run script kept t0) (sym rest)
      ∙ after.goes_on (budget - length acts)
      ∙ ap (ran_before acts) (over_from kept (budget - length acts) place t is)
      ∙ ap (λ (acts : List Act). record { acts = acts; tree = t; ended = true }) (append-nil acts)

  at_budget : length acts ≡ budget → run script kept t0 budget ≡ record { acts = acts; tree = t; ended = is_over place }
  at_budget same = ap (run script kept t0) (sym same) ∙ after.is_run

-- what a run comes to that stops at its end or when no act is left
pub ran_is : (script : Code) (kept : Kept) (t0 : Nodes) (acts : List Act) (exec : Exec) (t : Nodes) (budget : ℕ) (ended : Bool)
    → IsRunning script kept t0 (length acts) acts exec t → act_count exec ≤ budget → ended ≡ is_over (place exec)
    → (is_over (place exec) ≡ true) ⊎ (budget ≤ act_count exec)
    → record { acts = acts; tree = t; ended = ended } ≡ run script kept t0 budget
ran_is script kept t0 acts exec t budget ended running within is stops = elim stops [
  | inl over ↦
      ap (λ (ended : Bool). record { acts = acts; tree = t; ended = ended }) (is ∙ over)
      ∙ sym (at_end script kept t0 acts (place exec) t budget running.after (omega (arith, running.counted)) over)
  | inr full ↦
      ap (λ (ended : Bool). record { acts = acts; tree = t; ended = ended }) is
      ∙ sym (at_budget script kept t0 acts (place exec) t budget running.after (omega (arith, running.counted)))
]

-- it does the same elsewhere
pub alike_is : (script : Code) (kept : Kept) (t u : Nodes) (budget : ℕ) (ran : Ran) → ran ≡ run script kept t budget → IsTree u
    → IsAlike ran (run script kept u budget) u
alike_is script kept t u budget ran is tree =
    subst (λ (ran : Ran). IsAlike ran (run script kept u budget) u) (sym is) (is_alike script kept t u budget tree)
