-- A run on another tree.
use Rattle.std.proofs.Common.{◌≡◌, ℕ, zero, suc, [], ◌∷◌, refl, sym, ap, subst, ◌∙◌}
use Rattle.iot_tree.specs.Tree.{Nodes, IsTree}
use Rattle.iot_lang.specs.Code.{Code}
use Rattle.iot_exec.specs.Plans.{Plan, perform, Performed, Effect, act_of}
use Rattle.iot_acts.specs.Traces.{after_update, ReadsHold, FitsIfAny, ActsHold, after_acts}
use Rattle.iot_exec.specs.Commands.{Kept}
use Rattle.iot_exec.specs.Runs.{run}
use Rattle.iot_exec.specs.Places.{Place, Over, At, start, plan_at, ran_before, ran_then, exec}
use Rattle.iot_acts.specs.Turns.{reads_of}
use Rattle.iot_exec.specs.Traces.{IsAlike}
use Rattle.iot_exec.specs.declared.ran.Ran.{Ran}
use Rattle.iot_exec.proofs.PlanLaws.{own_reads, same_answers, SameStart, same_reads}
use Rattle.iot_exec.proofs.PlaceLaws.{exec_from_start}
use Rattle.iot_exec.proofs.GuardLaws.{place_fits}
use Rattle.iot_acts.proofs.TraceLaws.{tree_after}

-- a run with the acts of another one, on the tree u
abbrev pub carried : Nodes → Ran → Ran
carried u ran = record { acts = ran.acts; tree = after_acts u ran.acts; ended = ran.ended }

-- if the acts hold, the run there has the same acts
pub carried_over : (kept : Kept) (n : ℕ) (place : Place) (t u : Nodes) → ActsHold u (exec kept n place t).acts
    → exec kept n place u ≡ carried u (exec kept n place t)
carried_over kept zero place t u hold = refl
carried_over kept (suc n) Over t u hold = refl
carried_over kept (suc n) (At code frames env) t u hold =
    let plan : Plan (Effect Place) = plan_at kept code frames env in
    let performed : Performed (Effect Place) = perform t plan in
    ap (λ performed. ran_then u performed (λ place t. exec kept n place t)) (same_answers plan t u hold.0)
    ∙ ap (ran_before (act_of performed ∷ []))
    (carried_over kept n performed.result.result (after_update t performed.result.update) (after_update u performed.result.update)
    hold.2)

-- if the reads are the same, the acts hold
pub same_reads_hold : (kept : Kept) (n : ℕ) (place : Place) (t u : Nodes) → IsTree u
    → reads_of (exec kept n place t).acts ≡ reads_of (exec kept n place u).acts → ActsHold u (exec kept n place t).acts
same_reads_hold kept zero place t u tree same = tt
same_reads_hold kept (suc n) Over t u tree same = tt
same_reads_hold kept (suc n) (At code frames env) t u tree same =
    let plan : Plan (Effect Place) = plan_at kept code frames env in
    let performed : Performed (Effect Place) = perform t plan in
    let on_u : Performed (Effect Place) = perform u plan in
    let start : SameStart plan t u (reads_of (exec kept n performed.result.result (after_update t performed.result.update)).acts)
    (reads_of (exec kept n on_u.result.result (after_update u on_u.result.update)).acts) =
    same_reads plan t u _ _ same in
    let later : reads_of (exec kept n performed.result.result (after_update t performed.result.update)).acts
    ≡ reads_of (exec kept n performed.result.result (after_update u performed.result.update)).acts =
    start.rest
    ∙ ap (λ (done : Performed (Effect Place)). reads_of (exec kept n done.result.result (after_update u done.result.update)).acts)
    start.same in
    let fits : FitsIfAny u performed.result.update =
    subst (λ (done : Performed (Effect Place)). FitsIfAny u done.result.update) start.same (place_fits kept code frames env u tree) in (
      subst (λ (done : Performed (Effect Place)). ReadsHold u done.reads) start.same (own_reads plan u),
      fits,
      same_reads_hold kept n performed.result.result (after_update t performed.result.update) (after_update u performed.result.update)
          (tree_after u performed.result.update tree fits) later,
    )

-- a run and the run of the same script elsewhere
pub is_alike : (script : Code) (kept : Kept) (t u : Nodes) (n : ℕ) → IsTree u → IsAlike (run script kept t n) (run script kept u n) u
is_alike script kept t u n tree =
    subst (λ (here : Ran). IsAlike here (run script kept u n) u) (exec_from_start kept script t n)
    (subst (λ (there : Ran). IsAlike (exec kept n (start script) t) there u) (exec_from_start kept script u n)
    (record {
      exactly = (
        (λ (hold : ActsHold u (exec kept n (start script) t).acts). ap (λ (ran : Ran). reads_of ran.acts)
            (carried_over kept n (start script) t u hold)),
        (λ (same : reads_of (exec kept n (start script) u).acts ≡ reads_of (exec kept n (start script) t).acts). same_reads_hold kept n
            (start script) t u tree (sym same)),
      );
      alike = λ hold. carried_over kept n (start script) t u hold;
    }))
