-- A transaction that was cut is its prefix.
use Rattle.std.proofs.Common.{◌≡◌, ◌≤◌, ℕ, zero, suc, ◌+◌, ◌-◌, List, ◌∷◌, take, Some, refl, sym, ap, subst, ◌∙◌, arith}
use Rattle.std.specs.FinMap.{empty}
use Rattle.iot_tree.specs.Tree.{Nodes, IsTree}
use Rattle.iot_tree.specs.declared.acts.Act.{Act}
use Rattle.iot_lang.specs.Code.{Code}
use Rattle.iot_acts.specs.Traces.{after_update}
use Rattle.iot_acts.specs.Turns.{reads_of}
use Rattle.iot_exec.specs.Commands.{Kept}
use Rattle.iot_exec.specs.Places.{Place, Over, At, start, plan_at, exec}
use Rattle.iot_exec.specs.Plans.{perform, Performed, Effect, act_of}
use Rattle.iot_exec.specs.Runs.{run}
use Rattle.iot_exec.specs.declared.ran.Ran.{Ran}
use Rattle.iot_exec.specs.Traces.{IsAlike}
use Rattle.iot_exec.proofs.PlaceLaws.{exec_from_start, over}
use Rattle.iot_exec.proofs.TraceLaws.{is_alike}
use Rattle.iot_machine.specs.Clients.{Item, Running, Plan, plain_run, view, so_far, back_to, IsLongest, waiting, cut_by}
use Rattle.iot_machine.specs.Clients.{plan_by}
use Rattle.iot_machine.specs.Laws.{Submits, Reruns, IsPrefixOf, ACutIsItsPrefix}
use Rattle.iot_machine.specs.Options.{Reexec}

-- from a place on, the acts of a run are the first of those of a run with more acts
first_from : (kept : Kept) (n more : ℕ) (at : Place) (t : Nodes) → (exec kept n at t).acts ≡ take n (exec kept (n + more) at t).acts
first_from kept zero more at t = refl
first_from kept (suc n) more Over t = ap (λ (ran : Ran). take (suc n) ran.acts) (sym (over kept (suc n + more) t))
first_from kept (suc n) more (At code frames env) t =
    let done : Performed (Effect Place) = perform t (plan_at kept code frames env) in
    ap (λ (acts : List Act). act_of done ∷ acts) (first_from kept n more done.result.result (after_update t done.result.update))
    ∙ ap (λ (m : ℕ). take (suc n) (exec kept m (At code frames env) t).acts) (next n more)
  where
    next : (n more : ℕ) → suc (n + more) ≡ suc n + more
    next n more = omega arith

are_first : (code : Code) (kept : Kept) (t : Nodes) (n m : ℕ) → n ≤ m → (run code kept t n).acts ≡ take n (run code kept t m).acts
are_first code kept t n m few =
    let rest : m ≡ n + (m - n) = omega arith in
    ap (λ (ran : Ran). ran.acts) (sym (exec_from_start kept code t n)) ∙ first_from kept n (m - n) (start code) t
    ∙ ap (λ (ran : Ran). take n ran.acts) (exec_from_start kept code t (n + (m - n)))
    ∙ ap (λ (m : ℕ). take n (run code kept t m).acts) (sym rest)

module _ (it : Running) (t : Nodes) (budget : ℕ) where
  abbrev item : Item
  item = waiting budget it

  -- the journaled acts that it keeps
  abbrev here : Ran
  here = so_far (back_to budget it)

  kept_acts : budget ≤ it.acts → here.acts ≡ take budget (so_far it).acts
  kept_acts few = are_first it.script.code empty it.base budget it.acts few

  alike : IsTree t → IsAlike here (plain_run it.script t budget) t
  alike tree = is_alike it.script.code empty it.base t budget tree

  submits : Submits it.script budget item
  submits = record { script_same = refl; attempt = refl; entry = λ place. refl }

  -- the plan for one that is run again
  its_plan : (held : Nodes) (plan : Plan) → plan_by held item Reexec ≡ Some plan → Reruns it.script budget item plan
  its_plan held plan is = record {
    script_same = cc;
    budget = cc;
    resubmits = λ server. record { script_same = cc; attempt = cc; entry = λ place. cc };
  }

  is_prefix : IsLongest t it budget → IsPrefixOf it t budget item
  is_prefix longest = record {
    number = refl;
    script = refl;
    budget = refl;
    reads = longest.same ∙ ap reads_of (kept_acts longest.few);
    own = λ tree.
        ap (λ (ran : Ran). ran.acts) ((alike tree).alike ((alike tree).exactly.1 longest.same)) ∙ kept_acts longest.few;
    submits = submits;
    reruns = λ held plan again is. its_plan held plan (subst (λ option. plan_by held item option ≡ Some plan) again is);
    first = λ t more few. are_first it.script.code empty t budget more few;
  }

pub a_cut_is_its_prefix : ACutIsItsPrefix
a_cut_is_its_prefix s it running acts runs longest = record {
  item = waiting acts it;
  run = ap (λ running. (cut_by acts running s).running) runs;
  waits = ap (λ running. (cut_by acts running s).items) runs;
  is = is_prefix it (view s) acts longest;
}
