-- Budgets of acts: a run that has ended, a run with one act more, and a run with a smaller budget.
use Rattle.std.proofs.Common.{◌≡◌, ◌≤◌, ℕ, zero, suc, ◌+◌, ◌-◌, true, false, List, [], ◌∷◌, ◌++◌, length, take, refl, sym, ap, subst, ◌∙◌}
use Rattle.std.proofs.Common.{arith}
use Rattle.iot_tree.specs.Tree.{Nodes}
use Rattle.iot_tree.specs.declared.acts.Act.{Act}
use Rattle.iot_lang.specs.Code.{Code}
use Rattle.iot_acts.specs.Traces.{after_update}
use Rattle.iot_exec.specs.Commands.{Kept}
use Rattle.iot_exec.specs.Plans.{perform, Performed, Effect, act_of}
use Rattle.iot_exec.specs.Runs.{run}
use Rattle.iot_exec.specs.Places.{Place, Over, At, start, plan_at, ran_before, exec}
use Rattle.iot_exec.specs.declared.ran.Ran.{Ran}
use Rattle.iot_exec.proofs.PlaceLaws.{exec_from_start, over}

-- ---- runs that have ended

-- from a place on, with a budget of more acts
ended_from : (kept : Kept) (n more : ℕ) (at : Place) (t : Nodes) → (exec kept n at t).ended ≡ true
    → exec kept (n + more) at t ≡ exec kept n at t
ended_from kept zero more Over t is = over kept (0 + more) t
ended_from kept zero more (At code frames env) t is = absurd cc
ended_from kept (suc n) more Over t is = over kept (suc n + more) t
ended_from kept (suc n) more (At code frames env) t is =
    let done : Performed (Effect Place) = perform t (plan_at kept code frames env) in
    ap (λ (n : ℕ). exec kept n (At code frames env) t) (next n more)
    ∙ ap (ran_before (act_of done ∷ [])) (ended_from kept n more done.result.result (after_update t done.result.update) is)
  where
    next : (n more : ℕ) → suc n + more ≡ suc (n + more)
    next n more = omega arith

module _ (code : Code) (kept : Kept) (t : Nodes) (n : ℕ) where
  -- a run that has ended is the same with a greater budget
  pub ended_stays : (m : ℕ) → n ≤ m → (run code kept t n).ended ≡ true → run code kept t m ≡ run code kept t n
  ended_stays m more is =
      let rest : m ≡ n + (m - n) = omega arith in
      ap (run code kept t) rest ∙ sym (exec_from_start kept code t (n + (m - n)))
      ∙ ended_from kept n (m - n) (start code) t (ap (λ (ran : Ran). ran.ended) (exec_from_start kept code t n) ∙ is)
      ∙ exec_from_start kept code t n

-- ---- one act more

-- the second run has the acts of the first, which are n, and one more
pub record HasOneMore (n : ℕ) (before after : Ran) : Type 0 where
  pub act : Act
  pub count : length before.acts ≡ n
  pub acts : after.acts ≡ before.acts ++ act ∷ []
  pub tree : after.tree ≡ after_update before.tree act.update

more_from : (kept : Kept) (n : ℕ) (at : Place) (t : Nodes) → (exec kept n at t).ended ≡ false
    → HasOneMore n (exec kept n at t) (exec kept (suc n) at t)
more_from kept zero Over t on = absurd cc
more_from kept zero (At code frames env) t on =
    record { act = act_of (perform t (plan_at kept code frames env)); count = refl; acts = refl; tree = refl }
more_from kept (suc n) Over t on = absurd cc
more_from kept (suc n) (At code frames env) t on =
    let done : Performed (Effect Place) = perform t (plan_at kept code frames env) in
    let rest : HasOneMore n (exec kept n done.result.result (after_update t done.result.update))
    (exec kept (suc n) done.result.result (after_update t done.result.update)) =
    more_from kept n done.result.result (after_update t done.result.update) on in
    record {
      act = rest.act;
      count = ap suc rest.count;
      acts = ap (λ (acts : List Act). act_of done ∷ acts) rest.acts;
      tree = rest.tree;
    }

module _ (code : Code) (kept : Kept) (t : Nodes) (n : ℕ) where
  -- a run that has not ended does one act more if it may
  pub has_one_more : (run code kept t n).ended ≡ false → HasOneMore n (run code kept t n) (run code kept t (n + 1))
  has_one_more on =
      subst (λ (after : Ran). HasOneMore n (run code kept t n) after) (exec_from_start kept code t (n + 1))
      (subst (λ (before : Ran). HasOneMore n before (exec kept (n + 1) (start code) t)) (exec_from_start kept code t n)
      (subst (λ (m : ℕ). HasOneMore n (exec kept n (start code) t) (exec kept m (start code) t)) (next n)
      (more_from kept n (start code) t (ap (λ (ran : Ran). ran.ended) (exec_from_start kept code t n) ∙ on))))
    where
      next : (n : ℕ) → suc n ≡ n + 1
      next n = omega arith

-- without acts the tree is as before
pub nothing_done : (code : Code) (kept : Kept) (t : Nodes) → (run code kept t 0).tree ≡ t
nothing_done code kept t = ap (λ (ran : Ran). ran.tree) (sym (exec_from_start kept code t 0))

-- ---- a smaller budget

-- from a place on, the acts of a run are the first of those of a run with more acts
front_from : (kept : Kept) (n more : ℕ) (at : Place) (t : Nodes) → (exec kept n at t).acts ≡ take n (exec kept (n + more) at t).acts
front_from kept zero more at t = refl
front_from kept (suc n) more Over t = ap (λ (ran : Ran). take (suc n) ran.acts) (sym (over kept (suc n + more) t))
front_from kept (suc n) more (At code frames env) t =
    let done : Performed (Effect Place) = perform t (plan_at kept code frames env) in
    ap (λ (acts : List Act). act_of done ∷ acts) (front_from kept n more done.result.result (after_update t done.result.update))
    ∙ ap (λ (m : ℕ). take (suc n) (exec kept m (At code frames env) t).acts) (next n more)
  where
    next : (n more : ℕ) → suc (n + more) ≡ suc n + more
    next n more = omega arith

-- a run has the first acts of the run with a greater budget
pub front_acts : (code : Code) (kept : Kept) (t : Nodes) (n m : ℕ) → n ≤ m → (run code kept t n).acts ≡ take n (run code kept t m).acts
front_acts code kept t n m few =
    let rest : m ≡ n + (m - n) = omega arith in
    ap (λ (ran : Ran). ran.acts) (sym (exec_from_start kept code t n)) ∙ front_from kept n (m - n) (start code) t
    ∙ ap (λ (ran : Ran). take n ran.acts) (exec_from_start kept code t (n + (m - n)))
    ∙ ap (λ (m : ℕ). take n (run code kept t m).acts) (sym rest)
