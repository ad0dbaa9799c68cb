-- What the interpreter of a running transaction tells of its script's run.
use Rattle.std.proofs.Common.{◌≡◌, ◌⊎◌, ℕ, ◌≤◌, ◌<◌, Bool, true, false, List, [], ◌∷◌, Option, Some, None, length, drop, ◌||◌}
use Rattle.std.proofs.Common.{refl, sym, ap, subst, ◌∙◌, inl, inr, arith}
use Rattle.std.proofs.lemmas.Bool.{leb-true}
use Rattle.std.proofs.Math.Seq.{drop-append_seam}
use Rattle.std.specs.Prelude.{IsSomeAnd, leb, option_map, unwrap_or, if◌then◌else◌}
use Rattle.std.specs.FinMap.{empty}
use Rattle.iot_tree.specs.Tree.{Path, Nodes}
use Rattle.iot_tree.specs.declared.acts.Act.{Act}
use Rattle.iot_tree.specs.declared.limits.TheConstants.{ACT_LIMIT}
use Rattle.iot_exec.specs.Commands.{Kept}
use Rattle.iot_exec.specs.Places.{Place, Over, At, is_over, exec}
use Rattle.iot_exec.specs.Execs.{IsNextAt, place, kept_by, act_count, next_miss}
use Rattle.iot_exec.proofs.RunLaws.{ran_is}
use Rattle.iot_exec.specs.declared.ran.Ran.{Ran}
use Rattle.iot_kept.specs.States.{Transaction, numbered, own_view}
use Rattle.iot_lang.specs.Code.{Code}
use Rattle.iot_client.specs.Calls.{has_ended, may_end, next_acts, missed, missed_by, live_numbered, is_over_if_any, may_end_if_any, unended}
use Rattle.iot_client.specs.Calls.{not_at_end, ChangesClasses, StepIs, IsSoOf}
use Rattle.iot_client.specs.Doing.{GoesOn}
use Rattle.iot_client.specs.Ties.{Live, IsRun, IsRunIfAny, IsOwnRun, IsOwnRunIfAny, AreRuns, AreOwnRuns, code_in, lives, run_of}
use Rattle.iot_client.specs.declared.client.Client.{Client}
use Rattle.iot_client.specs.declared.fault.ClientFault.{ClientFault}
use Rattle.iot_client.specs.declared.fault.ClientFault.TheVariants.{NotAtEnd}
use Rattle.iot_client.specs.declared.interpreter.Interpreter.{Interpreter}
use Rattle.iot_client.specs.declared.steps.Step.TheVariants as steps
use Rattle.iot_client.proofs.PlaceLaws.{Here}

-- ---- the next act

one_act : (kept : Kept) (place : Place) (t u : Nodes) (act : Act) (after : Place) → IsNextAt kept place t act after u
    → (exec kept 1 place t).acts ≡ act ∷ []
one_act kept Over t u act after next = absurd next
one_act kept (At code frames env) t u act after next = ap (λ (act : Act). act ∷ []) (sym next.act)

one_miss : (kept : Kept) (place : Place) (t : Nodes) → missed (exec kept 1 place t).acts ≡ next_miss kept place t
one_miss kept Over t = refl
one_miss kept (At code frames env) t = refl

same_classes : {D : Type 0} (client : Client D) → ChangesClasses client client
same_classes client = record { state = refl; stamps = refl; place = refl; disk = refl; records = refl }

abbrev unended_by : Bool → Option ClientFault
unended_by over = if over then None else Some NotAtEnd

either : (a b : Bool) → (a || b) ≡ true → (a ≡ true) ⊎ (b ≡ true)
either true b is = inl refl
either false b is = inr is

module _ (it : Transaction) (i : Interpreter) (runs : IsRun it i) where
  -- ---- the run

  -- whether the script has ended
  pub ended_is : has_ended it i.script.value ≡ is_over (place i.exec)
  ended_is = ap (λ (ran : Ran). ran.ended) runs.run.after.is_run

  -- the acts so far are those of the run
  pub own_run : IsOwnRun it i.script.value
  own_run = record {
    acts = ap (λ (ran : Ran). ran.acts) runs.run.after.is_run;
    tree = ap (λ (ran : Ran). ran.tree) runs.run.after.is_run;
  }

  -- the run with the whole budget
  pub whole_run : may_end it i.script.value ≡ true
      → record { acts = it.acts; tree = own_view it; ended = is_over (place i.exec) } ≡ run_of it i.script.value ACT_LIMIT
  whole_run may =
      let counted : act_count i.exec ≡ length it.acts = runs.run.counted in
      let stops : (is_over (place i.exec) ≡ true) ⊎ (ACT_LIMIT ≤ act_count i.exec) =
      elim (either (has_ended it i.script.value) (leb ACT_LIMIT (length it.acts)) may) [
        | inl over ↦ inl (sym ended_is ∙ over)
        | inr full ↦ inr (subst (λ (n : ℕ). ACT_LIMIT ≤ n) (sym counted) (leb-true ACT_LIMIT (length it.acts) full))
      ] in
      ran_is i.script.value empty it.base it.acts i.exec (own_view it) ACT_LIMIT (is_over (place i.exec)) runs.run
      (subst (λ (n : ℕ). n ≤ ACT_LIMIT) (sym counted) runs.few) refl stops

  -- ---- the next act

  next_is : next_acts it i.script.value ≡ (exec empty 1 (place i.exec) (own_view it)).acts
  next_is =
      ap (λ (ran : Ran). drop (length it.acts) ran.acts) (runs.run.after.goes_on 1)
      ∙ drop-append_seam it.acts (exec empty 1 (place i.exec) (own_view it)).acts

  -- it is the act that was done
  pub next_done : (act : Act) (after : Place) (u : Nodes) → IsNextAt (kept_by i.exec) (place i.exec) (own_view it) act after u
      → next_acts it i.script.value ≡ act ∷ []
  next_done act after u next =
      next_is
      ∙ one_act empty (place i.exec) (own_view it) u act after
      (subst (λ (kept : Kept). IsNextAt kept (place i.exec) (own_view it) act after u) runs.run.kept_same next)

  -- what it misses
  pub missed_is : (first : Bool) (path : Option Path) → path ≡ missed_by first (next_miss (kept_by i.exec) (place i.exec) (own_view it))
      → path ≡ missed_by first (missed (next_acts it i.script.value))
  missed_is first path is =
      is
      ∙ ap (λ (kept : Kept). missed_by first (next_miss kept (place i.exec) (own_view it))) runs.run.kept_same
      ∙ ap (missed_by first) (sym (one_miss empty (place i.exec) (own_view it)))
      ∙ ap (λ (acts : List Act). missed_by first (missed acts)) (sym next_is)

  -- ---- why no act is done

  module _ {D : Type 0} (client : Client D) (first : Bool) (acts : ℕ) (is : acts ≡ act_count i.exec) where
    -- its script has ended
    pub at_end : is_over (place i.exec) ≡ true → StepIs client it first i.script.value (steps.AtEnd acts) client
    at_end over = (ended_is ∙ over, is ∙ runs.run.counted, same_classes client)

    -- it may do no more
    pub at_limit : is_over (place i.exec) ≡ false → ACT_LIMIT ≤ act_count i.exec
        → StepIs client it first i.script.value (steps.AtLimit acts) client
    at_limit goes full =
        let all : length it.acts ≡ ACT_LIMIT = omega (arith, full, runs.few, runs.run.counted) in
        (ended_is ∙ goes, is ∙ runs.run.counted ∙ all, all, same_classes client)

  -- else it goes on
  pub goes_on : (first : Bool) → is_over (place i.exec) ≡ false → (ACT_LIMIT ≤ act_count i.exec → ⊥) → GoesOn it first i.script.value
  goes_on first goes more =
      let within : act_count i.exec < ACT_LIMIT = omega (arith, more) in
      (ended_is ∙ goes, subst (λ (n : ℕ). n < ACT_LIMIT) runs.run.counted within)

  -- whether it may be ended
  pub may_end_is : may_end it i.script.value ≡ (is_over (place i.exec) || leb ACT_LIMIT (act_count i.exec))
  may_end_is = λ k. ended_is k || leb ACT_LIMIT (sym runs.run.counted k)

-- what is so of one whose interpreter is there
pub known : (it : Transaction) (o : Option Interpreter) (i : Interpreter) (P : Code → Type 0) → o ≡ Some i → IsRunIfAny it o
    → (IsRun it i → P i.script.value) → IsSomeAnd (code_in o) P
known it o i P is runs so =
    subst (λ (o : Option Interpreter). IsSomeAnd (code_in o) P) (sym is) (so (subst (IsRunIfAny it) is runs))

-- ---- whether its script has ended, and whether it may be ended

abbrev pub is_over_by : Option Interpreter → Bool
is_over_by None = false
is_over_by (Some i) = is_over (place i.exec)

abbrev pub may_end_by : Option Interpreter → Bool
may_end_by None = false
may_end_by (Some i) = is_over (place i.exec) || leb ACT_LIMIT (act_count i.exec)

over_of : (it : Transaction) (o : Option Interpreter) → IsRunIfAny it o
    → unwrap_or (option_map (has_ended it) (code_in o)) false ≡ is_over_by o
over_of it None runs = refl
over_of it (Some i) runs = ended_is it i runs

may_of : (it : Transaction) (o : Option Interpreter) → IsRunIfAny it o
    → unwrap_or (option_map (may_end it) (code_in o)) false ≡ may_end_by o
may_of it None runs = refl
may_of it (Some i) runs = may_end_is it i runs

module _ (number at : ℕ) (running : List Transaction) (classes : List Bool) (interpreters : List (Option Interpreter))
    (h : Here number at running classes interpreters) where
  pub over_here : is_over_if_any (numbered number running) (live_numbered number running (lives classes interpreters))
      ≡ is_over_by h.interpreter
  over_here = (λ k. is_over_if_any (h.found k) (h.live k)) ∙ over_of h.it h.interpreter h.run

  may_here : may_end_if_any (numbered number running) (live_numbered number running (lives classes interpreters))
      ≡ may_end_by h.interpreter
  may_here = (λ k. may_end_if_any (h.found k) (h.live k)) ∙ may_of h.it h.interpreter h.run

  pub unended_here : (i : Interpreter) → h.interpreter ≡ Some i
      → not_at_end (is_over (place i.exec)) (act_count i.exec)
      ≡ unended (numbered number running)
      (may_end_if_any (numbered number running) (live_numbered number running (lives classes interpreters)))
  unended_here i is = sym ((λ k. unended (h.found k) (may_here k)) ∙ ap (λ (o : Option Interpreter). unended (Some h.it) (may_end_by o)) is)

-- it may be ended if that is not refused
unrefused : (b : Bool) → None ≡ unended_by b → b ≡ true
unrefused true is = refl
unrefused false is = absurd cc

may_code : (it : Transaction) (code : Option Code) → None ≡ unended_by (unwrap_or (option_map (may_end it) code) false)
    → IsSomeAnd code (λ (code : Code). may_end it code ≡ true)
may_code it None is = absurd cc
may_code it (Some code) is = unrefused (may_end it code) is

pub may_be_ended : (it : Option Transaction) (live : Option Live) → None ≡ unended it (may_end_if_any it live)
    → IsSoOf (λ it first code. may_end it code ≡ true) it live
may_be_ended None live is = absurd cc
may_be_ended (Some it) None is = absurd cc
may_be_ended (Some it) (Some live) is = may_code it live.code is

-- ---- all that run

own_run_if_any : (it : Transaction) (interpreter : Option Interpreter) → IsRunIfAny it interpreter
    → IsOwnRunIfAny it (code_in interpreter)
own_run_if_any it None runs = tt
own_run_if_any it (Some i) runs = own_run it i runs

pub own_runs : (running : List Transaction) (classes : List Bool) (interpreters : List (Option Interpreter))
    → length classes ≡ length running → AreRuns running interpreters → AreOwnRuns running (lives classes interpreters)
own_runs [] [] [] count runs = tt
own_runs [] (first ∷ classes) interpreters count runs = absurd (omega (arith, count))
own_runs [] [] (i ∷ interpreters) count runs = absurd runs
own_runs (it ∷ running) [] interpreters count runs = absurd (omega (arith, count))
own_runs (it ∷ running) (first ∷ classes) [] count runs = absurd runs
own_runs (it ∷ running) (first ∷ classes) (i ∷ interpreters) count runs =
    (own_run_if_any it i runs.0, own_runs running classes interpreters (omega (arith, count)) runs.1)
