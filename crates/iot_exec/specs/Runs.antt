-- What a script does on a tree with at most so many acts, by its syntax.
use Rattle.std.specs.Prelude.{ℕ, zero, suc, true, false, List, [], ◌∷◌, ◌++◌, None, if◌then◌else◌}
use Rattle.iot_tree.specs.Tree.{Nodes}
use Rattle.iot_tree.specs.declared.acts.Act.{Act}
use Rattle.iot_lang.specs.Code.{Code, End, Plain, Halt, If, IfElse, For}
use Rattle.iot_exec.specs.Plans.{Plan, perform, Effect, act_of}
use Rattle.iot_acts.specs.Traces.{after_update}
use Rattle.iot_exec.specs.Values.{fresh, with_variable}
use Rattle.iot_exec.specs.declared.env.Env.{Env}
use Rattle.iot_exec.specs.Commands.{Kept, plan_of_command, plan_of_condition, plan_of_loop}
use Rattle.iot_exec.specs.declared.ran.Ran.{Ran}
use Rattle.iot_exec.specs.declared.ran.Acted.{Acted}

-- how statements in turn end, each time with their acts and the tree after them: no statement was left, and so many acts
-- were; or a statement was reached when no act was left; or `stop` was done
pub data Outcome : Type 0 where
  Done : (acts : List Act) (tree : Nodes) (env : Env) (left : ℕ) → Outcome
  Cut : (acts : List Act) (tree : Nodes) → Outcome
  Stopped : (acts : List Act) (tree : Nodes) → Outcome

-- these acts were done before
abbrev pub with_acts : List Act → Outcome → Outcome
with_acts before (Done acts t env left) = Done (before ++ acts) t env left
with_acts before (Cut acts t) = Cut (before ++ acts) t
with_acts before (Stopped acts t) = Stopped (before ++ acts) t

-- if the first statements are through, the next go on
abbrev pub after : Outcome → (Nodes → Env → ℕ → Outcome) → Outcome
after (Done acts t env left) next = with_acts acts (next t env left)
after (Cut acts t) next = Cut acts t
after (Stopped acts t) next = Stopped acts t

-- one act on the tree of its moment, and what comes after it
abbrev pub act_then : {R : Type 0} → Nodes → Plan (Effect R) → (Nodes → R → Outcome) → Outcome
act_then t plan next =
    let performed = perform t plan in
    with_acts (act_of performed ∷ []) (next (after_update t performed.result.update) performed.result.result)

-- for each name in turn, the variable takes the name and the body is run
abbrev pub each_turn : (Nodes → Env → ℕ → Outcome) → List ℕ → List (List ℕ) → Nodes → Env → ℕ → Outcome
each_turn body variable [] t env left = Done [] t env left
each_turn body variable (name ∷ names) t env left =
    after (body t (with_variable variable name env) left) (λ t env left. each_turn body variable names t env left)

-- `stop` asks, changes and prints nothing
abbrev pub stop : Act
stop = record { reads = []; update = None; lines = [] }

-- the statements in turn, each one act
abbrev pub run_code : Kept → Code → Nodes → Env → ℕ → Outcome
run_code kept End t env left = Done [] t env left
run_code kept (Plain command rest) t env zero = Cut [] t
run_code kept (Plain command rest) t env (suc left) = act_then t (plan_of_command kept env command) (λ t env. run_code kept rest t env left)
run_code kept (Halt rest) t env zero = Cut [] t
run_code kept (Halt rest) t env (suc left) = Stopped (stop ∷ []) t
run_code kept (If condition body rest) t env zero = Cut [] t
run_code kept (If condition body rest) t env (suc left) =
    act_then t (plan_of_condition env condition)
    (λ t holds. after (if holds then run_code kept body t env left else Done [] t env left) (λ t env left. run_code kept rest t env left))
run_code kept (IfElse condition body other rest) t env zero = Cut [] t
run_code kept (IfElse condition body other rest) t env (suc left) =
    act_then t (plan_of_condition env condition)
    (λ t holds. after (if holds then run_code kept body t env left else run_code kept other t env left)
    (λ t env left. run_code kept rest t env left))
run_code kept (For variable path body rest) t env zero = Cut [] t
run_code kept (For variable path body rest) t env (suc left) =
    act_then t (plan_of_loop env path)
    (λ t turns. after (each_turn (λ t env left. run_code kept body t env left) variable turns.names t turns.env left)
    (λ t env left. run_code kept rest t env left))

-- a run is ended if no statement was left or `stop` was done
abbrev pub ran_of : Outcome → Ran
ran_of (Done acts t env left) = record { acts = acts; tree = t; ended = true }
ran_of (Cut acts t) = record { acts = acts; tree = t; ended = false }
ran_of (Stopped acts t) = record { acts = acts; tree = t; ended = true }

-- the run of a script on a tree with a budget of acts
abbrev pub run : Code → Kept → Nodes → ℕ → Ran
run script kept t budget = ran_of (run_code kept script t fresh budget)

-- what was done on a lent tree, with the tree that it left
abbrev pub ran_on : Acted → Nodes → Ran
ran_on acted t = record { acts = acted.acts; tree = t; ended = acted.ended }
