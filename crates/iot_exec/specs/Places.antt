-- The place in a script at which its next act is done, and the acts from there on.
use Rattle.std.specs.Prelude.{◌≡◌, ℕ, zero, suc, ◌+◌, Bool, true, false, List, [], ◌∷◌, ◌++◌, length, if◌then◌else◌}
use Rattle.iot_tree.specs.Tree.{Nodes}
use Rattle.iot_tree.specs.declared.acts.Act.{Act}
use Rattle.iot_lang.specs.Code.{Code, End, Plain, Halt, If, IfElse, For}
use Rattle.iot_exec.specs.Plans.{Plan, Done, mapped, perform, Performed, Effect, silent, going_on, act_of}
use Rattle.iot_acts.specs.Traces.{after_update}
use Rattle.iot_exec.specs.Values.{fresh, with_variable}
use Rattle.iot_exec.specs.declared.env.Env.{Env}
use Rattle.iot_exec.specs.Commands.{Kept, plan_of_command, plan_of_condition, plan_of_loop}
use Rattle.iot_exec.specs.Runs.{run}
use Rattle.iot_exec.specs.declared.ran.Ran.{Ran}

-- what is left to do around a block: statements, or further turns of a loop
pub data Frame : Type 0 where
  Rest : (code : Code) → Frame
  Again : (variable : List ℕ) (names : List (List ℕ)) (body : Code) → Frame

-- the script is at its end, or the first of these statements is next
pub data Place : Type 0 where
  Over : Place
  At : (code : Code) (frames : List Frame) (env : Env) → Place

-- turns of an empty body are passed over
abbrev pub begin_turn : List ℕ → List (List ℕ) → Code → List Frame → (Env → Place) → Env → Place
begin_turn variable [] body frames later env = later env
begin_turn variable (name ∷ names) End frames later env = begin_turn variable names End frames later (with_variable variable name env)
begin_turn variable (name ∷ names) body frames later env = At body (Again variable names body ∷ frames) (with_variable variable name env)

-- the next statement; blocks without a statement left and loops without a turn left are passed over
abbrev pub reached : List Frame → Env → Place
reached [] env = Over
reached (Rest End ∷ frames) env = reached frames env
reached (Rest code ∷ frames) env = At code frames env
reached (Again variable names body ∷ frames) env = begin_turn variable names body frames (λ env. reached frames env) env

-- the place at which a script begins
abbrev pub start : Code → Place
start script = reached (Rest script ∷ []) fresh

-- the next act, and the place after it
abbrev pub plan_at : Kept → Code → List Frame → Env → Plan (Effect Place)
plan_at kept End frames env = Done (silent Over)
plan_at kept (Plain command rest) frames env =
    mapped (going_on (λ env. reached (Rest rest ∷ frames) env)) (plan_of_command kept env command)
plan_at kept (Halt rest) frames env = Done (silent Over)
plan_at kept (If condition body rest) frames env =
    mapped (going_on (λ holds. reached (if holds then Rest body ∷ Rest rest ∷ frames else Rest rest ∷ frames) env))
    (plan_of_condition env condition)
plan_at kept (IfElse condition body other rest) frames env =
    mapped (going_on (λ holds. reached (if holds then Rest body ∷ Rest rest ∷ frames else Rest other ∷ Rest rest ∷ frames) env))
    (plan_of_condition env condition)
plan_at kept (For variable path body rest) frames env =
    mapped (going_on (λ turns. reached (Again variable turns.names body ∷ Rest rest ∷ frames) turns.env)) (plan_of_loop env path)

-- ---- so many acts from a place on

abbrev pub is_over : Place → Bool
is_over Over = true
is_over (At code frames env) = false

-- these acts were done before
abbrev pub ran_before : List Act → Ran → Ran
ran_before before ran = record { acts = before ++ ran.acts; tree = ran.tree; ended = ran.ended }

-- an act that was performed, and what comes after it
abbrev pub ran_then : Nodes → Performed (Effect Place) → (Place → Nodes → Ran) → Ran
ran_then t performed next = ran_before (act_of performed ∷ []) (next performed.result.result (after_update t performed.result.update))

abbrev pub acts_at : Kept → (Place → Nodes → Ran) → Place → Nodes → Ran
acts_at kept next Over t = record { acts = []; tree = t; ended = true }
acts_at kept next (At code frames env) t = ran_then t (perform t (plan_at kept code frames env)) next

abbrev pub exec : Kept → ℕ → Place → Nodes → Ran
exec kept zero place t = record { acts = []; tree = t; ended = is_over place }
exec kept (suc n) place t = acts_at kept (λ place t. exec kept n place t) place t

-- at this place, with this tree and after n acts, the run of the script on t0 with a budget of n is through, and runs with
-- larger budgets go on from here
pub record IsAfter (script : Code) (kept : Kept) (t0 : Nodes) (n : ℕ) (acts : List Act) (place : Place) (t : Nodes) : Type 0 where
  pub count : length acts ≡ n
  pub is_run : run script kept t0 n ≡ record { acts = acts; tree = t; ended = is_over place }
  pub goes_on : (m : ℕ) → run script kept t0 (n + m) ≡ ran_before acts (exec kept m place t)
