-- One act at a time is the meaning by the syntax.
use Rattle.std.proofs.Common.{◌≡◌, ℕ, zero, suc, ◌+◌, Bool, true, false, List, [], ◌∷◌, ◌++◌, refl, sym, ap, ◌∙◌, append_assoc}
use Rattle.std.proofs.Common.{length-append, zero-add, add-zero, arith, if◌then◌else◌}
use Rattle.std.proofs.lemmas.List.{append-nil}
use Rattle.iot_tree.specs.Tree.{Nodes}
use Rattle.iot_tree.specs.declared.acts.Act.{Act}
use Rattle.iot_lang.specs.Code.{Code, End, Plain, Halt, If, IfElse, For}
use Rattle.iot_exec.specs.Plans.{Plan, mapped, perform, Performed, Effect, going_on, act_of}
use Rattle.iot_acts.specs.Traces.{after_update}
use Rattle.iot_exec.specs.Values.{fresh, with_variable}
use Rattle.iot_exec.specs.declared.env.Env.{Env}
use Rattle.iot_exec.specs.Commands.{Kept, plan_of_command, plan_of_condition, plan_of_loop}
use Rattle.iot_exec.specs.Runs.{Outcome, Done, Cut, Stopped, with_acts, after, act_then, each_turn, stop, run_code, ran_of, run}
use Rattle.iot_exec.specs.Places.{Frame, Rest, Again, Place, Over, At, reached, start, plan_at, is_over, ran_before, ran_then, exec}
use Rattle.iot_exec.specs.Places.{IsAfter}
use Rattle.iot_exec.specs.declared.ran.Ran.{Ran}
use Rattle.iot_exec.proofs.PlanLaws.{perform-mapped}

-- what a run comes to that goes on after these statements
abbrev pub finish : Outcome → (Nodes → Env → ℕ → Ran) → Ran
finish (Done acts t env left) next = ran_before acts (next t env left)
finish (Cut acts t) next = record { acts = acts; tree = t; ended = false }
finish (Stopped acts t) next = record { acts = acts; tree = t; ended = true }

before_before : (xs ys : List Act) (ran : Ran) → ran_before xs (ran_before ys ran) ≡ ran_before (xs ++ ys) ran
before_before xs ys ran = ap (λ acts. record { acts = acts; tree = ran.tree; ended = ran.ended }) (sym (append_assoc xs ys ran.acts))

finish-with_acts : (acts : List Act) (out : Outcome) (next : Nodes → Env → ℕ → Ran)
    → finish (with_acts acts out) next ≡ ran_before acts (finish out next)
finish-with_acts acts (Done later t env left) next = sym (before_before acts later (next t env left))
finish-with_acts acts (Cut later t) next = refl
finish-with_acts acts (Stopped later t) next = refl

finish-after : (out : Outcome) (f : Nodes → Env → ℕ → Outcome) (g : Nodes → Env → ℕ → Ran)
    → finish (after out f) g ≡ finish out (λ t env left. finish (f t env left) g)
finish-after (Done acts t env left) f g = finish-with_acts acts (f t env left) g
finish-after (Cut acts t) f g = refl
finish-after (Stopped acts t) f g = refl

same_finish : (out : Outcome) (f g : Nodes → Env → ℕ → Ran) → ((t : Nodes) (env : Env) (left : ℕ) → f t env left ≡ g t env left)
    → finish out f ≡ finish out g
same_finish (Done acts t env left) f g same = ap (ran_before acts) (same t env left)
same_finish (Cut acts t) f g same = refl
same_finish (Stopped acts t) f g same = refl

-- from these frames on
abbrev pub goes : Kept → List Frame → Nodes → Env → ℕ → Ran
goes kept frames t env left = exec kept left (reached frames env) t

-- at the end nothing more is done
pub over : (kept : Kept) (n : ℕ) (t : Nodes) → exec kept n Over t ≡ record { acts = []; tree = t; ended = true }
over kept zero t = refl
over kept (suc n) t = refl

-- a turn begins: the body, and then the other turns
turn : (variable name : List ℕ) (names : List (List ℕ)) (body : Code) (frames : List Frame) (env : Env)
    → reached (Again variable (name ∷ names) body ∷ frames) env
    ≡ reached (Rest body ∷ Again variable names body ∷ frames) (with_variable variable name env)
turn variable name names End frames env = refl
turn variable name names (Plain command rest) frames env = refl
turn variable name names (Halt rest) frames env = refl
turn variable name names (If condition body rest) frames env = refl
turn variable name names (IfElse condition body other rest) frames env = refl
turn variable name names (For x path body rest) frames env = refl

-- statements go on with what is after them
abbrev IsRun : Kept → Code → Type 0
IsRun kept code =
    (frames : List Frame) (t : Nodes) (env : Env) (n : ℕ)
    → goes kept (Rest code ∷ frames) t env n ≡ finish (run_code kept code t env n) (goes kept frames)

-- an act by the machine is that act by the syntax, if what comes after it is
act_is : {R : Type 0} (kept : Kept) (n : ℕ) (t : Nodes) (plan : Plan (Effect R)) (f : R → Place) (next : Nodes → R → Outcome)
    (behind : Nodes → Env → ℕ → Ran)
    → ((t : Nodes) (r : R) → exec kept n (f r) t ≡ finish (next t r) behind)
    → ran_then t (perform t (mapped (going_on f) plan)) (λ place t. exec kept n place t) ≡ finish (act_then t plan next) behind
act_is {R = R} kept n t plan f next behind later =
    let performed : Performed (Effect R) = perform t plan in
    ap (λ performed. ran_then t performed (λ place t. exec kept n place t)) (perform-mapped (going_on f) plan t)
    ∙ ap (ran_before (act_of performed ∷ [])) (later (after_update t performed.result.update) performed.result.result)
    ∙ sym (finish-with_acts (act_of performed ∷ []) (next (after_update t performed.result.update) performed.result.result) behind)

-- the turns of a loop are those of the list of its names
all_turns : (kept : Kept) (body : Code) → IsRun kept body
    → (variable : List ℕ) (names : List (List ℕ)) (frames : List Frame) (t : Nodes) (env : Env) (n : ℕ)
    → goes kept (Again variable names body ∷ frames) t env n
    ≡ finish (each_turn (λ t env left. run_code kept body t env left) variable names t env n) (goes kept frames)
all_turns kept body is variable [] frames t env n = refl
all_turns kept body is variable (name ∷ names) frames t env n =
    ap (λ place. exec kept n place t) (turn variable name names body frames env)
    ∙ is (Again variable names body ∷ frames) t (with_variable variable name env) n
    ∙ same_finish (run_code kept body t (with_variable variable name env) n) _ _
    (λ t env n. all_turns kept body is variable names frames t env n)
    ∙ sym
    (finish-after (run_code kept body t (with_variable variable name env) n)
    (λ t env left. each_turn (λ t env left. run_code kept body t env left) variable names t env left) (goes kept frames))

-- statements, and after them others
behind_them : (kept : Kept) (rest : Code) → IsRun kept rest → (out : Outcome) (frames : List Frame)
    → finish out (goes kept (Rest rest ∷ frames)) ≡ finish (after out (λ t env left. run_code kept rest t env left)) (goes kept frames)
behind_them kept rest is out frames =
    same_finish out _ _ (λ t env left. is frames t env left)
    ∙ sym (finish-after out (λ t env left. run_code kept rest t env left) (goes kept frames))

-- one of two blocks
chosen_if : (kept : Kept) (body : Code) → IsRun kept body → (holds : Bool) (frames : List Frame) (t : Nodes) (env : Env) (n : ℕ)
    → goes kept (if holds then Rest body ∷ frames else frames) t env n
    ≡ finish (if holds then run_code kept body t env n else Done [] t env n) (goes kept frames)
chosen_if kept body is true frames t env n = is frames t env n
chosen_if kept body is false frames t env n = refl

chosen_else : (kept : Kept) (body other : Code) → IsRun kept body → IsRun kept other
    → (holds : Bool) (frames : List Frame) (t : Nodes) (env : Env) (n : ℕ)
    → goes kept (if holds then Rest body ∷ frames else Rest other ∷ frames) t env n
    ≡ finish (if holds then run_code kept body t env n else run_code kept other t env n) (goes kept frames)
chosen_else kept body other is_body is_other true frames t env n = is_body frames t env n
chosen_else kept body other is_body is_other false frames t env n = is_other frames t env n

-- one act at a time is the meaning by the syntax
pub exec_is_run : (kept : Kept) (code : Code) → IsRun kept code
exec_is_run kept End frames t env n = refl
exec_is_run kept (Plain command rest) frames t env zero = refl
exec_is_run kept (Plain command rest) frames t env (suc n) =
    act_is kept n t (plan_of_command kept env command) (λ env. reached (Rest rest ∷ frames) env) (λ t env. run_code kept rest t env n)
    (goes kept frames) (λ t env. exec_is_run kept rest frames t env n)
exec_is_run kept (Halt rest) frames t env zero = refl
exec_is_run kept (Halt rest) frames t env (suc n) = ap (ran_before (stop ∷ [])) (over kept n t)
exec_is_run kept (If condition body rest) frames t env zero = refl
exec_is_run kept (If condition body rest) frames t env (suc n) =
    act_is kept n t (plan_of_condition env condition)
    (λ holds. reached (if holds then Rest body ∷ Rest rest ∷ frames else Rest rest ∷ frames) env)
    (λ t holds. after (if holds then run_code kept body t env n else Done [] t env n) (λ t env left. run_code kept rest t env left))
    (goes kept frames)
    (λ t holds. chosen_if kept body (exec_is_run kept body) holds (Rest rest ∷ frames) t env n
    ∙ behind_them kept rest (exec_is_run kept rest) (if holds then run_code kept body t env n else Done [] t env n) frames)
exec_is_run kept (IfElse condition body other rest) frames t env zero = refl
exec_is_run kept (IfElse condition body other rest) frames t env (suc n) =
    act_is kept n t (plan_of_condition env condition)
    (λ holds. reached (if holds then Rest body ∷ Rest rest ∷ frames else Rest other ∷ Rest rest ∷ frames) env)
    (λ t holds. after (if holds then run_code kept body t env n else run_code kept other t env n)
    (λ t env left. run_code kept rest t env left))
    (goes kept frames)
    (λ t holds. chosen_else kept body other (exec_is_run kept body) (exec_is_run kept other) holds (Rest rest ∷ frames) t env n
    ∙ behind_them kept rest (exec_is_run kept rest) (if holds then run_code kept body t env n else run_code kept other t env n) frames)
exec_is_run kept (For variable path body rest) frames t env zero = refl
exec_is_run kept (For variable path body rest) frames t env (suc n) =
    act_is kept n t (plan_of_loop env path) (λ turns. reached (Again variable turns.names body ∷ Rest rest ∷ frames) turns.env)
    (λ t turns. after (each_turn (λ t env left. run_code kept body t env left) variable turns.names t turns.env n)
    (λ t env left. run_code kept rest t env left))
    (goes kept frames)
    (λ t turns. all_turns kept body (exec_is_run kept body) variable turns.names (Rest rest ∷ frames) t turns.env n
    ∙ behind_them kept rest (exec_is_run kept rest)
    (each_turn (λ t env left. run_code kept body t env left) variable turns.names t turns.env n) frames)

-- with nothing after, this is the run
finish_alone : (kept : Kept) (out : Outcome) → finish out (goes kept []) ≡ ran_of out
finish_alone kept (Done acts t env left) =
    rw (over kept left t) (ap (λ acts. record { acts = acts; tree = t; ended = true }) (append-nil acts))
finish_alone kept (Cut acts t) = refl
finish_alone kept (Stopped acts t) = refl

-- from the start of a script, one act at a time, its run comes out
pub exec_from_start : (kept : Kept) (script : Code) (t : Nodes) (n : ℕ) → exec kept n (start script) t ≡ run script kept t n
exec_from_start kept script t n = exec_is_run kept script [] t fresh n ∙ finish_alone kept (run_code kept script t fresh n)

-- before any act
pub at_start : (script : Code) (kept : Kept) (t : Nodes) → IsAfter script kept t 0 [] (start script) t
at_start script kept t = record {
  count = refl;
  is_run = sym (exec_from_start kept script t 0);
  goes_on = λ m. ap (run script kept t) (zero-add m) ∙ sym (exec_from_start kept script t m);
}

-- one act more
pub one_more : (script : Code) (kept : Kept) (t0 : Nodes) (n : ℕ) (acts : List Act) (code : Code) (frames : List Frame) (env : Env)
    (t : Nodes)
    → IsAfter script kept t0 n acts (At code frames env) t →
    let performed = perform t (plan_at kept code frames env) in
    IsAfter script kept t0 (n + 1) (acts ++ act_of performed ∷ []) performed.result.result (after_update t performed.result.update)
one_more script kept t0 n acts code frames env t is =
    let performed : Performed (Effect Place) = perform t (plan_at kept code frames env) in
    let later : (m : ℕ)
    → run script kept t0 ((n + 1) + m)
    ≡ ran_before (acts ++ act_of performed ∷ []) (exec kept m performed.result.result (after_update t performed.result.update)) =
    λ m. ap (run script kept t0) (omega arith) ∙ is.goes_on (suc m)
    ∙ before_before acts (act_of performed ∷ []) (exec kept m performed.result.result (after_update t performed.result.update)) in
    record {
      count = length-append acts (act_of performed ∷ []) ∙ ap (λ k. k + 1) is.count;
      is_run =
          ap (run script kept t0) (sym (add-zero (n + 1))) ∙ later 0
          ∙ ap (λ acts. record { acts = acts; tree = after_update t performed.result.update; ended = is_over performed.result.result })
          (append-nil (acts ++ act_of performed ∷ []));
      goes_on = later;
    }
