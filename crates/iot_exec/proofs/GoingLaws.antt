-- What was done is what the plan of the statement says.
use Rattle.std.proofs.Common.{◌≡◌, ℕ, Bool, true, false, List, [], ◌∷◌, ◌++◌, Option, Some, None, Result, Ok, Err, IfOk, refl, sym, ap}
use Rattle.std.proofs.Common.{subst, ◌∙◌, if◌then◌else◌}
use Rattle.std.proofs.lemmas.List.{append-nil}
use Rattle.iot_tree.specs.Tree.{Nodes}
use Rattle.iot_tree.specs.declared.acts.Read.{Read}
use Rattle.iot_lang.specs.Code.{Code, Plain, If, IfElse, For}
use Rattle.iot_lang.specs.declared.words.Cond.{Cond}
use Rattle.iot_lang.specs.declared.words.Piece.{Piece}
use Rattle.iot_lang.specs.declared.words.Command.{Command}
use Rattle.iot_lang.specs.declared.blocks.Stmt.{Stmt}
use Rattle.iot_lang.specs.declared.blocks.Stmt.TheVariants as statements
use Rattle.iot_exec.specs.Plans.{Plan, Done as Ended, mapped, Performed, perform, Effect, going_on, silent, act_of}
use Rattle.iot_exec.specs.Endings.{ending}
use Rattle.iot_exec.specs.Commands.{Kept, Ending, command_name, table, Turns, plan_of_command, plan_of_condition, plan_of_loop, truth}
use Rattle.iot_exec.specs.Commands.{turns, loop_ending}
use Rattle.iot_exec.specs.Places.{Frame, Rest, Again, Place, reached}
use Rattle.iot_exec.specs.Asking.{Leads, Ends}
use Rattle.iot_exec.specs.Going.{IsDone, Finishes, finished, silent_act, branch_done, loop_done, goes_to}
use Rattle.iot_exec.specs.declared.performing.Goes.TheVariants.{Branches}
use Rattle.iot_exec.specs.declared.asking.Asking.{Asking}
use Rattle.iot_exec.specs.declared.endings.Success.{Success}
use Rattle.iot_exec.specs.declared.endings.Success.TheVariants as success
use Rattle.iot_exec.specs.declared.endings.Refusal.{Refusal}
use Rattle.iot_exec.specs.declared.endings.Stop.{Stop}
use Rattle.iot_exec.specs.declared.endings.Stop.TheVariants.{NoMemory, Refused}
use Rattle.iot_exec.specs.declared.env.Env.{Env}
use Rattle.iot_exec.specs.declared.performing.Done.{Done}
use Rattle.iot_exec.proofs.PlanLaws.{with_result, perform-mapped}

-- a plan that came to its end from no question on
pub came_to : {R : Type 0} (a b : Asking) (plan : Plan R) (result : R) → Leads a plan b (Ended result) → a.reads ≡ []
    → perform a.tree.now plan ≡ record { reads = b.reads; result = result }
came_to {R = R} a b plan result leads none =
    let performed : Performed R = perform a.tree.now plan in
    ap (λ (reads : List Read). record { reads = reads ++ performed.reads; result = performed.result }) (sym none)
    ∙ leads.same
    ∙ ap (λ (reads : List Read). record { reads = reads; result = result }) (append-nil b.reads)

-- a command
module _ (kept : Kept) (t : Nodes) (command : Command) (rest : Code) (frames : List Frame) (env : Env) where
  abbrev next : Env → Place
  next env = reached (Rest rest ∷ frames) env

  abbrev effect : Ending → Effect Place
  effect end = going_on next (ending env (command_name command) end)

  twice : perform t (mapped (going_on next) (plan_of_command kept env command)) ≡ with_result effect (perform t (table kept env command))
  twice =
      perform-mapped (going_on next) (plan_of_command kept env command) t
      ∙ ap (with_result (going_on next)) (perform-mapped (ending env (command_name command)) (table kept env command) t)

  same_act : (reads : List Read) (end : Ending)
      → act_of (record { reads = reads; result = effect end }) ≡ (finished reads (command_name command) end).act
  same_act reads (Ok (success.Makes update)) = refl
  same_act reads (Ok (success.Prints lines)) = refl
  same_act reads (Ok (success.Sets variable value)) = refl
  same_act reads (Err refusal) = refl

  same_place : (reads : List Read) (end : Ending)
      → (effect end).result ≡ goes_to (Plain command rest) frames env (finished reads (command_name command) end).goes
  same_place reads (Ok (success.Makes update)) = refl
  same_place reads (Ok (success.Prints lines)) = refl
  same_place reads (Ok (success.Sets variable value)) = refl
  same_place reads (Err refusal) = refl

  pub command_done : (reads : List Read) (end : Ending) (done : Done)
      → perform t (table kept env command) ≡ record { reads = reads; result = end } → done ≡ finished reads (command_name command) end
      → IsDone kept t (statements.Do command) rest frames env done
  command_done reads end done came is =
      let whole : perform t (mapped (going_on next) (plan_of_command kept env command))
      ≡ record { reads = reads; result = effect end } = twice
      ∙ ap (with_result effect) came in
      subst (λ (done : Done). IsDone kept t (statements.Do command) rest frames env done) (sym is)
      (record {
        act = ap act_of whole ∙ same_act reads end;
        place = ap (λ (performed : Performed (Effect Place)). performed.result.result) whole ∙ same_place reads end;
      })

-- a condition
module _ (kept : Kept) (t : Nodes) (condition : Cond) (rest : Code) (frames : List Frame) (env : Env) where
  asked_once : (f : Bool → Place)
      → perform t (mapped (going_on f) (plan_of_condition env condition))
      ≡ with_result (λ holds. silent (f holds)) (perform t (truth env condition))
  asked_once f =
      perform-mapped (going_on f) (plan_of_condition env condition) t
      ∙ ap (with_result (going_on f)) (perform-mapped silent (truth env condition) t)

  chosen_if : (body : Code) (holds : Bool)
      → reached (if holds then Rest body ∷ Rest rest ∷ frames else Rest rest ∷ frames) env
      ≡ goes_to (If condition body rest) frames env (Branches holds)
  chosen_if body true = refl
  chosen_if body false = refl

  chosen_else : (body other : Code) (holds : Bool)
      → reached (if holds then Rest body ∷ Rest rest ∷ frames else Rest other ∷ Rest rest ∷ frames) env
      ≡ goes_to (IfElse condition body other rest) frames env (Branches holds)
  chosen_else body other true = refl
  chosen_else body other false = refl

  branch_is : (body : Code) (otherwise : Option Code)
      → IsDone kept t (statements.If condition body otherwise) rest frames env (branch_done (perform t (truth env condition)))
  branch_is body None =
      let whole = asked_once (λ holds. reached (if holds then Rest body ∷ Rest rest ∷ frames else Rest rest ∷ frames) env) in
      record {
        act = ap act_of whole;
        place =
            ap (λ (performed : Performed (Effect Place)). performed.result.result) whole
            ∙ chosen_if body (perform t (truth env condition)).result;
      }
  branch_is body (Some other) =
      let whole = asked_once (λ holds. reached (if holds then Rest body ∷ Rest rest ∷ frames else Rest other ∷ Rest rest ∷ frames) env) in
      record {
        act = ap act_of whole;
        place =
            ap (λ (performed : Performed (Effect Place)). performed.result.result) whole
            ∙ chosen_else body other (perform t (truth env condition)).result;
      }

  pub branch_done_is : (body : Code) (otherwise : Option Code) (done : Done) → done ≡ branch_done (perform t (truth env condition))
      → IsDone kept t (statements.If condition body otherwise) rest frames env done
  branch_done_is body otherwise done is =
      subst (λ (done : Done). IsDone kept t (statements.If condition body otherwise) rest frames env done) (sym is)
      (branch_is body otherwise)

-- a loop
module _ (kept : Kept) (t : Nodes) (variable : List ℕ) (path : List Piece) (body rest : Code) (frames : List Frame) (env : Env) where
  abbrev begin : Turns → Place
  begin turns = reached (Again variable turns.names body ∷ Rest rest ∷ frames) turns.env

-- what is done of a command that came to this end
abbrev AllDone : Kept → Nodes → Stmt → Env → Done → Type 0
AllDone kept t statement env done = (rest : Code) (frames : List Frame) → IsDone kept t statement rest frames env done

ended : (a b : Asking) (kept : Kept) (env : Env) (command : Command) (end : Ending) (done : Done) (t : Nodes)
    → Leads a (table kept env command) b (Ended end) → a.reads ≡ [] → a.tree.now ≡ t → done ≡ finished b.reads (command_name command) end
    → AllDone kept t (statements.Do command) env done
ended a b kept env command end done t leads none tree is = λ rest frames.
    command_done kept t command rest frames env b.reads end done
    (subst (λ (t : Nodes). perform t (table kept env command) ≡ record { reads = b.reads; result = end }) tree
    (came_to a b (table kept env command) end leads none))
    is

pub command_comes : (a b : Asking) (kept : Kept) (env : Env) (command : Command) (name : List ℕ) (end : Result Success Stop) (t : Nodes)
    → Ends a (table kept env command) b end → a.reads ≡ [] → a.tree.now ≡ t → name ≡ command_name command
    → {E : Type 0} (result : Result Done E) → IfOk result (Finishes b.reads name end)
    → IfOk result (AllDone kept t (statements.Do command) env)
command_comes a b kept env command name (Ok success) t ends none tree named (Ok done) is =
    ended a b kept env command (Ok success) done t ends none tree is
command_comes a b kept env command name (Err (Refused refusal)) t ends none tree named (Ok done) is =
    ended a b kept env command (Err refusal) done t ends none tree (is ∙ ap (λ (name : List ℕ). finished b.reads name (Err refusal)) named)
command_comes a b kept env command name (Err NoMemory) t ends none tree named (Ok done) is = absurd is
command_comes a b kept env command name end t ends none tree named (Err error) is = is
