-- What a script goes on with after an act.
use Rattle.std.specs.Prelude.{◌≡◌, ℕ, Bool, true, false, List, [], ◌∷◌, ◌++◌, Some, None, Result, Ok, Err, codes}
use Rattle.iot_tree.specs.Tree.{Nodes}
use Rattle.iot_lang.specs.Code.{Code}
use Rattle.iot_lang.specs.Blocks.{with_statement}
use Rattle.iot_lang.specs.declared.blocks.Stmt.{Stmt}
use Rattle.iot_tree.specs.declared.acts.Act.{Act}
use Rattle.iot_tree.specs.declared.acts.Read.{Read}
use Rattle.iot_lang.specs.declared.words.Cond.{Cond}
use Rattle.iot_lang.specs.declared.words.Piece.{Piece}
use Rattle.iot_exec.specs.Plans.{Performed, perform, act_of}
use Rattle.iot_exec.specs.Endings.{refusal_text}
use Rattle.iot_exec.specs.declared.endings.Success.{Success}
use Rattle.iot_exec.specs.declared.endings.Success.TheVariants.{Makes, Prints}
use Rattle.iot_exec.specs.declared.endings.Success.TheVariants as success
use Rattle.iot_exec.specs.declared.endings.Refusal.{Refusal}
use Rattle.iot_exec.specs.declared.endings.Stop.{Stop}
use Rattle.iot_exec.specs.declared.endings.Stop.TheVariants.{NoMemory, Refused}
use Rattle.iot_exec.specs.Values.{with_ok, with_variable}
use Rattle.iot_exec.specs.Commands.{Kept, Ending, truth, turns}
use Rattle.iot_exec.specs.Places.{Frame, Rest, Again, Place, Over, reached, plan_at}
use Rattle.iot_exec.specs.Positions.{rest_of, body_of, other_of, turn_of}
use Rattle.iot_exec.specs.declared.env.Env.{Env}
use Rattle.iot_exec.specs.declared.performing.Goes.{Goes}
use Rattle.iot_exec.specs.declared.performing.Goes.TheVariants.{Does, Sets, Stops, Branches, Loops}
use Rattle.iot_exec.specs.declared.performing.Done.{Done}

-- the place after the act
abbrev pub goes_to : Code → List Frame → Env → Goes → Place
goes_to code frames env (Does ok) = reached (Rest (rest_of code) ∷ frames) (with_ok ok env)
goes_to code frames env (Sets variable value) = reached (Rest (rest_of code) ∷ frames) (with_variable variable value (with_ok true env))
goes_to code frames env Stops = Over
goes_to code frames env (Branches true) = reached (Rest (body_of code) ∷ Rest (rest_of code) ∷ frames) env
goes_to code frames env (Branches false) = reached (Rest (other_of code) ∷ Rest (rest_of code) ∷ frames) env
goes_to code frames env (Loops variable names ok) =
    reached (Again variable names (turn_of code) ∷ Rest (rest_of code) ∷ frames) (with_ok ok env)

-- what was done is the act of the statement before the others, and the script goes on after it
pub record IsDone (kept : Kept) (t : Nodes) (statement : Stmt) (rest : Code) (frames : List Frame) (env : Env) (done : Done) : Type 0 where
  pub act : act_of (perform t (plan_at kept (with_statement statement rest) frames env)) ≡ done.act
  pub place : (perform t (plan_at kept (with_statement statement rest) frames env)).result.result
      ≡ goes_to (with_statement statement rest) frames env done.goes

-- an act that asks alone
abbrev pub silent_act : List Read → Act
silent_act reads = record { reads = reads; update = None; lines = [] }

-- an act that was refused
abbrev pub refused_act : List Read → List ℕ → Refusal → Act
refused_act reads command refusal = record { reads = reads; update = None; lines = (command ++ codes ": " ++ refusal_text refusal) ∷ [] }

-- what a command does that asked these questions and is not refused
abbrev pub done_well : List Read → Success → Done
done_well reads (Makes update) = record { act = record { reads = reads; update = Some update; lines = [] }; goes = Does true }
done_well reads (Prints lines) = record { act = record { reads = reads; update = None; lines = lines }; goes = Does true }
done_well reads (success.Sets variable value) = record { act = silent_act reads; goes = Sets variable value }

-- what a command does that came to this end
abbrev pub finished : List Read → List ℕ → Ending → Done
finished reads command (Ok success) = done_well reads success
finished reads command (Err refusal) = record { act = refused_act reads command refusal; goes = Does false }

abbrev pub Finishes : List Read → List ℕ → Result Success Stop → Done → Type 0
Finishes reads command (Ok success) done = done ≡ finished reads command (Ok success)
Finishes reads command (Err (Refused refusal)) done = done ≡ finished reads command (Err refusal)
Finishes reads command (Err NoMemory) done = ⊥

-- the condition was asked
abbrev pub branch_done : Performed Bool → Done
branch_done performed = record { act = silent_act performed.reads; goes = Branches performed.result }

abbrev pub IsBranch : Nodes → Env → Cond → Done → Type 0
IsBranch t env condition done = done ≡ branch_done (perform t (truth env condition))

-- the names of the loop were asked
abbrev pub loop_done : List ℕ → List Read → Result (List (List ℕ)) Refusal → Done
loop_done variable reads (Ok names) = record { act = silent_act reads; goes = Loops variable names true }
loop_done variable reads (Err refusal) = record { act = refused_act reads (codes "for") refusal; goes = Loops variable [] false }

abbrev pub IsLoop : Nodes → Env → List ℕ → List Piece → Done → Type 0
IsLoop t env variable path done = let performed = perform t (turns env path) in done ≡ loop_done variable performed.reads performed.result
