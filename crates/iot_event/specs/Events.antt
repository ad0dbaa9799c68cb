-- Which events an input gives, or which fault its first bad line has.
use Rattle.std.specs.Prelude.{ℕ, ◌≡◌, ◌+◌, List, [], ◌∷◌, ◌++◌, length, option_to_list, Option, Some, None, Result, Ok, Err}
use Rattle.iot_lines.specs.Lines.{lines}
use Rattle.iot_lang.specs.Code.{Code}
use Rattle.iot_tree.specs.Profiles.{Profile as Wishes}
use Rattle.iot_event.specs.Closing.{Closed}
use Rattle.iot_event.specs.Scripts.{SpellsScript, HasScriptFault}
use Rattle.iot_event.specs.Profiles.{profile_of}
use Rattle.iot_event.specs.Meanings.{Scope, nothing_declared, Meaning, Refused, Skipped, Says, Opens, Lists, meaning_of}
use Rattle.iot_event.specs.declared.event.Event.{Event}
use Rattle.iot_event.specs.declared.event.Event.TheVariants.{Script, Profile}
use Rattle.iot_event.specs.declared.fault.EventFault.{EventFault}

-- what a line comes to, with the lines of its script or profile: a fault; or an event or none, what is known after it, the lines that are left,
-- and the number of the first of those
pub data Step : Type 0 where
  Stops : (fault : EventFault) → Step
  Goes : (event : Option Event) (after : Scope) (rest : List (List ℕ)) (number : ℕ) → Step

-- a script of this name, whose first line inside has this number
abbrev pub IsScriptStep : (name : List ℕ) (script : Closed) (after : Scope) (first : ℕ) → Step → Type 0
IsScriptStep name script after first (Stops fault) = HasScriptFault script first fault
IsScriptStep name script after first (Goes event scope rest number) =
    (code : Code) × SpellsScript script code
    × (Goes event scope rest number ≡ Goes (Some (Script name code)) after script.later (first + length script.inside + 1))

-- what is known after this profile, too
abbrev pub with_profile : Scope → (name : List ℕ) → Wishes → Scope
with_profile scope name profile = record scope { profiles = scope.profiles ++ (name, profile) ∷ [] }

-- a profile of this name, whose first line inside has this number, and what its lines are
abbrev pub profile_step : (name : List ℕ) (block : Closed) (scope : Scope) (first : ℕ) → Result Wishes EventFault → Step
profile_step name block scope first (Err fault) = Stops fault
profile_step name block scope first (Ok profile) =
    Goes (Some (Profile name profile)) (with_profile scope name profile) block.later (first + length block.inside + 1)

-- a line of this meaning and number, before these lines
abbrev pub IsStepOf : Meaning → Scope → (number : ℕ) (later : List (List ℕ)) → Step → Type 0
IsStepOf (Refused fault) scope number later step = step ≡ Stops fault
IsStepOf Skipped scope number later step = step ≡ Goes None scope later (number + 1)
IsStepOf (Says event after) scope number later step = step ≡ Goes (Some event) after later (number + 1)
IsStepOf (Opens name script after) scope number later step = IsScriptStep name script after (number + 1) step
IsStepOf (Lists name block) scope number later step = step ≡ profile_step name block scope (number + 1) (profile_of block (number + 1))

abbrev pub IsStep : Scope → (number : ℕ) (line : List ℕ) (later : List (List ℕ)) → Step → Type 0
IsStep scope number line later step = IsStepOf (meaning_of scope number line later) scope number later step

-- what an input gives: its events, or the fault of its first bad line
pub data Outcome : Type 0 where
  Events : (events : List Event) → Outcome
  Fault : (fault : EventFault) → Outcome

-- the same, after these events
abbrev pub after_events : List Event → Outcome → Outcome
after_events events (Events later) = Events (events ++ later)
after_events events (Fault fault) = Fault fault

-- lines, the first of which has this number, give this
pub data LinesGive : List (List ℕ) → Scope → ℕ → Outcome → Type 0 where
  at_end : (scope : Scope) (number : ℕ) → LinesGive [] scope number (Events [])
  stop : (line : List ℕ) (later : List (List ℕ)) (scope : Scope) (number : ℕ) (fault : EventFault)
      → IsStep scope number line later (Stops fault)
      → LinesGive (line ∷ later) scope number (Fault fault)
  go : (line : List ℕ) (later : List (List ℕ)) (scope : Scope) (number : ℕ)
      (event : Option Event) (after : Scope) (rest : List (List ℕ)) (next : ℕ) (outcome : Outcome)
      → IsStep scope number line later (Goes event after rest next)
      → LinesGive rest after next outcome
      → LinesGive (line ∷ later) scope number (after_events (option_to_list event) outcome)

-- an input gives this; lines count from 1
abbrev pub Gives : List ℕ → Outcome → Type 0
Gives input outcome = LinesGive (lines input) nothing_declared 1 outcome
