-- What the results of the parser's functions say. Running out of memory is always allowed, so of `NoMemory` nothing is said.
use Rattle.std.specs.Prelude.{ℕ, List, Vec, Option, Some, Result, Ok, Err, ok_or, ◌≡◌, ◌⊎◌}
use Rattle.std.specs.declared.alloc.Global.{Global}
use Rattle.iot_lines.specs.Lines.{lines}
use Rattle.iot_lang.specs.Code.{Code}
use Rattle.iot_tree.specs.Profiles.{Profile as Wishes}
use Rattle.iot_event.specs.declared.closing.Closed as rust
use Rattle.iot_event.specs.declared.declared.Declared.{Declared}
use Rattle.iot_event.specs.declared.declared.Step as steps
use Rattle.iot_event.specs.declared.event.Event.{Event}
use Rattle.iot_event.specs.declared.fault.EventFault.{EventFault}
use Rattle.iot_event.specs.declared.fault.EventFault.TheVariants.{NoMemory, UnknownName}
use Rattle.iot_event.specs.Closing.{Closed}
use Rattle.iot_event.specs.Scripts.{SpellsScript, HasScriptFault}
use Rattle.iot_event.specs.Meanings.{Scope, Meaning, Refused, Says, Opens, Lists}
use Rattle.iot_event.specs.Events.{Step, Stops, Goes, Outcome, Events, Fault, Gives}

-- what is known before a line
abbrev pub scope_of : Declared → Scope
scope_of declared = record {
  clients = declared.clients.keys;
  scripts = declared.scripts.keys;
  profiles = declared.profiles.entries;
}

-- the lines of a script or a profile that was found
abbrev pub closed_of : rust.Closed → Closed
closed_of script = record { inside = lines script.inside.now; closing = script.closing.now; later = lines script.later.now }

-- the fact, if it is about a fault of the input
abbrev pub SaidOf : EventFault → Type 0 → Type 0
SaidOf NoMemory fact = Unit {0}
SaidOf fault fact = fact

-- a line of this meaning is this event, and so much is declared after it
abbrev pub AnswersEvent : Meaning → Result Event EventFault → Declared → Type 0
AnswersEvent meaning (Ok event) declared = meaning ≡ Says event (scope_of declared)
AnswersEvent meaning (Err fault) declared = SaidOf fault (meaning ≡ Refused fault)

-- what a name stands for, unless it was not declared
abbrev pub AnswersKnown : {X : Type 0} → Option X → (number : ℕ) → Result X EventFault → Type 0
AnswersKnown known number result = result ≡ ok_or known (UnknownName number)

-- the same, unless memory ran out
abbrev pub AnswersFound : {X : Type 0} → Option X → (number : ℕ) → Result X EventFault → Type 0
AnswersFound known number (Ok found) = known ≡ Some found
AnswersFound known number (Err fault) = SaidOf fault (Err fault ≡ ok_or known (UnknownName number))

-- a line of this meaning opens this script
abbrev pub AnswersScript : Meaning → List ℕ → Result rust.Closed EventFault → Declared → Type 0
AnswersScript meaning name (Ok script) declared = meaning ≡ Opens name (closed_of script) (scope_of declared)
AnswersScript meaning name (Err fault) declared = SaidOf fault (meaning ≡ Refused fault)

-- a line of this meaning begins the list of this profile's wishes
abbrev pub AnswersProfile : Meaning → List ℕ → Result rust.Closed EventFault → Type 0
AnswersProfile meaning name (Ok block) = meaning ≡ Lists name (closed_of block)
AnswersProfile meaning name (Err fault) = SaidOf fault (meaning ≡ Refused fault)

-- this is what comes out, unless memory ran out
abbrev pub AnswersWishes : Result Wishes EventFault → Result Wishes EventFault → Type 0
AnswersWishes comes_out (Ok wishes) = comes_out ≡ Ok wishes
AnswersWishes comes_out (Err fault) = SaidOf fault (comes_out ≡ Err fault)

-- the same, if the wishes are put into this profile
abbrev pub LeavesWishes : Result Wishes EventFault → Result Unit EventFault → Wishes → Type 0
LeavesWishes comes_out (Ok done) wishes = comes_out ≡ Ok wishes
LeavesWishes comes_out (Err fault) wishes = SaidOf fault (comes_out ≡ Err fault)

-- the lines of a script, the first of which has this number, spell this code or have this fault
abbrev pub AnswersLines : Closed → ℕ → Result Code EventFault → Type 0
AnswersLines script first (Ok code) = SpellsScript script code
AnswersLines script first (Err fault) = SaidOf fault (HasScriptFault script first fault)

-- the next lines come to this step, and so much is declared after them
abbrev pub Answers : (Step → Type 0) → Result steps.Step EventFault → Declared → Type 0
Answers comes_to (Ok step) declared = comes_to (Goes step.event (scope_of declared) (lines step.later.now) step.number)
Answers comes_to (Err fault) declared = SaidOf fault (comes_to (Stops fault))

-- the input gives this fault
abbrev pub HasFault : List ℕ → EventFault → Type 0
HasFault input fault = SaidOf fault (Gives input (Fault fault))

abbrev pub outcome_of : Result (Vec Event Global) EventFault → Outcome
outcome_of (Ok events) = Events events.items
outcome_of (Err fault) = Fault fault

-- the result is this outcome, or memory ran out
abbrev pub UnlessMemory : Result (Vec Event Global) EventFault → Outcome → Type 0
UnlessMemory result outcome = (outcome_of result ≡ outcome) ⊎ (result ≡ Err NoMemory)
