-- Laws of what an input gives: it is found line by line, and it is one outcome.
use Rattle.std.proofs.Common.{◌≡◌, inl, inr, ℕ, ◌+◌, List, [], ◌∷◌, ◌++◌, length, Vec, Option, Some, Result, Ok, Err, IfOk, IfErr}
use Rattle.std.proofs.Common.{refl, sym, ap, subst, ◌∙◌, append_assoc, append-nil}
use Rattle.std.specs.Option.{option_to_list}
use Rattle.std.specs.declared.alloc.Global.{Global}
use Rattle.iot_lines.specs.Lines.{lines}
use Rattle.iot_lang.specs.Code.{Code}
use Rattle.iot_tree.specs.Profiles.{Profile as Wishes}
use Rattle.iot_lang.proofs.ScriptsLaws.{same_script}
use Rattle.iot_event.specs.declared.event.Event.{Event}
use Rattle.iot_event.specs.declared.event.Event.TheVariants.{Script, Profile}
use Rattle.iot_event.specs.declared.fault.EventFault.{EventFault}
use Rattle.iot_event.specs.declared.fault.EventFault.TheVariants as faults
use Rattle.iot_event.specs.Closing.{Closed}
use Rattle.iot_event.specs.Profiles.{profile_of}
use Rattle.iot_event.specs.Meanings.{Scope, nothing_declared, Meaning, Refused, Skipped, Says, Opens, Lists, meaning_of}
use Rattle.iot_event.specs.Events.{Step, Stops, Goes, IsScriptStep, with_profile, profile_step, IsStepOf, IsStep, Outcome, Events, Fault}
use Rattle.iot_event.specs.Events.{after_events}
use Rattle.iot_event.specs.Events.{LinesGive, at_end, stop, go, Gives}
use Rattle.iot_event.specs.Results.{SaidOf, HasFault, UnlessMemory}
use Rattle.iot_event.proofs.ScriptsLaws.{same_fault, no_fault}

-- ---- line by line

-- what these lines give, after these events, is what the input gives
pub record GoesOn (input : List ℕ) (events : List Event) (ls : List (List ℕ)) (scope : Scope) (number : ℕ) : Type 0 where
  pub gives : (outcome : Outcome) → LinesGive ls scope number outcome → Gives input (after_events events outcome)

after_events-append : (front more : List Event) (outcome : Outcome)
    → after_events front (after_events more outcome) ≡ after_events (front ++ more) outcome
after_events-append front more (Events events) = ap (λ (all : List Event). Events all) (sym (append_assoc front more events))
after_events-append front more (Fault fault) = refl

pub none_left : (input : List ℕ) (events : List Event) (rest : List ℕ) (scope : Scope) (number : ℕ)
    → GoesOn input events (lines rest) scope number → rest ≡ [] → Gives input (Events events)
none_left input events rest scope number goes_on none =
    let whole =
    goes_on.gives (Events [])
    (subst (λ (bytes : List ℕ). LinesGive (lines bytes) scope number (Events [])) (sym none) (at_end scope number)) in
    subst (λ (es : List Event). Gives input (Events es)) (append-nil events) whole

-- what is said of a fault follows from what else is said of it
said_of : (fault : EventFault) {fact other : Type 0} → SaidOf fault fact → (fact → other) → SaidOf fault other
said_of faults.NoMemory said follows = tt
said_of _ said follows = follows said

module _ (input : List ℕ) (events : List Event) (ls : List (List ℕ)) (line : List ℕ) (later : List (List ℕ)) (scope : Scope) (number : ℕ)
    (goes_on : GoesOn input events ls scope number) (first : ls ≡ line ∷ later) where
  gives_first : (outcome : Outcome) → LinesGive (line ∷ later) scope number outcome → Gives input (after_events events outcome)
  gives_first outcome give = goes_on.gives outcome (subst (λ (xs : List (List ℕ)). LinesGive xs scope number outcome) (sym first) give)

  -- after a line, and the lines of its script
  pub one_more : (all : List Event) (event : Option Event) (after : Scope) (rest : List (List ℕ)) (next : ℕ)
      → IsStep scope number line later (Goes event after rest next) → all ≡ events ++ option_to_list event
      → GoesOn input all rest after next
  one_more all event after rest next is joined = record {
    gives = λ outcome give.
        subst (λ (o : Outcome). Gives input o)
        (after_events-append events (option_to_list event) outcome ∙ ap (λ (es : List Event). after_events es outcome) (sym joined))
        (gives_first (after_events (option_to_list event) outcome) (go line later scope number event after rest next outcome is give));
  }

  -- after a line that is refused
  pub stopped : (fault : EventFault) → SaidOf fault (IsStep scope number line later (Stops fault)) → HasFault input fault
  stopped fault said = said_of fault said (λ is. gives_first (Fault fault) (stop line later scope number fault is))

-- ---- a profile

-- lines that are this profile come to its event
pub listed : (meaning : Meaning) (scope : Scope) (number : ℕ) (later : List (List ℕ)) (name : List ℕ) (block : Closed) (profile : Wishes)
    (after : Scope) (next : ℕ) → meaning ≡ Lists name block → profile_of block (number + 1) ≡ Ok profile
    → after ≡ with_profile scope name profile → next ≡ number + 1 + length block.inside + 1
    → IsStepOf meaning scope number later (Goes (Some (Profile name profile)) after block.later next)
listed meaning scope number later name block profile after next is found left counted =
    let event : Option Event = Some (Profile name profile) in
    subst (λ (m : Meaning). IsStepOf m scope number later (Goes event after block.later next)) (sym is)
    (ap (λ (a : Scope). Goes event a block.later next) left
    ∙ ap (λ (n : ℕ). Goes event (with_profile scope name profile) block.later n) counted
    ∙ ap (λ (r : Result Wishes EventFault). profile_step name block scope (number + 1) r) (sym found))

-- ---- a line comes to one step

same_script_step : (name : List ℕ) (script : Closed) (after : Scope) (first : ℕ) (s t : Step)
    → IsScriptStep name script after first s → IsScriptStep name script after first t → s ≡ t
same_script_step name script after first (Stops f) (Stops g) one two =
    ap (λ (fault : EventFault). Stops fault) (same_fault script first f g one two)
same_script_step name script after first (Stops f) (Goes event scope rest next) one (code, spells, is) =
    absurd (no_fault script first code f spells one)
same_script_step name script after first (Goes event scope rest next) (Stops g) (code, spells, is) two =
    absurd (no_fault script first code g spells two)
same_script_step name script after first (Goes event scope rest next) (Goes event' scope' rest' next') (code, spells, is)
    (code', spells', is') =
    is
    ∙ ap (λ (c : Code). Goes (Some (Script name c)) after script.later (first + length script.inside + 1))
    (same_script script.inside code code' spells.spelled spells'.spelled)
    ∙ sym is'

same_step : (meaning : Meaning) (scope : Scope) (number : ℕ) (later : List (List ℕ)) (s t : Step)
    → IsStepOf meaning scope number later s → IsStepOf meaning scope number later t → s ≡ t
same_step (Refused fault) scope number later s t one two = one ∙ sym two
same_step Skipped scope number later s t one two = one ∙ sym two
same_step (Says event after) scope number later s t one two = one ∙ sym two
same_step (Lists name block) scope number later s t one two = one ∙ sym two
same_step (Opens name script after) scope number later s t one two = same_script_step name script after (number + 1) s t one two

-- ---- an input gives one outcome

-- what is given after a step
abbrev After : Step → Outcome → Type 0
After (Stops fault) outcome = outcome ≡ Fault fault
After (Goes event after rest next) outcome =
    (later : Outcome) × LinesGive rest after next later × (outcome ≡ after_events (option_to_list event) later)

-- the first line's step, and what is given after it
abbrev Begins : List (List ℕ) → Scope → ℕ → Outcome → Type 0
Begins [] scope number outcome = outcome ≡ Events []
Begins (line ∷ later) scope number outcome = (step : Step) × IsStep scope number line later step × After step outcome

begins : (ls : List (List ℕ)) (scope : Scope) (number : ℕ) (outcome : Outcome) → LinesGive ls scope number outcome
    → Begins ls scope number outcome
begins _ _ _ _ (at_end scope number) = refl
begins _ _ _ _ (stop line later scope number fault is) = (Stops fault, is, refl)
begins _ _ _ _ (go line later scope number event after rest next outcome is give) = (Goes event after rest next, is, (outcome, give, refl))

-- the same of a step that is known
begins_with : (line : List ℕ) (later : List (List ℕ)) (scope : Scope) (number : ℕ) (outcome : Outcome) (step : Step)
    → IsStep scope number line later step → Begins (line ∷ later) scope number outcome → After step outcome
begins_with line later scope number outcome step is (other, is', after) =
    subst (λ (s : Step). After s outcome) (same_step (meaning_of scope number line later) scope number later other step is' is) after

same_outcome : (ls : List (List ℕ)) (scope : Scope) (number : ℕ) (one two : Outcome)
    → LinesGive ls scope number one → Begins ls scope number two → one ≡ two
same_outcome _ _ _ _ two (at_end scope number) other = sym other
same_outcome _ _ _ _ two (stop line later scope number fault is) other =
    sym (begins_with line later scope number two (Stops fault) is other)
same_outcome _ _ _ _ two (go line later scope number event after rest next outcome is give) other =
    let (more, give', same) = begins_with line later scope number two (Goes event after rest next) is other in
    ap (λ (o : Outcome). after_events (option_to_list event) o)
    (same_outcome rest after next outcome more give (begins rest after next more give'))
    ∙ sym same

one_outcome : (input : List ℕ) (one two : Outcome) → Gives input one → Gives input two → one ≡ two
one_outcome input one two first second =
    same_outcome (lines input) nothing_declared 1 one two first (begins (lines input) nothing_declared 1 two second)

fault_or_memory : (input : List ℕ) (fault : EventFault) (outcome : Outcome) → HasFault input fault → Gives input outcome
    → UnlessMemory (Err fault) outcome
fault_or_memory input faults.NoMemory outcome has is = inr refl
fault_or_memory input fault outcome has is = inl (one_outcome input (Fault fault) outcome has is)

-- which is the result, unless memory runs out
pub only_outcome : (input : List ℕ) (result : Result (Vec Event Global) EventFault) (outcome : Outcome)
    → IfOk result (λ events. Gives input (Events events.items)) → IfErr result (HasFault input) → Gives input outcome
    → UnlessMemory result outcome
only_outcome input (Ok events) outcome ok err is = inl (one_outcome input (Events events.items) outcome ok is)
only_outcome input (Err fault) outcome ok err is = fault_or_memory input fault outcome err is
