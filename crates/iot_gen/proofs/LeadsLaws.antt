-- Lines that are events and scripts, one after the other.
use Rattle.std.proofs.Common.{◌≡◌, ℕ, ◌+◌, List, [], ◌∷◌, ◌++◌, length, Some, refl, sym, subst, append_assoc}
use Rattle.iot_lang.specs.Code.{Code}
use Rattle.iot_event.specs.Scripts.{SpellsScript}
use Rattle.iot_event.specs.Meanings.{Scope, Meaning, Says, Opens, meaning_of}
use Rattle.iot_event.specs.Events.{Goes, LinesGive, at_end, go, Events, IsStepOf}
use Rattle.iot_event.specs.declared.event.Event.{Event}
use Rattle.iot_event.specs.declared.event.Event.TheVariants.{Script}

-- these lines give events, whatever their numbers
abbrev pub Good : List (List ℕ) → Scope → Type 0
Good ls scope = (number : ℕ) → (events : List Event) × LinesGive ls scope number (Events events)

pub nothing_left : (scope : Scope) → Good [] scope
nothing_left scope number = ([], at_end scope number)

-- these lines are events and scripts, and after them this is declared
pub record Leads (ls : List (List ℕ)) (before after : Scope) : Type 0 where
  pub leads : (later : List (List ℕ)) → Good later after → Good (ls ++ later) before

pub in_turn : (a b : List (List ℕ)) (before middle after : Scope) → Leads a before middle → Leads b middle after
    → Leads (a ++ b) before after
in_turn a b before middle after first second = record {
  leads = λ later good.
      subst (λ (ls : List (List ℕ)). Good ls before) (sym (append_assoc a b later)) (first.leads (b ++ later) (second.leads later good));
}

pub none : (scope : Scope) → Leads [] scope scope
none scope = record { leads = λ later good. good }

-- a line of this meaning is an event, and this is declared after it
abbrev pub IsEvent : Meaning → Scope → Type 0
IsEvent (Says event after) expected = after ≡ expected
IsEvent _ expected = ⊥

by_meaning : (line : List ℕ) (later : List (List ℕ)) (before after : Scope) (number : ℕ) (meaning : Meaning)
    → meaning_of before number line later ≡ meaning → IsEvent meaning after → Good later after
    → (events : List Event) × LinesGive (line ∷ later) before number (Events events)
by_meaning line later before after number (Says event known) is same good =
    let (events, give) = good (number + 1) in (
      event ∷ events,
      go line later before number (Some event) known later (number + 1) (Events events)
          (subst (λ (m : Meaning). IsStepOf m before number later (Goes (Some event) known later (number + 1))) (sym is) refl)
          (subst (λ (s : Scope). LinesGive later s (number + 1) (Events events)) (sym same) give),
    )
by_meaning line later before after number _ is same good = absurd same

-- a line is an event, whatever its number and the lines after it
pub record SaysEvent (line : List ℕ) (before after : Scope) : Type 0 where
  pub says : (number : ℕ) (later : List (List ℕ)) → IsEvent (meaning_of before number line later) after

pub one_event : (line : List ℕ) (before after : Scope) → SaysEvent line before after → Leads (line ∷ []) before after
one_event line before after event = record {
  leads = λ later good number.
      by_meaning line later before after number (meaning_of before number line later) refl (event.says number later) good;
}

-- a script of this name, these lines and this closing line
pub record OpensScript (line : List ℕ) (inside : List (List ℕ)) (closing : List ℕ) (code : Code) (before after : Scope) : Type 0 where
  pub name : List ℕ
  pub opens : (number : ℕ) (later : List (List ℕ)) → meaning_of before number line (inside ++ closing ∷ later)
      ≡ Opens name (record { inside = inside; closing = closing; later = later }) after
  pub spells : (later : List (List ℕ)) → SpellsScript (record { inside = inside; closing = closing; later = later }) code

pub one_script : (line : List ℕ) (inside : List (List ℕ)) (closing : List ℕ) (code : Code) (before after : Scope)
    → OpensScript line inside closing code before after → Leads (line ∷ inside ++ closing ∷ []) before after
one_script line inside closing code before after script = record {
  leads = λ later good number.
      subst (λ (ls : List (List ℕ)). (events : List Event) × LinesGive (line ∷ ls) before number (Events events))
      (sym (append_assoc inside (closing ∷ []) later)) (by_script later good number);
}
  where
    by_script : (later : List (List ℕ)) → Good later after → (number : ℕ)
        → (events : List Event) × LinesGive (line ∷ (inside ++ closing ∷ later)) before number (Events events)
    by_script later good number =
        let next : ℕ = number + 1 + length inside + 1 in
        let (events, give) = good next in
        let event : Event = Script script.name code in (
          event ∷ events,
          go line (inside ++ closing ∷ later) before number (Some event) after later next (Events events)
              (subst (λ (m : Meaning). IsStepOf m before number (inside ++ closing ∷ later) (Goes (Some event) after later next))
              (sym (script.opens number later)) (code, script.spells later, refl))
              give,
        )

-- a line, or a script, before others
pub event_first : (line : List ℕ) (ls : List (List ℕ)) (before middle after : Scope) → SaysEvent line before middle → Leads ls middle after
    → Leads (line ∷ ls) before after
event_first line ls before middle after event rest =
    in_turn (line ∷ []) ls before middle after (one_event line before middle event) rest
