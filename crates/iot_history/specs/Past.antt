-- What is recorded of earlier runs, as the bodies of a journal. The text of an input is one, which ends with a newline of its own. Each
-- body without a byte is a mark: one more piece of the transcript is taken to be said, of which the first is what the opening says, and
-- then each event says one. All bodies, one after another, are one event script.
use Rattle.std.specs.Prelude.{ℕ, ◌==◌, Bool, List, length, count_by}
use Rattle.std.specs.List.{concat}
use Rattle.iot_event.specs.Events.{Gives, Events, Fault}
use Rattle.iot_event.specs.declared.event.Event.{Event}
use Rattle.iot_event.specs.declared.fault.EventFault.{EventFault}
use Rattle.iot_history.specs.declared.status.Status.{Status}
use Rattle.iot_history.specs.declared.status.Status.TheVariants as statuses

-- it has no byte
abbrev pub is_mark : List ℕ → Bool
is_mark body = length body == 0

-- how many pieces are taken to be said
abbrev pub marks_in : List (List ℕ) → ℕ
marks_in bodies = count_by is_mark bodies

-- they give events
pub record GivesSome (bodies : List (List ℕ)) : Type 0 where
  pub events : List Event
  pub gives : Gives (concat bodies) (Events events)

-- they give none
pub record GivesNone (bodies : List (List ℕ)) : Type 0 where
  pub fault : EventFault
  pub gives : Gives (concat bodies) (Fault fault)

-- why a run has no past: memory ran out, or the bodies give no events
abbrev pub IsNoPast : (bodies : List (List ℕ)) → Status → Type 0
IsNoPast bodies statuses.NoMemory = Unit {0}
IsNoPast bodies statuses.NoHistory = GivesNone bodies
IsNoPast bodies status = ⊥
