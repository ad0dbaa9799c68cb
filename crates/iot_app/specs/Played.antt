-- What was done of some events, and what was written of what they say. `handed` is what the disks counted that were handed in,
-- `wrote bytes` says that these bytes were written to the sink, `holds m` that the disks hold and have counted what this machine has, and
-- `stays later m` what is known of them if memory ran out when these events were not done yet, or only the first of them in part.
use Rattle.std.specs.Prelude.{◌≡◌, ◌⊎◌, ℕ, ◌<◌, List, ◌∷◌, ◌++◌, length, take, drop}
use Rattle.iot_event.specs.declared.event.Event.{Event}
use Rattle.iot_machine.specs.Events.{event_part}
use Rattle.iot_machine.specs.Machine.{Machine, handed as before_all}
use Rattle.iot_machine.specs.Nodes.{Counts}
use Rattle.iot_machine.specs.Transcript.{Opening, Transcript}
use Rattle.iot_app.specs.declared.status.Status.{Status}
use Rattle.iot_app.specs.declared.status.Status.TheVariants.{Done, WriteFailed, NoMemory}

-- all events were done: this is a whole transcript of them, written or not, and the disks hold what the machine keeps at its end
pub record RanAll (handed : List Counts) (holds : Machine → Type 0) (events : List Event) : Type 0 where
  pub text : List ℕ
  pub machine : Machine
  pub transcript : Transcript handed events text machine
  pub kept : holds machine

-- and what is to be said of such a run was written
pub record Reported (handed : List Counts) (wrote : List ℕ → Type 0) (holds : Machine → Type 0)
    (says : (transcript : List ℕ) → Machine → List ℕ) (events : List Event) : Type 0 where
  pub ran : RanAll handed holds events
  pub written : wrote (says ran.text ran.machine)

-- only a front of a text was written
pub record WroteFront (wrote : List ℕ → Type 0) (text : List ℕ) : Type 0 where
  pub count : ℕ
  pub cut : count < length text
  pub written : wrote (take count text)

-- the first so many events were done, and then memory ran out
pub record DidFirst (handed : List Counts) (stays : List Event → Machine → Type 0) (events : List Event) : Type 0 where
  pub done : ℕ
  pub text : List ℕ
  pub machine : Machine
  pub transcript : Transcript handed (take done events) text machine
  pub stayed : stays (drop done events) machine

-- and a transcript of them was written
pub record WroteFirst (handed : List Counts) (wrote : List ℕ → Type 0) (stays : List Event → Machine → Type 0) (events : List Event)
    : Type 0 where
  pub did : DidFirst handed stays events
  pub written : wrote did.text

-- A transcript of the earlier events was written, and of what the next one says only a front. That event was done and no later one:
-- the disks hold what the machine keeps after it.
pub record WroteCut (handed : List Counts) (wrote : List ℕ → Type 0) (holds : Machine → Type 0) (events : List Event) : Type 0 where
  pub earlier : List Event
  pub event : Event
  pub later : List Event
  pub split : events ≡ earlier ++ event ∷ later
  pub text : List ℕ
  pub before : Machine
  pub transcript : Transcript handed earlier text before
  pub says : List ℕ
  pub machine : Machine
  pub last : event_part event before says tt machine
  pub count : ℕ
  pub cut : count < length says
  pub written : wrote (text ++ take count says)
  pub kept : holds machine

-- of what the opening says only a front was written, and no event was done
pub record CutsOpening (handed : List Counts) (wrote : List ℕ → Type 0) (holds : Machine → Type 0) : Type 0 where
  pub says : List ℕ
  pub machine : Machine
  pub opens : Opening (before_all handed) says tt machine
  pub front : WroteFront wrote says
  pub kept : holds machine

-- how writing a transcript ended
abbrev pub Played : (handed : List Counts) → Status → (List ℕ → Type 0) → (holds : Machine → Type 0)
    → (stays : List Event → Machine → Type 0) → List Event → Type 0
Played handed Done wrote holds stays events = Reported handed wrote holds (λ transcript m. transcript) events
Played handed WriteFailed wrote holds stays events = CutsOpening handed wrote holds ⊎ WroteCut handed wrote holds events
Played handed NoMemory wrote holds stays events = WroteFirst handed wrote stays events
Played handed status wrote holds stays events = ⊥
