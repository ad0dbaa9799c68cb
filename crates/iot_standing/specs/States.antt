-- The state of a live client beside that of a client of the machine.
use Rattle.std.specs.Prelude.{◌≡◌, ℕ, ◌==◌, Bool, true, false, List, [], ◌∷◌, length, Option, Some, None}
use Rattle.std.specs.List.{list_any}
use Rattle.iot_tree.specs.Tree.{Nodes, IsTree}
use Rattle.iot_lang.specs.Scripts.{IsScript}
use Rattle.iot_limits.specs.Spelled.{IsSpelledTree}
use Rattle.iot_queue.specs.declared.items.Item.{Item}
use Rattle.iot_kept.specs.States.{Transaction, State}
use Rattle.iot_client.specs.Ties.{Live}
use Rattle.iot_machine.specs.Clients.{ClientState, reach, Plan, Acts, plan_of, Next, AtEnd, AtLimit, Fetches, leave}
use Rattle.iot_standing.specs.Kept.{ItemsStand, access_kept}
use Rattle.iot_standing.specs.Scripts.{option_named}
use Rattle.iot_client.specs.declared.steps.Step.{Step}
use Rattle.iot_tree.specs.declared.labels.OnConflict.{OnConflict}
use Rattle.iot_tree.specs.declared.labels.OnConflict.TheVariants.{Reexec, Resolver, Abort, Manual}
use Rattle.iot_machine.specs.Clients as clients
use Rattle.iot_client.specs.declared.steps.Step.TheVariants as steps
use Rattle.iot_machine.specs.Serving as serving

-- ---- what is live

-- a running transaction, its class and its script; the numbers are those of the first-class ones
pub record RunningStands (running : Transaction) (live : Live) (first : List ℕ) (m : clients.Running) : Type 0 where
  pub number : running.number ≡ m.number
  pub name : running.script ≡ m.script.name
  pub code : live.code ≡ Some m.script.code
  pub script : IsScript m.script.code
  pub base : running.base ≡ m.base
  pub tree : IsTree running.base
  pub spelled : IsSpelledTree running.base
  pub acts : length running.acts ≡ m.acts
  pub option : running.option ≡ option_named m.option
  pub class : live.first ≡ list_any (λ number. number == m.number) first

abbrev pub RunStand : List Transaction → List Live → List ℕ → List clients.Running → Type 0
RunStand [] [] first [] = Unit {0}
RunStand (it ∷ running) (live ∷ lives) first (m ∷ ms) = RunningStands it live first m × RunStand running lives first ms
RunStand running lives first ms = ⊥

pub record StateStands (state : State) (lives : List Live) (first : List ℕ) (m : ClientState) : Type 0 where
  pub held : state.held ≡ m.held
  pub items : ItemsStand state.items state.held m.items
  pub running : RunStand state.running lives first m.running
  pub last : state.last ≡ m.last
  pub tree : IsTree state.held
  pub spelled : IsSpelledTree state.held
  pub access : state.access ≡ access_kept m.items

-- ---- the transactions that wait

-- whether transactions wait
abbrev pub waits_of : List Item → Bool
waits_of [] = false
waits_of (item ∷ items) = true

-- the option of the first
abbrev pub head_option : List Item → Option OnConflict
head_option [] = None
head_option (item ∷ items) = Some item.option

-- what the machine plans for the first that waits
abbrev pub head_plan : (held : Nodes) → List clients.Item → Option Plan
head_plan held [] = None
head_plan held (m ∷ ms) = plan_of held m

-- what becomes of the first by what its client is told, and by its option
abbrev pub told_change : serving.Verdict → OnConflict → ClientState → ClientState
told_change (serving.Settled number) option = leave
told_change (serving.Conflict read question) Reexec = reach clients.Conflict
told_change (serving.Conflict read question) (Resolver script) = reach clients.Conflict
told_change (serving.Conflict read question) Abort = leave
told_change (serving.Conflict read question) Manual = reach clients.Manual

-- ---- the next step

-- what the machine's next step is if the client's is this one
abbrev pub next_as : Step → Next
next_as (steps.Acted acts ended) = Acts
next_as (steps.Fetch request path) = Fetches path
next_as (steps.AtEnd acts) = AtEnd
next_as (steps.AtLimit acts) = AtLimit

abbrev pub IsOver : Next → Type 0
IsOver AtEnd = Unit {0}
IsOver AtLimit = Unit {0}
IsOver other = ⊥

abbrev pub IsUnended : Next → Type 0
IsUnended AtEnd = ⊥
IsUnended AtLimit = ⊥
IsUnended other = Unit {0}
