-- What a client keeps, as it is on its disk, beside what a client of the machine keeps.
use Rattle.std.specs.Prelude.{◌≡◌, ◌≤◌, List, [], ◌∷◌, length}
use Rattle.std.specs.FinMap.{entries}
use Rattle.std.specs.List.{AllByRecursion}
use Rattle.iot_access.specs.Access.{access_of, no_access}
use Rattle.iot_tree.specs.declared.access.Access.{Access}
use Rattle.iot_tree.specs.Tree.{Nodes, IsTree}
use Rattle.iot_tree.specs.declared.limits.TheConstants.{ACT_LIMIT}
use Rattle.iot_lang.specs.Scripts.{IsScript}
use Rattle.iot_acts.specs.Traces.{after_acts}
use Rattle.iot_exec.specs.Runs.{run}
use Rattle.iot_limits.specs.Spelled.{IsSpelledTree, AreSpelledFiles}
use Rattle.iot_queue.specs.declared.items.Item.{Item}
use Rattle.iot_queue.specs.declared.items.Resolution.{Resolution}
use Rattle.iot_queue.specs.declared.items.Stage.{Stage}
use Rattle.iot_kept.specs.States.{Transaction, State, own_view}
use Rattle.iot_machine.specs.Clients.{ClientState, local_run, so_far}
use Rattle.iot_machine.specs.Sound.{HasPlan}
use Rattle.iot_standing.specs.Scripts.{option_named}
use Rattle.iot_queue.specs.declared.items.Stage.TheVariants as stages
use Rattle.iot_machine.specs.Clients as clients

-- ---- what is durable

-- a resolution is one of the machine's: its acts are those of its script on the server's tree of then
pub record ResolutionStands (done : Resolution) (m : clients.Resolution) : Type 0 where
  pub name : done.script ≡ m.script.name
  pub budget : done.budget ≡ m.budget
  pub kept : done.kept ≡ entries m.kept
  pub script : IsScript m.script.code
  pub acts : done.acts ≡ (run m.script.code m.kept m.tree m.budget).acts
  pub tree : IsTree m.tree
  pub files : AreSpelledFiles m.kept

abbrev pub StageStands : Stage → clients.Stage → Type 0
StageStands stages.Waiting clients.Waiting = Unit {0}
StageStands stages.Conflict clients.Conflict = Unit {0}
StageStands stages.Manual clients.Manual = Unit {0}
StageStands (stages.Resolved done) (clients.Resolved m) = ResolutionStands done m
StageStands stage other = ⊥

-- an item is a transaction of the machine that waits: its acts are those of its own run on the tree before it
pub record ItemStands (t : Nodes) (item : Item) (m : clients.Item) : Type 0 where
  pub number : item.tid ≡ m.number
  pub name : item.script ≡ m.script.name
  pub budget : item.budget ≡ m.budget
  pub few : m.budget ≤ ACT_LIMIT
  pub script : IsScript m.script.code
  pub acts : item.acts ≡ (local_run t m).acts
  pub tree : after_acts t item.acts ≡ (local_run t m).tree
  pub option : item.option ≡ option_named m.option
  pub stage : StageStands item.stage m.stage
  pub planned : HasPlan m

abbrev pub ItemsStand : List Item → Nodes → List clients.Item → Type 0
ItemsStand [] t [] = Unit {0}
ItemsStand (item ∷ items) t (m ∷ ms) = ItemStands t item m × ItemsStand items (after_acts t item.acts) ms
ItemsStand items t ms = ⊥

-- what the first that waits asked of the server's tree of then, if it was resolved; else nothing
abbrev pub access_by : clients.Stage → Access
access_by (clients.Resolved m) = access_of (run m.script.code m.kept m.tree m.budget).acts m.tree
access_by other = no_access

abbrev pub access_kept : List clients.Item → Access
access_kept [] = no_access
access_kept (m ∷ ms) = access_by m.stage

-- those behind the first are as they ended
abbrev pub AreWaiting : List clients.Item → Type 0
AreWaiting ms = AllByRecursion (λ m. m.stage ≡ clients.Waiting) ms

abbrev pub OthersWait : List clients.Item → Type 0
OthersWait [] = Unit {0}
OthersWait (m ∷ ms) = AreWaiting ms

-- ---- on a disk

-- a running transaction, as it is on a disk: its acts are those of its script so far, on its base
pub record RunningKept (running : Transaction) (m : clients.Running) : Type 0 where
  pub number : running.number ≡ m.number
  pub name : running.script ≡ m.script.name
  pub script : IsScript m.script.code
  pub few : m.acts ≤ ACT_LIMIT
  pub count : length running.acts ≡ m.acts
  pub base : running.base ≡ m.base
  pub acts : running.acts ≡ (so_far m).acts
  pub tree : own_view running ≡ (so_far m).tree
  pub option : running.option ≡ option_named m.option
  pub is_tree : IsTree running.base
  pub spelled : IsSpelledTree running.base

abbrev pub RunKept : List Transaction → List clients.Running → Type 0
RunKept [] [] = Unit {0}
RunKept (it ∷ running) (m ∷ ms) = RunningKept it m × RunKept running ms
RunKept running ms = ⊥

-- the state is what a client of the machine keeps
pub record StateKept (state : State) (m : ClientState) : Type 0 where
  pub held : state.held ≡ m.held
  pub items : ItemsStand state.items state.held m.items
  pub running : RunKept state.running m.running
  pub last : state.last ≡ m.last
  pub tree : IsTree state.held
  pub spelled : IsSpelledTree state.held
  pub access : state.access ≡ access_kept m.items
  pub others : OthersWait m.items
