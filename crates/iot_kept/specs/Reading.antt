-- What is read of the body of a checkpoint, and which parts make a state that a client may have.
use Rattle.std.specs.Prelude.{◌≡◌, ◌≤◌, ◌<◌, ℕ, Bool, true, false, List, [], ◌∷◌, map, Option, Some, None, Vec}
use Rattle.std.specs.List.{AllByRecursion}
use Rattle.std.specs.declared.alloc.Global.{Global}
use Rattle.iot_tree.specs.Tree.{Nodes}
use Rattle.iot_tree.specs.declared.access.Access.{Access}
use Rattle.iot_tree.specs.declared.acts.Act.{Act}
use Rattle.iot_access.specs.Access.{no_access}
use Rattle.iot_acts.specs.Guards.{IsGuarded}
use Rattle.iot_acts.specs.Traces.{ReadsHold, FitsIfAny, after_update, after_acts}
use Rattle.iot_queue.specs.declared.items.Item.{Item}
use Rattle.iot_queue.specs.declared.items.Stage.TheVariants as stages
use Rattle.iot_stamp.specs.Stamps.{nodes_of, unstamped}
use Rattle.iot_bodies.specs.declared.client.ClientBody.{ClientBody}
use Rattle.iot_bodies.specs.declared.client.Running.{Running as Spelled}
use Rattle.iot_bodies.specs.declared.client.Waiting.{Waiting}
use Rattle.iot_kept.specs.Bodies.{Allows, AreNumbered}
use Rattle.iot_kept.specs.Memory.{transaction, transactions, durable_state, SeesOwn}
use Rattle.iot_kept.specs.States.{Transaction, State, after_each, view}
use Rattle.iot_kept.specs.declared.durable.Durable.{Durable}
use Rattle.iot_kept.specs.declared.memory.Memory.{Memory}
use Rattle.iot_kept.specs.declared.running.Ground.TheVariants.{Past}
use Rattle.iot_kept.specs.declared.running.Running.{Running}

-- ---- the state of parts

abbrev pub transaction_from : Spelled → Transaction
transaction_from it = record { number = it.tid; script = it.script; option = it.option; base = it.base; acts = it.acts }

abbrev pub items_of : List Waiting → List Item
items_of waiting = map (λ (one : Waiting). one.item) waiting

-- the access of the first
abbrev pub access_of : List Waiting → Access
access_of [] = no_access
access_of (first ∷ others) = first.access

abbrev pub state_from : ClientBody → State
state_from parts = record {
  held = parts.held;
  items = items_of parts.items;
  running = map transaction_from parts.running;
  last = parts.last;
  access = access_of parts.items;
}

-- ---- one after the other

-- each passes at its turn, where what is there changes with each
abbrev pub InTurn : {S X : Type 0} → (S → X → Type 0) → (S → X → S) → List X → S → Type 0
InTurn Passes step [] s = Unit {0}
InTurn Passes step (x ∷ xs) s = Passes s x × InTurn Passes step xs (step s x)

-- what is there after all of them
abbrev pub after_turns : {S X : Type 0} → (S → X → S) → List X → S → S
after_turns step [] s = s
after_turns step (x ∷ xs) s = after_turns step xs (step s x)

-- ---- numbers

abbrev pub IsAbove : Option ℕ → ℕ → Type 0
IsAbove None n = Unit {0}
IsAbove (Some previous) n = previous < n

-- above the number before it, and not above the last one
abbrev pub ComesNext : (last : ℕ) → Option ℕ → ℕ → Type 0
ComesNext last previous n = IsAbove previous n × (n ≤ last)

-- each comes next after the one before it
abbrev pub InOrder : (last : ℕ) → List ℕ → Option ℕ → Type 0
InOrder last = InTurn (ComesNext last) (λ previous n. Some n)

-- ---- stages

abbrev pub AllWait : List Item → Type 0
AllWait items = AllByRecursion (λ other. other.stage ≡ stages.Waiting) items

-- only the first may be in another stage than Waiting, one that its option allows
abbrev pub MayWait : List Item → Type 0
MayWait [] = Unit {0}
MayWait (item ∷ items) = Allows item.option item.stage × AllWait items

-- ---- acts, one after the other

-- the act is guarded, its update fits the tree, and each of its reads is the tree's answer
abbrev pub Suits : Nodes → Act → Type 0
Suits t act = IsGuarded act × FitsIfAny t act.update × ReadsHold t act.reads

abbrev pub ActsSuit : List Act → Nodes → Type 0
ActsSuit = InTurn Suits (λ t act. after_update t act.update)

abbrev pub EachSuit : List Item → Nodes → Type 0
EachSuit = InTurn (λ t item. ActsSuit item.acts t) (λ t item. after_acts t item.acts)

-- those of a running transaction, on its base
abbrev pub SuitOwn : Transaction → Type 0
SuitOwn it = ActsSuit it.acts it.base

pub record AllSuit (state : State) : Type 0 where
  pub items : EachSuit state.items state.held
  pub running : AllByRecursion SuitOwn state.running

-- the acts were made on the tree if they suit it in turn, and only then
abbrev pub MadeIf : Bool → List Act → (old new : Nodes) → Type 0
MadeIf true acts old new = ActsSuit acts old × (new ≡ after_acts old acts)
MadeIf false acts old new = ActsSuit acts old → ⊥

abbrev pub EachMadeIf : Bool → List Item → (old new : Nodes) → Type 0
EachMadeIf true items old new = EachSuit items old × (new ≡ after_each old items)
EachMadeIf false items old new = EachSuit items old → ⊥

-- the view, if the acts of all that wait suit in turn, and only then
abbrev pub IsViewOf : State → Option Nodes → Type 0
IsViewOf state (Some t) = EachSuit state.items state.held × (t ≡ view state)
IsViewOf state None = EachSuit state.items state.held → ⊥

-- ---- those that run

-- in second class, with its own view; on which view it began is not known
pub record IsResumed (it : Running) : Type 0 where
  pub suit : SuitOwn (transaction it)
  pub class : it.first ≡ false
  pub own : SeesOwn it
  pub on : it.on ≡ Past

-- it is in memory if its acts suit its base, and only then
abbrev pub ResumesIf : Spelled → Option Running → Type 0
ResumesIf it (Some made) = (transaction made ≡ transaction_from it) × IsResumed made
ResumesIf it None = SuitOwn (transaction_from it) → ⊥

-- the same of all
abbrev pub EachResumesIf : List Spelled → Option (Vec Running Global) → Type 0
EachResumesIf running (Some made) = (transactions made.items ≡ map transaction_from running) × AllByRecursion IsResumed made.items
EachResumesIf running None = AllByRecursion SuitOwn (map transaction_from running) → ⊥

-- ---- all

-- the parts as they are in memory
pub record IsMadeOf (parts : ClientBody) (durable : Durable) : Type 0 where
  pub state : durable_state durable ≡ state_from parts
  pub stamps : durable.held ≡ unstamped (nodes_of durable.held)
  pub running : AllByRecursion IsResumed durable.running.items

-- they are there if the acts of each that runs suit its base, and only then
abbrev pub IsMadeIf : ClientBody → Option Durable → Type 0
IsMadeIf parts (Some durable) = IsMadeOf parts durable
IsMadeIf parts None = AllByRecursion SuitOwn (map transaction_from parts.running) → ⊥

-- the tests that are made then
pub record Passes (state : State) : Type 0 where
  pub numbered : AreNumbered state
  pub waits : MayWait state.items
  pub items : EachSuit state.items state.held

-- it is in memory with its view if it passes them, and only then
abbrev pub IsChecked : Durable → Option Memory → Type 0
IsChecked durable (Some memory) =
    Passes (durable_state durable) × (memory.durable ≡ durable) × (memory.view ≡ view (durable_state durable))
IsChecked durable None = Passes (durable_state durable) → ⊥
