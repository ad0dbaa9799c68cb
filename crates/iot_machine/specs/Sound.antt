-- What holds of every machine to which events lead: how the list of commits and the clients' transactions go together.
use Rattle.std.specs.Prelude.{◌≡◌, ◌≢◌, ℕ, ◌<◌, ◌≤◌, true, List, [], ◌∷◌, ◌++◌, map, length, None, IfSome}
use Rattle.std.specs.List.{AllByRecursion}
use Rattle.iot_machine.specs.Clients.{Declared, Stage, Waiting, Conflict, Manual, Resolved, Item, Running, ClientState, most_running}
use Rattle.iot_machine.specs.Clients.{attempt_of}
use Rattle.iot_machine.specs.Machine.{Machine, Client, Commit, client_in}
use Rattle.iot_machine.specs.Nodes.{Node}
use Rattle.iot_machine.specs.Options as options
use Rattle.iot_machine.specs.Options.{OnConflict}
use Rattle.iot_machine.specs.Serving.{number_of}

-- ---- the states that a node may come back with

-- it is so of what is durable, and of the state after the record that is in doubt, if one is
pub record Possibly {S : Type 0} (P : S → Type 0) (node : Node S) : Type 0 where
  pub is : P node.durable
  pub may_be : IfSome node.doubt P

-- a node that is alive has nothing in doubt
abbrev pub IsSure : {S : Type 0} → Node S → Type 0
IsSure node = node.alive ≡ true → node.doubt ≡ None

abbrev pub IsSureOf : Client → Type 0
IsSureOf client = IsSure client.node

-- ---- the numbers of a client's transactions

-- none of these is there twice
abbrev pub AreApart : List ℕ → Type 0
AreApart [] = Unit {0}
AreApart (number ∷ numbers) = AllByRecursion (λ other. other ≢ number) numbers × AreApart numbers

-- those of the transactions that wait, and then of those that run
abbrev pub numbers_of : List Item → List Running → List ℕ
numbers_of items running = map (λ item. item.number) items ++ map (λ it. it.number) running

-- those of the running ones rise, from above this one
abbrev pub Rise : ℕ → List Running → Type 0
Rise low [] = Unit {0}
Rise low (it ∷ running) = (low < it.number) × Rise it.number running

-- each transaction has one of its own, and the client has given it; those that run stand by their numbers, and are at most as many as may
pub record AreNumbered (state : ClientState) : Type 0 where
  pub apart : AreApart (numbers_of state.items state.running)
  pub given : AllByRecursion (λ number. number ≤ state.last) (numbers_of state.items state.running)
  pub rise : Rise 0 state.running
  pub few : length state.running ≤ most_running

abbrev pub IsNumbered : Client → Type 0
IsNumbered client = Possibly AreNumbered client.node

-- ---- the transactions in the list

-- it submits something: its own run or its resolution
abbrev pub IsReady : Stage → Type 0
IsReady Waiting = Unit {0}
IsReady Conflict = ⊥
IsReady Manual = ⊥
IsReady (Resolved it) = Unit {0}

-- this is the commit that the transaction submits
pub record IsCommitOf (item : Item) (commit : Commit) : Type 0 where
  pub stage : IsReady item.stage
  pub name : commit.script ≡ (attempt_of item).script.name
  pub script : commit.entry.script ≡ (attempt_of item).script.code
  pub budget : commit.entry.budget ≡ (attempt_of item).budget
  pub way : commit.entry.way ≡ (attempt_of item).way
  pub kept : commit.entry.kept ≡ (attempt_of item).kept

abbrev pub IsAnother : Commit → Item → Type 0
IsAnother commit item = item.number ≢ commit.entry.number

-- a transaction in the list waits at most as the first one, and then as it was committed
abbrev pub WaitsFirst : Commit → List Item → Type 0
WaitsFirst commit [] = Unit {0}
WaitsFirst commit (item ∷ items) = (item.number ≡ commit.entry.number → IsCommitOf item commit) × AllByRecursion (IsAnother commit) items

-- those that run are others
abbrev pub RunOthers : Commit → List Running → Type 0
RunOthers commit running = AllByRecursion (λ it. it.number ≢ commit.entry.number) running

-- a client that keeps this has given its number
pub record Knows (commit : Commit) (state : ClientState) : Type 0 where
  pub given : commit.entry.number ≤ state.last
  pub waits : WaitsFirst commit state.items
  pub run : RunOthers commit state.running

-- so has its client, whichever state that comes back with
pub record IsListed (m : Machine) (commit : Commit) : Type 0 where
  pub client : commit.entry.client < length m.clients
  pub known : Possibly (Knows commit) (client_in m commit.entry.client).node

-- ---- the transactions that conflicted

-- it is run again, or another one in its place
abbrev pub CanResolve : OnConflict Declared → Type 0
CanResolve options.Reexec = Unit {0}
CanResolve (options.Resolver script) = Unit {0}
CanResolve options.Abort = ⊥
CanResolve options.Manual = ⊥

-- one that is to be resolved, or was, has an option that resolves
abbrev pub IsPlanned : OnConflict Declared → Stage → Type 0
IsPlanned option Waiting = Unit {0}
IsPlanned option Conflict = CanResolve option
IsPlanned option Manual = Unit {0}
IsPlanned option (Resolved it) = CanResolve option

abbrev pub HasPlan : Item → Type 0
HasPlan item = IsPlanned item.option item.stage

abbrev pub ArePlanned : ClientState → Type 0
ArePlanned state = AllByRecursion HasPlan state.items

abbrev pub HasPlans : Client → Type 0
HasPlans client = Possibly ArePlanned client.node

-- ---- the machine

-- no transaction is in the list twice
abbrev pub AreOnce : List Commit → Type 0
AreOnce [] = Unit {0}
AreOnce (commit ∷ commits) = (number_of commit commits ≡ None) × AreOnce commits

-- whichever states its nodes come back with
pub record IsSound (m : Machine) : Type 0 where
  pub sure : IsSure m.server
  pub sure_of : AllByRecursion IsSureOf m.clients
  pub numbered : AllByRecursion IsNumbered m.clients
  pub planned : AllByRecursion HasPlans m.clients
  pub listed : Possibly (AllByRecursion (IsListed m)) m.server
  pub once : Possibly AreOnce m.server
