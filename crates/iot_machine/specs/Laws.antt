-- What is true of every transaction that was cut.
use Rattle.std.specs.Prelude.{◌≡◌, ◌≤◌, ℕ, List, [], ◌∷◌, ◌++◌, take, Some}
use Rattle.iot_tree.specs.Tree.{Nodes, IsTree}
use Rattle.iot_acts.specs.Turns.{reads_of}
use Rattle.iot_machine.specs.Clients as stages
use Rattle.iot_machine.specs.Clients.{Declared, Item, Running, ClientState, Plan}
use Rattle.iot_machine.specs.Clients.{plain_run, local_run, view, so_far, IsLongest, cut, attempt_of, plan_of, resolution_of, at_stage}
use Rattle.iot_machine.specs.Options.{Reexec}
use Rattle.iot_machine.specs.Transactions.{commit_of}

-- with a greater budget a script does these acts first
abbrev pub AreFirst : Declared → Nodes → (acts : ℕ) → Type 0
AreFirst script t acts = (more : ℕ) → acts ≤ more → (plain_run script t acts).acts ≡ take acts (plain_run script t more).acts

-- a client submits this script with so many acts, so the server lists it with these
pub record Submits (script : Declared) (acts : ℕ) (item : Item) : Type 0 where
  pub script_same : (attempt_of item).script ≡ script
  pub attempt : (attempt_of item).budget ≡ acts
  pub entry : (place : ℕ) → (commit_of place item).entry.budget ≡ acts

-- its script is run again with so many acts, and submitted so
pub record Reruns (script : Declared) (acts : ℕ) (item : Item) (plan : Plan) : Type 0 where
  pub script_same : plan.script ≡ script
  pub budget : plan.budget ≡ acts
  pub resubmits : (server : Nodes) → Submits script acts (at_stage (stages.Resolved (resolution_of plan server)) item)

-- an item that waits on this tree is the first of the acts that a transaction that ran has done, so many and no more, wherever it is used
pub record IsPrefixOf (it : Running) (t : Nodes) (acts : ℕ) (item : Item) : Type 0 where
  pub number : item.number ≡ it.number
  pub script : item.script ≡ it.script
  pub budget : item.budget ≡ acts
  -- in the queue
  pub reads : reads_of (local_run t item).acts ≡ reads_of (take acts (so_far it).acts)
  pub own : IsTree t → (local_run t item).acts ≡ take acts (so_far it).acts
  -- if it is certified
  pub submits : Submits it.script acts item
  -- if it is run again
  pub reruns : (held : Nodes) (plan : Plan) → it.option ≡ Reexec → plan_of held item ≡ Some plan → Reruns it.script acts item plan
  -- on every tree
  pub first : (t : Nodes) → AreFirst it.script t acts

-- the first of those that ran waits behind the others, as its prefix, and the rest still run
pub record WaitsAsPrefix (s : ClientState) (it : Running) (running : List Running) (acts : ℕ) : Type 0 where
  pub item : Item
  pub run : (cut acts s).running ≡ running
  pub waits : (cut acts s).items ≡ s.items ++ item ∷ []
  pub is : IsPrefixOf it (view s) acts item

abbrev pub ACutIsItsPrefix : Type 0
ACutIsItsPrefix = (s : ClientState) (it : Running) (running : List Running) (acts : ℕ) → s.running ≡ it ∷ running
    → IsLongest (view s) it acts
    → WaitsAsPrefix s it running acts
