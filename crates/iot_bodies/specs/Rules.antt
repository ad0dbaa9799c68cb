-- Which bodies of checkpoints have a spelling.
use Rattle.std.specs.Prelude.{◌≡◌, ◌≤◌, List, [], ◌∷◌, length}
use Rattle.std.specs.List.{AllByRecursion}
use Rattle.iot_text.specs.Names.{IsName}
use Rattle.iot_tree.specs.declared.access.Access.{Access}
use Rattle.iot_access.specs.Access.{no_access}
use Rattle.iot_views.specs.Rules.{IsAccess, IsNumber, IsLabel, IsOption, IsBudget, AreActs, IsTreeOfRows}
use Rattle.iot_queue.specs.declared.items.Item.{Item}
use Rattle.iot_queue.specs.declared.items.Stage.{Stage}
use Rattle.iot_queue.specs.declared.items.Stage.TheVariants.{Waiting as Waits, Conflict, Manual, Resolved}
use Rattle.iot_changes.specs.Rules.{IsResolution}
use Rattle.iot_bodies.specs.declared.server.ServerBody.{ServerBody}
use Rattle.iot_bodies.specs.declared.client.ClientBody.{ClientBody}
use Rattle.iot_bodies.specs.declared.client.Running.{Running}
use Rattle.iot_bodies.specs.declared.client.Waiting.{Waiting}
use Rattle.iot_bodies.specs.declared.running.TheConstants.{RUN_LIMIT}

-- ---- a server's

pub record IsServerBody (body : ServerBody) : Type 0 where
  pub tree : IsTreeOfRows body.tree
  pub labels : AllByRecursion IsLabel body.labels
  pub stamps : AllByRecursion IsNumber body.stamps

-- ---- a client's

-- a resolution has an access, and what waits otherwise has none
abbrev pub IsStage : Stage → Access → Type 0
IsStage Waits access = access ≡ no_access
IsStage Conflict access = access ≡ no_access
IsStage Manual access = access ≡ no_access
IsStage (Resolved done) access = IsResolution done × IsAccess access

-- a transaction that waits: a budget of not too many acts, and not too many acts
pub record IsWaiting (it : Waiting) : Type 0 where
  pub number : IsNumber it.item.tid
  pub script : IsName it.item.script
  pub budget : IsBudget it.item.budget
  pub acts : AreActs it.item.acts
  pub option : IsOption it.item.option
  pub stage : IsStage it.item.stage it.access

-- one that runs: not too many acts since it began on its base
pub record IsRunning (it : Running) : Type 0 where
  pub number : IsNumber it.tid
  pub script : IsName it.script
  pub option : IsOption it.option
  pub base : IsTreeOfRows it.base
  pub acts : AreActs it.acts

-- those that run: not too many
pub record AreRunning (running : List Running) : Type 0 where
  pub few : length running ≤ RUN_LIMIT
  pub each : AllByRecursion IsRunning running

pub record IsClientBody (body : ClientBody) : Type 0 where
  pub held : IsTreeOfRows body.held
  pub items : AllByRecursion IsWaiting body.items
  pub running : AreRunning body.running
  pub last : IsNumber body.last

-- the transactions of a queue, of which only the first may have this access
abbrev pub waiting_of : List Item → Access → List Waiting
waiting_of [] access = []
waiting_of (item ∷ items) access = record { item = item; access = access } ∷ waiting_of items no_access
