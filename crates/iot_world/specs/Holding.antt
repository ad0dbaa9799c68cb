-- What the disks hold that a world gives back.
use Rattle.std.specs.{List.AllZip as Each, Prelude.◌++◌, Prelude.◌≡◌, Prelude.◌⊎◌}
use Rattle.iot_judging.specs.Records.{IsImage, LacksCommit}
use Rattle.iot_kept.specs.{Standing.StandFor, States.State, States.Transaction}
use Rattle.iot_machine.specs.{Clients.ClientState, Clients.Running, Clients.so_far, Recorded.option_named, Recorded.queue_kept}
use Rattle.{iot_server_node.specs.Servers.IsOneMoreIfAny, iot_standing.specs.Kept.access_kept, iot_world.specs.Disks.with_ends}
use Rattle.iot_world.specs.Prelude.{Bool, Client, Commit, List, Machine, Medium, None, Option, Some, false, length, map, true, ℕ}

-- an image has this list: it stands for its state, and as many records were ever appended to it
abbrev pub IsListed : List Commit → (image : List ℕ) → Type 0
IsListed commits image = IsImage image (length commits) commits

-- each of the images is so of a state; if a record is in doubt, of that without it or with it
abbrev pub Holds : {S : Type 0} → (S → List ℕ → Type 0) → (images : List ℕ → Type 0) → S → (doubt : Option S) → Type 0
Holds Is images s None = (image : List ℕ) → images image → Is s image
Holds Is images s (Some after) = (image : List ℕ) → images image → Is s image ⊎ Is after image

-- ---- the server's two disks

-- Two images stand together for the longer list: the first has it, and the second has it or lacks its last commit. Then that commit's
-- record is the first one's last, behind its checkpoint in force, and no checkpoint is due on the second before it.
pub record StandTogether (one other : List ℕ) (commits longer : List Commit) : Type 0 where
  pub first : IsListed longer one
  pub second : IsListed longer other ⊎ LacksCommit one other (length commits) commits longer

-- both have the list without the commit that is in doubt, or they stand together for the list with it
abbrev pub HoldTogether : (one other : List ℕ) → (commits longer : List Commit) → Type 0
HoldTogether one other commits longer = (IsListed commits one × IsListed commits other) ⊎ StandTogether one other commits longer

-- The first disk and the last. If nothing is in doubt, each image of either has the server's list; else it is so of each pair of images.
-- Since the last was promoted, nothing is said of the first, which was given up.
abbrev pub HoldsServer : (promoted : Bool) → (firsts lasts : List ℕ → Type 0) → List Commit → (doubt : Option (List Commit)) → Type 0
HoldsServer false firsts lasts commits None = Holds IsListed firsts commits None × Holds IsListed lasts commits None
HoldsServer false firsts lasts commits (Some longer) =
    (one other : List ℕ) → firsts one → lasts other → HoldTogether one other commits longer
HoldsServer true firsts lasts commits doubt = Holds IsListed lasts commits doubt

-- ---- a client's

-- a running transaction, with the acts of its script
abbrev pub running_kept : Running → Transaction
running_kept it = record {
  number = it.number;
  script = it.script.name;
  option = option_named it.option;
  base = it.base;
  acts = (so_far it).acts;
}

-- what a client keeps, with the acts of its scripts: what is durable of it
abbrev pub state_kept : ClientState → State
state_kept m = record {
  held = m.held;
  items = queue_kept m;
  running = map running_kept m.running;
  last = m.last;
  access = access_kept m.items;
}

-- an image is what a client keeps
abbrev pub IsKept : ClientState → (image : List ℕ) → Type 0
IsKept m image = StandFor image (state_kept m)

-- each image of this disk is that
abbrev pub KeepsClient : {D : Type 0} → Medium D → D → Client → Type 0
KeepsClient medium disk client = Holds IsKept (medium.may_leave disk) client.node.durable client.node.doubt

-- ---- all of them

-- The first disk and the last hold the server's list, with which the one that is in doubt begins; of those between them each of the first
-- holds what a client keeps, in order of declaration. The ones behind these are as they were handed in.
pub record DisksHold {D : Type 0} (medium : Medium D) (handed back : List D) (m : Machine) : Type 0 where
  pub first : D
  pub clients : List D
  pub spare : List D
  pub last : D
  pub is : back ≡ with_ends first last (clients ++ spare)
  pub list : HoldsServer m.promoted (medium.may_leave first) (medium.may_leave last) m.server.durable m.server.doubt
  pub longer : IsOneMoreIfAny m.server.durable m.server.doubt
  pub each : Each (KeepsClient medium) clients m.clients
  pub first_handed : D
  pub front : List D
  pub last_handed : D
  pub was : handed ≡ with_ends first_handed last_handed (front ++ spare)
  pub aligned : length front ≡ length clients
