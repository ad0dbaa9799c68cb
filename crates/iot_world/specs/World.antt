-- Which plain machine a world stands for, node by node, and how a world changes.
use Rattle.std.specs.Prelude.{IsSome, Ok, Result, if◌then◌else◌, slice_get, ◌++◌, ◌+◌, ◌<◌, ◌∷◌, ◌≡◌, ◌≤◌, ◌⊎◌}
use Rattle.iot_client.specs.{Ties.AreBegun, Ties.IsTied, Ties.live_of, Ties.place_of, Ties.state_of, declared.client.Client.Client}
use Rattle.{iot_judging.specs.Lists.Follows, iot_laptop.specs.Alone.OpensClient, iot_laptop.specs.Laptops.stamps_in}
use Rattle.iot_machine.specs.{Calls.Call, Events.names_in, Machine.client_in, Machine.handed, Sound.IsSound, Transcript.Opening}
use Rattle.{iot_node.specs.Disks.IsEmpty, iot_node.specs.Disks.counts_on, iot_server.specs.declared.server.Server.Server}
use Rattle.iot_server_node.specs.{Disks.first_placed, Disks.last_placed, Servers.IsBeside, Servers.KeepsCommits}
use Rattle.iot_standing.specs.{Kept.ItemsStand, Scripts.AreApart, States.RunStand}
use Rattle.iot_world.specs.{Disks.ServerBegins, Disks.with_ends, Prelude.AllByRecursion}
use Rattle.iot_world.specs.Prelude.{AreDeclared, Bool, ClientStands, Commit, Declared, Disks, Event, HasPlaces, KeepsDisk, KeepsTrails}
use Rattle.iot_world.specs.Prelude.{Laptop, List, Machine, Medium, None, Option, Refines, ServerStands, Some, World, client_line}
use Rattle.iot_world.specs.Prelude.{disk_in, disk_of, event_part, false, is_promoted, length, map, true, vec_capacity, vec_len, ℕ, []}
pub use Rattle.iot_world.specs.Disks.{AreUnarmed, Each}
use Rattle.iot_kept.specs.States as states
use Rattle.iot_event.specs.declared.event.Event.TheVariants as events
use Rattle.iot_machine.specs.Clients as clients
use Rattle.iot_machine.specs.Machine as machines
use Rattle.iot_server_node.specs.Servers as servers
use Rattle.iot_exchange.specs.Scripts as exchange

-- ---- what a world has

abbrev pub client_count : {D : Type 0} → World D → ℕ
client_count world = length world.clients.items

-- the names of its scripts, in order of declaration
abbrev pub script_names : {D : Type 0} → World D → List (List ℕ)
script_names world = map (λ script. script.name) world.scripts.items

-- its scripts as they were declared
abbrev pub scripts_of : {D : Type 0} → World D → List Declared
scripts_of world = exchange.scripts_of world.scripts.items

-- these events name only what the world has, or what they declare before
abbrev pub DeclaredOn : {D : Type 0} → List Event → World D → Type 0
DeclaredOn events world = AreDeclared events (client_count world) (script_names world)

-- the client at this place is so
abbrev pub ClientIs : {D : Type 0} → (Laptop D → Type 0) → ℕ → World D → Type 0
ClientIs {D = D} P place world = (laptop : Laptop D) → slice_get world.clients.items place ≡ Some laptop → P laptop

-- ---- what a world stands for

-- the client at each place knows its place
abbrev pub ArePlaced : {D : Type 0} → List (Laptop D) → Type 0
ArePlaced {D = D} laptops = (place : ℕ) (laptop : Laptop D) → slice_get laptops place ≡ Some laptop → laptop.place ≡ place

-- a client of the machine among these scripts; what it holds follows this list of the server's
pub record StandsIn {D : Type 0} (medium : Medium D) (scripts : List Declared) (commits : List Commit) (laptop : Laptop D)
    (m : machines.Client) : Type 0 where
  pub client : ClientStands medium scripts laptop m
  pub follows : Follows (stamps_in laptop) commits

-- Its nodes, with their links, are those of the machine, and its server's backup was promoted if the machine's was; what each client
-- holds follows the server's list, no two of its scripts have the same name, and there is an empty disk for each client that may still be
-- declared.
pub record StandsFor {D : Type 0} (medium : Medium D) (world : World D) (m : Machine) : Type 0 where
  pub server : ServerStands medium (names_in m) world.server m.server m.requests
  pub beside : IsBeside medium world.server m.promoted m.beside
  pub clients_ : Each (StandsIn medium m.scripts m.server.durable) world.clients.items m.clients
  pub scripts : m.scripts ≡ scripts_of world
  pub apart : AreApart m.scripts
  pub placed : ArePlaced world.clients.items
  pub spare : AllByRecursion (IsEmpty medium) world.spare.items
  pub counts : map (counts_on medium) world.spare.items ≡ m.spare
  pub eight : length world.clients.items + length world.spare.items ≡ 8

-- and its list of commits goes together with the queues of its clients
pub record IsWorldOf {D : Type 0} (medium : Medium D) (world : World D) (m : Machine) : Type 0 where
  pub stands : StandsFor medium world m
  pub sound : IsSound m

-- so it is of some machine
pub record IsWorldOfSome {D : Type 0} (medium : Medium D) (world : World D) : Type 0 where
  pub machine : Machine
  pub stands : IsWorldOf medium world machine

-- a change of the world that wrote and answered is a step of the machine by this call
abbrev pub MakesStep : {D A : Type 0} → Medium D → Call Machine A → (old new : World D) → (before after : List ℕ) → A → Type 0
MakesStep medium call old new before after a = Refines (StandsFor medium) call old new before after a

-- an event is a step of the machine whose world it is
abbrev pub EventSteps : {D : Type 0} → Medium D → Event → (old new : World D) → (before after : List ℕ) → Type 0
EventSteps medium event old new before after = Refines (IsWorldOf medium) (event_part event) old new before after tt

-- ---- its disks

abbrev pub with_first : {D : Type 0} → Option D → List D → List D
with_first None disks = disks
with_first (Some disk) disks = disk ∷ disks

-- those of its clients, in front of others
abbrev pub with_clients : {D : Type 0} → List (Laptop D) → List D → List D
with_clients [] disks = disks
with_clients (laptop ∷ laptops) disks = with_first (disk_in laptop) (with_clients laptops disks)

-- the server's, before them and behind them
abbrev pub with_server : {D : Type 0} → Option (Disks D) → List D → List D
with_server None disks = disks
with_server (Some it) disks = with_ends (first_placed it) (last_placed it) disks

-- the disks that it gives back
abbrev pub disks_of : {D : Type 0} → World D → List D
disks_of world = with_server (disk_of world.server) (with_clients world.clients.items world.spare.items)

abbrev pub LaptopHasDisk : {D : Type 0} → Laptop D → Type 0
LaptopHasDisk laptop = IsSome (disk_in laptop)

-- each node has its disk, the server both of its, and there is room to put them together again
pub record HasDisks {D : Type 0} (world : World D) : Type 0 where
  pub server : HasPlaces world.server
  pub clients : AllByRecursion LaptopHasDisk world.clients.items
  pub room : length world.clients.items + vec_len world.spare + 2 ≤ vec_capacity world.spare

-- They are those of before, and what is still spare was spare before, behind those that were taken.
pub record KeepsDisks {D : Type 0} (old new : World D) : Type 0 where
  pub has : HasDisks old → HasDisks new
  pub taken : List D
  pub spare : old.spare.items ≡ taken ++ new.spare.items

-- what is so unless an event was done that arms a disk
abbrev pub UnlessArmed : {T E : Type 0} → (arms : Bool) → Result T E → Type 0 → Type 0
UnlessArmed true (Ok done) P = Unit {0}
UnlessArmed arms result P = P

-- the disk of a client's node, which was not armed unless that was done
abbrev pub KeepsNode : {D T E : Type 0} → Medium D → (arms : Bool) → Result T E → (old new : Laptop D) → Type 0
KeepsNode medium true (Ok done) old new = LaptopHasDisk old → LaptopHasDisk new
KeepsNode medium arms result old new = KeepsDisk medium (disk_in old) (disk_in new)

-- None of the world's disks was armed; at most so many that were spare are not any more; the server has its disks, which have lost no
-- commit of its list; and its backup was not promoted, unless it may have been.
pub record SameArms {D : Type 0} (medium : Medium D) (joins : ℕ) (turns : Bool) (old new : World D) : Type 0 where
  pub each : AreUnarmed medium (disks_of old) (disks_of new)
  pub spare : length old.spare.items ≤ length new.spare.items + joins
  pub places : HasPlaces new.server
  pub commits : KeepsCommits medium old.server new.server
  pub stays : turns ≡ false → is_promoted new.server ≡ is_promoted old.server

-- They are those of before, and none was armed unless that was done.
pub record LeavesDisks {D T E : Type 0} (medium : Medium D) (arms : Bool) (joins : ℕ) (turns : Bool) (result : Result T E)
    (old new : World D) : Type 0 where
  pub kept : KeepsDisks old new
  pub same : UnlessArmed arms result (SameArms medium joins turns old new)

-- how many clients an event declares
abbrev pub joined_by : Event → ℕ
joined_by (events.Client name) = 1
joined_by other = 0

-- The disks come back of a world that was not made. None was armed, and each image of the server's two stands for a state to which
-- commits lead, each of which can follow the ones before it; the others are as they were.
pub record GivesBack {D : Type 0} (medium : Medium D) (disks back : List D) : Type 0 where
  pub unarmed : AreUnarmed medium disks back
  pub same : unarmed.now.others ≡ unarmed.was.others
  pub begins : ServerBegins medium false [] unarmed.now.first unarmed.now.last

-- ---- how a world begins

-- A new world on these disks stands for a machine that has opened over what they count, with the text that was added.
pub record Opens {D : Type 0} (medium : Medium D) (disks : List D) (before after : List ℕ) (world : World D) : Type 0 where
  pub machine : Machine
  pub text : List ℕ
  pub wrote : after ≡ before ++ text
  pub step : Opening (handed (map (counts_on medium) disks)) text tt machine
  pub stands : IsWorldOf medium world machine
  pub no_clients : client_count world ≡ 0
  pub no_scripts : script_names world ≡ []
  pub has : HasDisks world
  pub first : D
  pub last : D
  pub were : disks ≡ with_ends first last world.spare.items

-- ---- how a world changes

-- a client that starts, which is said, or stops in that
pub record Starts {D : Type 0} (medium : Medium D) (name : List ℕ) (old new : Laptop D) (before after : List ℕ) : Type 0 where
  pub on : Bool
  pub between : List ℕ
  pub opens : (scripts : List Declared) → Refines (ClientStands medium scripts) OpensClient old new before between on
  pub trails : KeepsTrails old new
  pub says : after ≡ (if on then between ++ client_line name else between)

-- ---- nodes that are lent

-- a live server with the machine's tree and labels, which has answered as many requests, as far as it can count
abbrev pub LendsServer : {D : Type 0} → Option (Server D) → Machine → Type 0
LendsServer it m = servers.LendsServer it m.server m.requests

-- it meets what those calls of a client ask for that look at it, or ask it for what it submits
pub record IsReady {D : Type 0} (medium : Medium D) (place : ℕ) (it : Client D) : Type 0 where
  pub tied : IsTied medium it
  pub begun : AreBegun (live_of it)
  pub place_is : place_of it ≡ place
  pub few : place ≤ 7

-- a client with the machine's held tree, view, queue and running transactions with their bases; it can be looked at, and asked for what
-- it submits
pub record IsClientOf {D : Type 0} (medium : Medium D) (it : Client D) (place : ℕ) (m : machines.Client) : Type 0 where
  pub alive : m.node.alive ≡ true
  pub held : (state_of it).held ≡ m.node.durable.held
  pub view : states.view (state_of it) ≡ clients.view m.node.durable
  pub queue : ItemsStand (state_of it).items (state_of it).held m.node.durable.items
  pub running : RunStand (state_of it).running (live_of it) m.first m.node.durable.running
  pub ready : IsReady medium place it

-- none is lent of a client that is not declared, or is down
abbrev pub LendsClient : {D : Type 0} → Medium D → Option (Client D) → ℕ → Machine → Type 0
LendsClient medium None place m = (length m.clients ≤ place) ⊎ ((client_in m place).node.alive ≡ false)
LendsClient medium (Some it) place m = (place < length m.clients) × IsClientOf medium it place (client_in m place)
