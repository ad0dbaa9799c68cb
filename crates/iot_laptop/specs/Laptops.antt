-- Which client of the machine a laptop stands for.
use Rattle.std.specs.{Borrow.Fml, Borrow.Lends, Borrow.MutBor, Borrow.RattleType, Prelude.◌≡◌}
use Rattle.{iot_client.specs.declared.client.Client.Client, iot_kept.specs.States.opening}
use Rattle.iot_laptop.specs.Below.{AreNamed, Bool, Declared, IsEmpty, Laptop, List, Live, Medium, Nodes, None, Option, PostStands}
use Rattle.iot_laptop.specs.Below.{Seated, Some, Stamps, State, Up, break, live_numbered, no_text, nothing_held, true, view, ℕ, []}
use Rattle.iot_laptop.specs.{Seats.seat_disk, Seats.seating, contracts.laptop.Laptop.the_row}
use Rattle.iot_link.specs.declared.passages.Passage.{Passage}
use Rattle.iot_machine.specs.{Clients.new_client, Machine.cut_off, Nodes.Counts, Nodes.unopened, Sound.Possibly}
use Rattle.iot_node.specs.{Posts.disk_of, Posts.is_on, declared.post.Post.Post, declared.post.Post.TheVariants.Down}
use Rattle.{iot_stamp.specs.Trails.KeepsTrail, iot_standing.specs.States.StateStands}
use Rattle.iot_client.specs.contracts.client.Client as clients
use Rattle.iot_client.specs.Ties as client
use Rattle.iot_link.specs.Links as link
use Rattle.iot_link.specs.declared.passages.Passage.TheVariants as passages
use Rattle.iot_machine.specs.Machine as machine

-- ---- what a laptop has

-- what is durable of a client that is alive
abbrev pub state_by : {D : Type 0} → Post (Seated D) D → State
state_by (Up seated) = client.state_of seated.client
state_by other = opening

-- what is known of its running transactions besides
abbrev pub live_by : {D : Type 0} → Post (Seated D) D → List Live
live_by (Up seated) = client.live_of seated.client
live_by other = []

-- what a live client holds, with the server's stamps; of one that is down nothing is held
abbrev pub stamps_by : {D : Type 0} → Post (Seated D) D → Stamps
stamps_by (Up seated) = client.stamps_of seated.client
stamps_by other = nothing_held

-- the live client itself
abbrev pub lent_by : {D : Type 0} → Post (Seated D) D → Option (Client D)
lent_by (Up seated) = Some seated.client
lent_by other = None

-- how many records were ever appended to the disk of a client that is alive, modulo 2 ^ 64
abbrev pub records_by : {D : Type 0} → Post (Seated D) D → ℕ
records_by (Up seated) = client.records_of seated.client
records_by other = 0

abbrev pub is_alive : {D : Type 0} → Laptop D → Bool
is_alive laptop = is_on laptop.post

abbrev pub state_in : {D : Type 0} → Laptop D → State
state_in laptop = state_by laptop.post

abbrev pub live_in : {D : Type 0} → Laptop D → List Live
live_in laptop = live_by laptop.post

abbrev pub stamps_in : {D : Type 0} → Laptop D → Stamps
stamps_in laptop = stamps_by laptop.post

abbrev pub records_in : {D : Type 0} → Laptop D → ℕ
records_in laptop = records_by laptop.post

-- the disk of a client's node, which it has except inside a call that starts or stops it
abbrev pub disk_by : {D : Type 0} → Post (Seated D) D → Option D
disk_by post = disk_of seat_disk post

abbrev pub disk_in : {D : Type 0} → Laptop D → Option D
disk_in laptop = disk_by laptop.post

-- what it had of a server's stamps, it still has
abbrev pub KeepsTrails : {D : Type 0} → Laptop D → Laptop D → Type 0
KeepsTrails old new = KeepsTrail (stamps_in old) (stamps_in new)

-- ---- a laptop

-- its node, over its disk; nothing follows the line of a record that was kept
abbrev pub NodeStands : {D : Type 0} → Medium D → Laptop D → machine.Client → Type 0
NodeStands medium laptop m = PostStands (seating medium laptop.place) medium no_text laptop.post m.node

-- one that is alive, among these scripts
pub record LaptopStands {D : Type 0} (medium : Medium D) (scripts : List Declared) (laptop : Laptop D) (m : machine.Client) : Type 0 where
  pub name : laptop.name ≡ m.name
  pub link : laptop.link ≡ m.link
  pub alive : m.node.alive ≡ true
  pub node : NodeStands medium laptop m
  pub state : StateStands (state_in laptop) (live_in laptop) m.first m.node.durable
  pub named : AreNamed scripts m.node.durable

-- one that is alive or down, among these scripts: also a record in doubt names none but them
pub record ClientStands {D : Type 0} (medium : Medium D) (scripts : List Declared) (laptop : Laptop D) (m : machine.Client) : Type 0 where
  pub name : laptop.name ≡ m.name
  pub link : laptop.link ≡ m.link
  pub node : NodeStands medium laptop m
  pub state : m.node.alive ≡ true → StateStands (state_in laptop) (live_in laptop) m.first m.node.durable
  pub named : Possibly (AreNamed scripts) m.node

-- it is alive, and stands for some client, among some scripts
pub record Stands {D : Type 0} (medium : Medium D) (laptop : Laptop D) : Type 0 where
  pub scripts : List Declared
  pub machine : machine.Client
  pub stands : LaptopStands medium scripts laptop machine

-- alive or down, it stands for some client
pub record StandsAnyhow {D : Type 0} (medium : Medium D) (laptop : Laptop D) : Type 0 where
  pub scripts : List Declared
  pub machine : machine.Client
  pub stands : ClientStands medium scripts laptop machine

-- once the borrow r ends, its client is what was last written through r
abbrev pub LendsClient : (D : RattleType) → MutBor (Laptop D.Denot) → MutBor (Client D.Denot) → Fml
LendsClient D s r = Lends (the_row D) (clients.the_row D) s r (λ w. record s.now { post = Up (record { client = w }) })

-- this is its client, which is alive
pub record IsLent {D : Type 0} (medium : Medium D) (laptop : Laptop D) (it : Client D) : Type 0 where
  pub post : laptop.post ≡ Up (record { client = it })
  pub state : client.state_of it ≡ state_in laptop
  pub live : client.live_of it ≡ live_in laptop
  pub place : client.place_of it ≡ laptop.place
  pub tied : client.IsTied medium it
  pub begun : client.AreBegun (client.live_of it)

-- a client that was declared, and never started, on a disk that counts this
abbrev pub unopened_laptop : List ℕ → Counts → machine.Client
unopened_laptop name counts = record { name = name; node = unopened new_client counts; link = link.opened; first = [] }

-- it is so, with an empty disk
pub record IsUnopened {D : Type 0} (medium : Medium D) (laptop : Laptop D) : Type 0 where
  pub disk : D
  pub down : laptop.post ≡ Down (record { disk = disk; doubt = None })
  pub empty : IsEmpty medium disk

-- the transaction with this number runs, and it is first class
abbrev pub IsFirstOf : Option Live → Type 0
IsFirstOf None = ⊥
IsFirstOf (Some live) = live.first ≡ true

abbrev pub IsFirst : {D : Type 0} → (number : ℕ) → Laptop D → Type 0
IsFirst number laptop = IsFirstOf (live_numbered number (state_in laptop).running (live_in laptop))

-- the tree that each client sees for which it stands
abbrev pub IsView : {D : Type 0} → Medium D → Nodes → Laptop D → Type 0
IsView medium t laptop = (scripts : List Declared) (m : machine.Client) → LaptopStands medium scripts laptop m → t ≡ view m.node.durable

-- ---- its link

-- it is at the place where it was
abbrev pub SamePlace : {D : Type 0} → Laptop D → Laptop D → Type 0
SamePlace old new = new.place ≡ old.place

-- after an exchange that got so far
abbrev pub after_passage : Passage → machine.Client → machine.Client
after_passage passages.Away m = record m { first = [] }
after_passage passages.Both m = m
after_passage lost m = break m

-- nothing but its link and the classes of those that run is another now
pub record Reclassed {D : Type 0} (medium : Medium D) (change : machine.Client → machine.Client) (old new : Laptop D) : Type 0 where
  pub place : SamePlace old new
  pub state : state_in new ≡ state_in old
  pub stamps : stamps_in new ≡ stamps_in old
  pub disk : disk_in new ≡ disk_in old
  pub stands : (scripts : List Declared) (m : machine.Client) → LaptopStands medium scripts old m
      → LaptopStands medium scripts new (change m)

-- all that run are second class now
abbrev pub all_second : machine.Client → machine.Client
all_second m = record m { first = [] }

-- its link is not up, and all that run are second class
pub record IsCutLink {D : Type 0} (medium : Medium D) (old new : Laptop D) : Type 0 where
  pub place : SamePlace old new
  pub stamps : stamps_in new ≡ stamps_in old
  pub disk : disk_in new ≡ disk_in old
  pub stands : (scripts : List Declared) (m : machine.Client) → ClientStands medium scripts old m
      → ClientStands medium scripts new (cut_off m)
