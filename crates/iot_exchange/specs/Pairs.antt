-- A client with the server, as the code has them: which pair of the machine they stand for, and how they change.
use Rattle.std.specs.Prelude.{None, Option, Vec, slice_get, ◌+◌, ◌≡◌, ◌≤◌}
use Rattle.{std.specs.declared.alloc.Global.Global, iot_disk.specs.Disk.Medium}
use Rattle.iot_exchange.specs.Words.{Client, Declared, Err, Halt, IsErrand, Laptop, LaptopStands, List, Ok}
use Rattle.iot_exchange.specs.Words.{Pair, Result, ServerNode, ServerStands, Some, Stands, StepsTo, Try, Verdict, is_up, stamps_in, true, ℕ}
use Rattle.{iot_judging.specs.Lists.Follows, iot_judging.specs.Verdicts.SpellsVerdict, iot_laptop.specs.Laptops.ClientStands}
use Rattle.{iot_laptop.specs.Laptops.disk_in, iot_machine.specs.Calls.Call, iot_machine.specs.Machine.Commit, iot_machine.specs.Nodes.Node}
use Rattle.iot_machine.specs.{Refining.StepFrom, Serving.Errand, Serving.Judges, Serving.Lends, Serving.Submission, Transactions.Exchange}
use Rattle.iot_node.specs.{Disks.KeepsDisk, declared.halt.Halt.TheVariants.NoMemory, declared.halt.Halt.TheVariants.Over}
use Rattle.iot_server_node.specs.{Disks.on_both, Messages.SpellsCut, Records.KeepsRecords, Servers.IsHanded, Servers.IsNamedIn}
use Rattle.iot_server_node.specs.{Servers.KeepsBeside, Servers.disk_of, Servers.stamps_of, declared.message.Message.Message}
use Rattle.{iot_stamp.specs.Stamps.Stamps, iot_stamp.specs.Stamps.nodes_of, iot_tree.specs.Tree.Nodes}

-- ---- a client and the server

pub record Two (L S : Type 0) : Type 0 where
  pub laptop : L
  pub server : S

abbrev pub two : {L S : Type 0} → L → S → Two L S
two laptop server = record { laptop = laptop; server = server }

abbrev pub Both : Type 0 → Type 0
Both D = Two (Laptop D) (ServerNode D)

-- they stand for this pair, whose client is at place c among all clients; and what the client holds follows the server's list
pub record PairStands {D : Type 0} (c : ℕ) (clients : Laptop D → Client → Type 0) (servers : ServerNode D → Node (List Commit) → ℕ → Type 0)
    (w : Both D) (pair : Pair) : Type 0 where
  pub place : pair.place ≡ c
  pub client : clients w.laptop pair.client
  pub server : servers w.server pair.server pair.requests
  pub follows : Follows (stamps_in w.laptop) pair.server.durable

-- a laptop that stands for a client in this way, and is at place c among clients of these names
pub record IsAt {D : Type 0} (stands : Laptop D → Client → Type 0) (names : List (List ℕ)) (c : ℕ) (laptop : Laptop D) (m : Client)
    : Type 0 where
  pub is : stands laptop m
  pub place : laptop.place ≡ c
  pub named : slice_get names c ≡ Some m.name
  pub few : c ≤ 7

-- the client is alive
abbrev pub UpStands : {D : Type 0} → Medium D → List Declared → (names : List (List ℕ)) → (c : ℕ) → Both D → Pair → Type 0
UpStands medium scripts names c = PairStands c (IsAt (LaptopStands medium scripts) names c) (ServerStands medium names)

-- it may be down
abbrev pub AnyStands : {D : Type 0} → Medium D → List Declared → (names : List (List ℕ)) → (c : ℕ) → Both D → Pair → Type 0
AnyStands medium scripts names c = PairStands c (IsAt (ClientStands medium scripts) names c) (ServerStands medium names)

-- the server has its disks, of its backup, too, and none was armed or given up; they have lost no commit
pub record KeepsServed {D : Type 0} (medium : Medium D) (old new : ServerNode D) : Type 0 where
  pub server : KeepsDisk (on_both medium) (disk_of old) (disk_of new)
  pub beside : KeepsBeside medium old new
  pub records : KeepsRecords (on_both medium) (disk_of old) (disk_of new)

-- so it has them, and the client has its disk, which was not armed
pub record KeepsDisks {D : Type 0} (medium : Medium D) (old new : Both D) : Type 0 where
  pub client : KeepsDisk medium (disk_in old.laptop) (disk_in new.laptop)
  pub served : KeepsServed medium old.server new.server
  pub open served use *

-- they stand for some pair, among some scripts; so the client is alive, and one of at most eight
pub record IsReady {D : Type 0} (medium : Medium D) (w : Both D) : Type 0 where
  pub scripts : List Declared
  pub names : List (List ℕ)
  pub c : ℕ
  pub pair : Pair
  pub stands : UpStands medium scripts names c w pair
  pub alive : Stands medium w.laptop
  pub low : w.laptop.place ≤ 7
  pub keeps : KeepsDisks medium w w

-- among these scripts
pub record IsReadyWith {D : Type 0} (medium : Medium D) (scripts : List Declared) (w : Both D) : Type 0 where
  pub names : List (List ℕ)
  pub c : ℕ
  pub pair : Pair
  pub stands : UpStands medium scripts names c w pair
  pub ready : IsReady medium w

-- alive or down
pub record IsStandingWith {D : Type 0} (medium : Medium D) (scripts : List Declared) (w : Both D) : Type 0 where
  pub names : List (List ℕ)
  pub c : ℕ
  pub pair : Pair
  pub stands : AnyStands medium scripts names c w pair

-- ---- what they do

-- it goes on, and the world stands in the first way; or the event is over, and it stands in the second way
abbrev pub EndsFrom : {W M A : Type 0} → (up down : W → M → Type 0) → Try M A → M → W → (x y : List ℕ) → Result A Halt → Type 0
EndsFrom up down call m v x y (Ok a) = StepFrom up call m v x y (Some a)
EndsFrom up down call m v x y (Err NoMemory) = Unit {0}
EndsFrom up down call m v x y (Err Over) = StepFrom down call m v x y None

pub record From {W M A : Type 0} (up down : W → M → Type 0) (call : Try M A) (m : M) (v : W) (x y : List ℕ) (result : Result A Halt) : Type
    0 where
  pub is : EndsFrom up down call m v x y result

-- so it is from this pair: the client is alive then, or the event is over, and it may be down
abbrev pub DoesFrom : {D A : Type 0} → Medium D → List Declared → (names : List (List ℕ)) → (c : ℕ) → Try Pair A → Pair → Both D
    → (x y : List ℕ) → Result A Halt → Type 0
DoesFrom medium scripts names c call pair v x y result =
    From (UpStands medium scripts names c) (AnyStands medium scripts names c) call pair v x y result

-- Among these scripts, whatever the names of the clients and the place of this one, each pair for which they stand does this. If memory
-- runs out, nothing is said but of the disks.
pub record Does {D A : Type 0} (medium : Medium D) (scripts : List Declared) (call : Try Pair A) (old new : Both D)
    (x y : List ℕ) (result : Result A Halt) : Type 0 where
  pub step : (names : List (List ℕ)) (c : ℕ) (pair : Pair) → UpStands medium scripts names c old pair
      → DoesFrom medium scripts names c call pair new x y result
  pub disks : KeepsDisks medium old new

-- ---- exchanges

-- what is asked of the server: what its tree has for an errand, or its verdict on a transaction
pub data Query : Type 0 where
  Objects : (client : ℕ) → (held server : Stamps) → (tree : Nodes) → Errand → Query
  Judgment : Submission → Query

abbrev pub Answered : Query → Type 0
Answered (Objects client held server tree errand) = Nodes
Answered (Judgment it) = Verdict

-- what the machine's server does with it
abbrev pub request_of : (query : Query) → Call (Node (List Commit)) (Option (Answered query))
request_of (Objects client held server tree errand) = Lends tree errand
request_of (Judgment it) = Judges it

-- what a reply says
abbrev pub Spells : (query : Query) → List ℕ → Answered query → Type 0
Spells (Objects client held server tree errand) = SpellsCut server held errand
Spells (Judgment it) = SpellsVerdict it.reads

-- the message asks this of the server, where the clients have these names
abbrev pub AsksFor : {D : Type 0} → List (List ℕ) → Message → ServerNode D → Query → Type 0
AsksFor names message node (Objects client held server tree errand) =
    IsErrand client held errand message.request.items × (server ≡ stamps_of node) × (tree ≡ nodes_of held)
AsksFor names message node (Judgment it) = IsHanded message it × IsNamedIn names it

-- what is so of the answer, if the reply spells one, and of none, if no reply came
abbrev pub IfReplied : {A : Type 0} → (List ℕ → A → Type 0) → Option (Vec ℕ Global) → (Option A → Type 0) → Type 0
IfReplied Spelled None P = P None
IfReplied {A = A} Spelled (Some reply) P = (a : A) × Spelled reply.items a × P (Some a)

-- how many requests were answered then, if so many were before
abbrev pub answered : {A : Type 0} → Option A → ℕ → ℕ
answered None n = n
answered (Some a) n = n + 1

-- what a live server does with a request: it answers what the bytes spell, or it stops and gives no reply
pub record Serves {S A : Type 0} (servers : S → Node (List Commit) → ℕ → Type 0) (Spelled : List ℕ → A → Type 0)
    (call : Call (Node (List Commit)) (Option A)) (reply : Option (Vec ℕ Global)) (old new : S) (x y : List ℕ) : Type 0 where
  pub is : IfReplied Spelled reply (λ a. (n : ℕ)
      → StepsTo (λ s node. servers s node n) (λ s node. servers s node (answered a n)) call old new x y a)

-- an exchange of this request, and what the reply spells, if one came
pub record Exchanges {W A : Type 0} (up : W → Pair → Type 0) (Spelled : List ℕ → A → Type 0) (call : Call Pair (Option A))
    (reply : Option (Vec ℕ Global)) (old new : W) (x y : List ℕ) : Type 0 where
  pub is : IfReplied Spelled reply (λ a. StepsTo up up call old new x y a)

-- the message was sent, and this is the reply, if one came: whatever it asks, that was exchanged
pub record Asked {D : Type 0} (medium : Medium D) (message : Message) (reply : Option (Vec ℕ Global)) (old new : Both D) (x y : List ℕ)
    : Type 0 where
  pub is : (scripts : List Declared) (names : List (List ℕ)) (c : ℕ) (query : Query) → AsksFor names message old.server query
      → Exchanges (UpStands medium scripts names c) (Spells query) (Exchange (request_of query)) reply old new x y

-- if it replied to a client that asks for objects, the server is alive, and its tree has the stamps that it had
abbrev pub LendsIfReplied : {D : Type 0} → Message → Option (Vec ℕ Global) → ServerNode D → ServerNode D → Type 0
LendsIfReplied message None old new = Unit {0}
LendsIfReplied message (Some reply) old new =
    (client : ℕ) (held : Stamps) (errand : Errand) → IsErrand client held errand message.request.items
    → (is_up new ≡ true) × (stamps_of new ≡ stamps_of old)

-- a reply came to the message, and the client is as it was
pub record Came {D : Type 0} (medium : Medium D) (message : Message) (reply : Vec ℕ Global) (old new : Both D) (x y : List ℕ) : Type 0 where
  pub ready : IsReady medium old
  pub asked : Asked medium message (Some reply) old new x y
  pub same : new.laptop ≡ old.laptop
  pub stands : Stands medium new.laptop
  pub lends : LendsIfReplied message (Some reply) old.server new.server

abbrev pub Replied : {D : Type 0} → Medium D → Message → Option (Vec ℕ Global) → (old new : Both D) → (x y : List ℕ) → Type 0
Replied medium message None old new x y = Asked medium message None old new x y
Replied medium message (Some reply) old new x y = Came medium message reply old new x y

-- whatever is asked, no reply comes
pub record MissesAll {D : Type 0} (medium : Medium D) (old new : Both D) : Type 0 where
  pub none : (scripts : List Declared) (names : List (List ℕ)) (c : ℕ) (query : Query) (x : List ℕ)
      → StepsTo (UpStands medium scripts names c) (UpStands medium scripts names c) (Exchange (request_of query)) old new x x None
