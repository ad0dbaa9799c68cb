-- The plain machine: the server's list of committed scripts, the clients, and the scripts. The server has no tree of its own: its
-- tree is what its list gives when it is run from the start. Nor has a client a view: it is what its transactions make of its tree.
use Rattle.std.specs.Prelude.{ℕ, ◌+◌, ◌==◌, Bool, true, false, not, List, [], ◌∷◌, ◌++◌, map, filter, take, drop, slice_index_or}
use Rattle.std.specs.Prelude.{slice_set}
use Rattle.std.specs.List.{list_any}
use Rattle.iot_disk.specs.Disk.{Arms, armed_with}
use Rattle.iot_disk.specs.declared.disk.Pick.{Pick}
use Rattle.iot_tree.specs.Tree.{Nodes}
use Rattle.iot_tree.specs.declared.labels.Way.{Way}
use Rattle.iot_lang.specs.Code.{End}
use Rattle.iot_link.specs.Links as link
use Rattle.iot_link.specs.Links.{LinkState, connected}
use Rattle.iot_exec.specs.Serial.{Entry, serial_tree}
use Rattle.iot_machine.specs.Calls.{Lens}
use Rattle.iot_machine.specs.Clients.{Declared, ClientState, new_client}
use Rattle.iot_machine.specs.Nodes.{Node, Counts, unopened, armed, arming_as, paired, no_counts}

-- a committed transaction, and the name of its script
pub record Commit : Type 0 where
  pub script : List ℕ
  pub entry : Entry Way

-- a client: its name, its node, its link with the server, and the numbers of its running transactions that are first class, which it
-- forgets when it stops
pub record Client : Type 0 where
  pub name : List ℕ
  pub node : Node ClientState
  pub link : LinkState
  pub first : List ℕ

-- The server, whose durable state is its list; how many requests it has answered since its start; whether its backup was promoted, and how
-- its other disk was armed; the clients; the scripts; and what is counted of the disks of the clients that are not declared yet. The server
-- has a backup exactly until that is promoted: the other disk is the backup's until then, and later the one that was given up.
pub record Machine : Type 0 where
  pub server : Node (List Commit)
  pub requests : ℕ
  pub promoted : Bool
  pub beside : Arms
  pub clients : List Client
  pub scripts : List Declared
  pub spare : List Counts

-- the first of these counts
abbrev pub first_of : List Counts → Counts
first_of counts = slice_index_or counts 0 no_counts

-- the tenth of them
abbrev pub last_of : List Counts → Counts
last_of counts = slice_index_or counts 9 no_counts

-- before anything has started, over ten disks with these counts; the first is the server's, the last its backup's
abbrev pub handed : List Counts → Machine
handed counts = record {
  server = unopened [] (paired (first_of counts) (last_of counts));
  requests = 0;
  promoted = false;
  beside = (last_of counts).arms;
  clients = [];
  scripts = [];
  spare = take 8 (drop 1 counts);
}

-- ---- the server's two disks

-- the first one is given up: from now on the server's disk is the backup's
abbrev pub give_up : Machine → Machine
give_up m = record m { server = arming_as m.beside m.server; promoted = true; beside = m.server.counts.arms }

-- the backup's is armed; it is the server's own if it was promoted
abbrev pub arm_backup : (calls : ℕ) → Pick → (promoted : Bool) → Machine → Machine
arm_backup calls pick false m = record m { beside = armed_with m.beside calls pick }
arm_backup calls pick true m = record m { server = armed calls pick m.server }

-- ---- a list of commits

-- the committed transactions alone
abbrev pub entries_of : List Commit → List (Entry Way)
entries_of commits = map (λ commit. commit.entry) commits

-- the tree that a list gives
abbrev pub tree_after : List Commit → Nodes
tree_after commits = serial_tree (entries_of commits)

abbrev pub add_commit : Commit → List Commit → List Commit
add_commit commit commits = commits ++ commit ∷ []

-- ---- looking up by place

abbrev pub no_client : Client
no_client = record { name = []; node = unopened new_client no_counts; link = link.opened; first = [] }

abbrev pub no_script : Declared
no_script = record { name = []; code = End }

abbrev pub server : Lens Machine (Node (List Commit))
server = record { get = λ m. m.server; set = λ node m. record m { server = node } }

abbrev pub client_in : Machine → ℕ → Client
client_in m c = slice_index_or m.clients c no_client

abbrev pub put_client : ℕ → Client → Machine → Machine
put_client c client m = record m { clients = slice_set m.clients c client }

-- ---- one client

abbrev pub client_at : ℕ → Lens Machine Client
client_at c = record { get = λ m. client_in m c; set = λ client m. put_client c client m }

abbrev pub node : Lens Client (Node ClientState)
node = record { get = λ client. client.node; set = λ node client. record client { node = node } }

-- it is not up from now on, and all that run are second class
abbrev pub cut_off : Client → Client
cut_off client = record client { link = connected false client.link; first = [] }

-- it has lost a message, or the server has stopped: it is not up, nothing is armed, and all that run are second class
abbrev pub break : Client → Client
break client = record client { link = link.broken; first = [] }

-- whether its running transaction with this number is first class
abbrev pub is_first : (number : ℕ) → Client → Bool
is_first number client = list_any (λ n. n == number) client.first

-- the numbers of those of first class, if this one is of it from now on, or is of second class
abbrev pub classed : (number : ℕ) → (first : Bool) → List ℕ → List ℕ
classed number true numbers = number ∷ numbers
classed number false numbers = filter (λ n. not (n == number)) numbers

-- ---- one client with the server

-- what an event of a client sees: the client, its place among all of them, which no call changes, and the server
pub record Pair : Type 0 where
  pub place : ℕ
  pub client : Client
  pub server : Node (List Commit)
  pub requests : ℕ

abbrev pub pair_at : ℕ → Lens Machine Pair
pair_at c = record {
  get = λ m. record { place = c; client = client_in m c; server = m.server; requests = m.requests };
  set = λ pair m. record m { server = pair.server; requests = pair.requests; clients = slice_set m.clients c pair.client };
}

abbrev pub its_client : Lens Pair Client
its_client = record { get = λ pair. pair.client; set = λ client pair. record pair { client = client } }

abbrev pub its_server : Lens Pair (Node (List Commit))
its_server = record { get = λ pair. pair.server; set = λ node pair. record pair { server = node } }

-- what the client keeps
abbrev pub kept : Pair → ClientState
kept pair = pair.client.node.durable

-- its running transaction with this number is first class from now on, or second class
abbrev pub set_class : (number : ℕ) → (first : Bool) → Pair → Pair
set_class number first pair = record pair { client = record pair.client { first = classed number first pair.client.first } }

-- all that run are second class from now on
abbrev pub all_second : Pair → Pair
all_second pair = record pair { client = record pair.client { first = [] } }

abbrev pub break_link : Pair → Pair
break_link pair = record pair { client = break pair.client }

abbrev pub count_request : Pair → Pair
count_request pair = record pair { requests = pair.requests + 1 }

-- ---- scripts

abbrev pub script_at : List Declared → ℕ → Declared
script_at scripts place = slice_index_or scripts place no_script
