-- A ledger of the clients' names, of how often each node has stopped, and of the commits.
use Rattle.std.specs.Prelude.{◌≡◌, ℕ, List, [], Option, None, Some, map, slice_index_or}
use Rattle.iot_machine.specs.Machine.{Machine, Client, Commit}
use Rattle.iot_machine.specs.Serving.{server_name}
use Rattle.iot_machine.specs.Texts.{transaction_name}

-- a client: its name, and how often it has stopped
pub record Row : Type 0 where
  pub name : List ℕ
  pub stops : ℕ

-- how often the server has stopped; the clients, by their places; and the commits, in their order
pub record Ledger : Type 0 where
  pub stops : ℕ
  pub clients : List Row
  pub commits : List Commit

abbrev pub row_of : Client → Row
row_of client = record { name = client.name; stops = client.node.stops }

-- what is so of a machine
abbrev pub ledger_of : Machine → Ledger
ledger_of m = record { stops = m.server.stops; clients = map row_of m.clients; commits = m.server.durable }

abbrev pub no_row : Row
no_row = record { name = []; stops = 0 }

abbrev pub row_at : List Row → ℕ → Row
row_at rows c = slice_index_or rows c no_row

-- ---- names

-- that of the server, or of the client at this place
abbrev pub node_name : Ledger → Option ℕ → List ℕ
node_name l None = server_name
node_name l (Some c) = (row_at l.clients c).name

-- those of the clients
abbrev pub names_of : Ledger → List (List ℕ)
names_of l = map (λ row. row.name) l.clients

-- that of the transaction of this client with this number
abbrev pub name_in : Ledger → (client number : ℕ) → List ℕ
name_in l client number = transaction_name (row_at l.clients client).name number

-- it is the name of a node
pub record IsNode (l : Ledger) (name : List ℕ) : Type 0 where
  pub who : Option ℕ
  pub is : name ≡ node_name l who

-- it may be the name of a transaction of a client
pub record IsTransaction (l : Ledger) (tid : List ℕ) : Type 0 where
  pub client : ℕ
  pub number : ℕ
  pub is : tid ≡ name_in l client number
