-- What the nodes of the machine hold, as JSON, and how much of it the server has.
use Rattle.std.specs.Prelude.{ℕ, List, length, map, Option, Some, None, if◌then◌else◌}
use Rattle.std.specs.FinMap.{entries}
use Rattle.serde_json.specs.Data.{Data}
use Rattle.serde_json.specs.View.{items_of}
use Rattle.serde_json.specs.Written.{compact_text}
use Rattle.iot_inspect.specs.Values.{live_data, down_data, whole_data}
use Rattle.iot_tree.specs.Tree.{Nodes}
use Rattle.iot_machine.specs.Clients.{view}
use Rattle.iot_machine.specs.Events.{names_in}
use Rattle.iot_machine.specs.Machine.{Machine, Client, tree_after}
use Rattle.iot_machine.specs.Recorded.{queue_kept, labels_of}

-- a client: its queue and its view, unless it is down
abbrev pub client_data : Client → Data
client_data client =
    if client.node.alive then live_data client.name (queue_kept client.node.durable) (view client.node.durable)
    else down_data client.name

-- the server's tree, unless it is down
abbrev pub server_tree : Machine → Option Nodes
server_tree m = if m.server.alive then Some (tree_after m.server.durable) else None

-- all nodes
abbrev pub json_of : Machine → Data
json_of m = whole_data (items_of (map client_data m.clients)) (names_in m) (labels_of m.server.durable) (server_tree m)

abbrev pub json_text : Machine → List ℕ
json_text m = compact_text (json_of m)

-- how many rows the server's tree has, or 0 if the server is down
abbrev pub row_count : Machine → ℕ
row_count m = if m.server.alive then length (entries (tree_after m.server.durable)) else 0
