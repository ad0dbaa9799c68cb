-- What a client asks of the server's tree, as both have it with its stamps.
use Rattle.std.specs.Prelude.{ℕ, Bool, List, []}
use Rattle.iot_hoard.specs.Picking.{picked}
use Rattle.iot_machine.specs.Serving.{Errand, Refresh, Walk}
use Rattle.iot_stamp.specs.Refresh.{asked, changes_for, changes_on, known_with_stamps}
use Rattle.iot_stamp.specs.Stamps.{Stamps, nodes_of, nothing_held}
use Rattle.iot_tree.specs.Snapshots.{has}
use Rattle.iot_tree.specs.Tree.{Path}
use Rattle.iot_tree.specs.declared.changes.Changes.{Changes}
use Rattle.iot_wire.specs.Messages.{IsMessage}
use Rattle.iot_wire.specs.Rules.{IsRequest}
use Rattle.iot_wire.specs.Spelling.{request_spelling}
use Rattle.iot_wire.specs.declared.requests.Request.{Request}
use Rattle.iot_wire.specs.declared.requests.Request.TheVariants as requests

-- the request of a client with this number and this held tree
abbrev pub request_for : (client : ℕ) → (held : Stamps) → Errand → Request
request_for client held (Refresh want) = requests.Refresh client (known_with_stamps held) want
request_for client held (Walk profile limit) = requests.Walk client profile limit

-- the bytes are its spelling
abbrev pub IsErrand : (client : ℕ) → (held : Stamps) → Errand → List ℕ → Type 0
IsErrand client held errand bytes = IsMessage IsRequest request_spelling bytes (request_for client held errand)

-- the paths to which the server's tree is cut down for it
abbrev pub paths_for : (server held : Stamps) → Errand → Path → Bool
paths_for server held (Refresh want) = asked server (known_with_stamps held) want
paths_for server held (Walk profile limit) = has (picked (nodes_of server) profile limit)

-- what the server sends: for a walk as to a client that knows nothing
abbrev pub changes_to : (server held : Stamps) → Errand → Changes
changes_to server held (Refresh want) = changes_for server (known_with_stamps held) want
changes_to server held (Walk profile limit) = changes_on server [] (has (picked (nodes_of server) profile limit))

-- what the client merges that into: what it holds, or nothing
abbrev pub base_of : (held : Stamps) → Errand → Stamps
base_of held (Refresh want) = held
base_of held (Walk profile limit) = nothing_held
