-- What a `Json` has been told so far.
use Rattle.std.specs.Prelude.{ℕ, List, map}
use Rattle.serde_json.specs.Data.{Data}
use Rattle.serde_json.specs.View.{view}
use Rattle.iot_inspect.specs.declared.snapshot.Json.{Json}

-- the clients, in the order in which they were told
abbrev pub shown : Json → List Data
shown json = map view json.clients.items

-- their names
abbrev pub named : Json → List (List ℕ)
named json = json.names.items
