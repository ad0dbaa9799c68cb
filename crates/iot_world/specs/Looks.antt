-- What one sees who looks in at all nodes of a world.
use Rattle.std.specs.Prelude.{◌++◌, ◌∷◌, ◌≡◌}
use Rattle.iot_inspect.specs.{Shown.named, Shown.shown, declared.snapshot.Json.Json}
use Rattle.iot_machine.specs.Json.{client_data}
use Rattle.iot_world.specs.Prelude.{Client, ClientStands, Declared, Laptop, List, Medium, World, map, ℕ, []}

-- the names of its clients, in order of declaration
abbrev pub client_names : {D : Type 0} → World D → List (List ℕ)
client_names world = map (λ laptop. laptop.name) world.clients.items

-- these clients were told, in this order
pub record HasTold (ms : List Client) (json : Json) : Type 0 where
  pub clients : shown json ≡ map client_data ms
  pub names : named json ≡ map (λ m. m.name) ms

-- this client was told behind the others
pub record AddsTold (m : Client) (old new : Json) : Type 0 where
  pub clients : shown new ≡ shown old ++ client_data m ∷ []
  pub names : named new ≡ named old ++ m.name ∷ []

-- each client for which it stands, alive or down, was told
abbrev pub Tells : {D : Type 0} → Medium D → Laptop D → (old new : Json) → Type 0
Tells medium laptop old new = (scripts : List Declared) (m : Client) → ClientStands medium scripts laptop m → AddsTold m old new
