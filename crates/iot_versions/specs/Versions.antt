-- Which servers' bodies bytes spell in either version.
use Rattle.std.specs.Prelude.{◌≡◌, ℕ, true, List, Option, Some, None}
use Rattle.iot_bodies.specs.Rules.{IsServerBody}
use Rattle.iot_bodies.specs.Spelling.{server_spelling}
use Rattle.iot_bodies.specs.declared.server.ServerBody.{ServerBody}
use Rattle.iot_slots.specs.declared.version.Version.{Version}
use Rattle.iot_slots.specs.declared.version.Version.TheVariants.{One, Two}
use Rattle.iot_wire.specs.Messages.{IsMessage}
use Rattle.iot_versions.specs.Spelling.{old_server_spelling}
use Rattle.iot_versions.specs.Values.{is_old_server}

-- a body with a spelling in version 1 is one that has a spelling, and which version 1 has as well
abbrev pub IsOldServer : ServerBody → Type 0
IsOldServer body = IsServerBody body × (is_old_server body ≡ true)

-- the bytes spell this server's body
abbrev pub SpellsServer : Version → List ℕ → ServerBody → Type 0
SpellsServer One bytes body = IsMessage IsOldServer old_server_spelling bytes body
SpellsServer Two bytes body = IsMessage IsServerBody server_spelling bytes body

-- what was read: a value that the bytes spell, or none, and then they spell none
abbrev pub ReadsAs : {X : Type 0} → (Spells : X → Type 0) → Option X → Type 0
ReadsAs Spells (Some value) = Spells value
ReadsAs Spells None = (value : _) → Spells value → ⊥
