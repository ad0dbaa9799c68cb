-- What bytes on a client's disk spell in either version.
use Rattle.std.specs.Prelude.{ℕ, List, Option, Some, None}
use Rattle.iot_bodies.specs.Rules.{IsClientBody}
use Rattle.iot_bodies.specs.Spelling.{client_spelling}
use Rattle.iot_bodies.specs.declared.client.ClientBody.{ClientBody}
use Rattle.iot_changes.specs.Rules.{IsChange}
use Rattle.iot_changes.specs.Spelling.{change_spelling}
use Rattle.iot_changes.specs.declared.changes.Change.{Change}
use Rattle.iot_slots.specs.declared.version.Version.{Version}
use Rattle.iot_slots.specs.declared.version.Version.TheVariants.{One, Two}
use Rattle.iot_wire.specs.Messages.{IsMessage}

-- In version 1 they spell nothing: a client's disk of that version has another header.

-- this body
abbrev pub SpellsClient : Version → List ℕ → ClientBody → Type 0
SpellsClient One bytes body = ⊥
SpellsClient Two bytes body = IsMessage IsClientBody client_spelling bytes body

-- this change
abbrev pub SpellsChange : Version → List ℕ → Change → Type 0
SpellsChange One bytes change = ⊥
SpellsChange Two bytes change = IsMessage IsChange change_spelling bytes change

-- what was read: a value that the bytes spell, or none, and then they spell none
abbrev pub ReadsAs : {X : Type 0} → (Spells : X → Type 0) → Option X → Type 0
ReadsAs Spells (Some value) = Spells value
ReadsAs Spells None = (value : _) → Spells value → ⊥
