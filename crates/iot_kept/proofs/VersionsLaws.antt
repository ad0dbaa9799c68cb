-- Bytes spell one body of a client at most, and one change, in either version.
use Rattle.std.proofs.Common.{◌≡◌, ℕ, ◌<◌, ◌^◌, List, length}
use Rattle.iot_bodies.proofs.ClientLaws.{client_laws}
use Rattle.iot_bodies.specs.Decoding.{client_at}
use Rattle.iot_bodies.specs.Rules.{IsClientBody}
use Rattle.iot_bodies.specs.Spelling.{client_spelling}
use Rattle.iot_bodies.specs.declared.client.ClientBody.{ClientBody}
use Rattle.iot_changes.proofs.ChangesLaws.{change_laws}
use Rattle.iot_changes.specs.Decoding.{change_at}
use Rattle.iot_changes.specs.Rules.{IsChange}
use Rattle.iot_changes.specs.Spelling.{change_spelling}
use Rattle.iot_changes.specs.declared.changes.Change.{Change}
use Rattle.iot_slots.specs.declared.version.Version.{Version}
use Rattle.iot_slots.specs.declared.version.Version.TheVariants.{One, Two}
use Rattle.iot_wire.proofs.MessagesLaws.{call_one}
use Rattle.iot_kept.specs.Versions.{SpellsChange, SpellsClient}

pub client_one : (version : Version) (bytes : List ℕ) (one other : ClientBody) → length bytes < 2 ^ 64 → SpellsClient version bytes one
    → SpellsClient version bytes other → one ≡ other
client_one One bytes one other short m n = absurd m
client_one Two bytes one other short m n = call_one IsClientBody client_spelling client_at client_laws bytes short one other m n

pub change_one : (version : Version) (bytes : List ℕ) (one other : Change) → length bytes < 2 ^ 64 → SpellsChange version bytes one
    → SpellsChange version bytes other → one ≡ other
change_one One bytes one other short m n = absurd m
change_one Two bytes one other short m n = call_one IsChange change_spelling change_at change_laws bytes short one other m n

-- what is spelled has a spelling
pub client_has : (version : Version) (bytes : List ℕ) (body : ClientBody) → SpellsClient version bytes body → IsClientBody body
client_has One bytes body m = absurd m
client_has Two bytes body m = m.value

pub change_has : (version : Version) (bytes : List ℕ) (change : Change) → SpellsChange version bytes change → IsChange change
change_has One bytes change m = absurd m
change_has Two bytes change m = m.value
