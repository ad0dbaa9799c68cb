-- Bytes spell one body at most in either version.
use Rattle.std.proofs.Common.{◌≡◌, ℕ, ◌<◌, ◌^◌, List, length}
use Rattle.iot_bodies.specs.declared.server.ServerBody.{ServerBody}
use Rattle.iot_slots.specs.declared.version.Version.{Version}
use Rattle.iot_slots.specs.declared.version.Version.TheVariants.{One, Two}
use Rattle.iot_versions.specs.Versions.{SpellsServer}
use Rattle.iot_versions.proofs.ServersLaws.{new_server_one, old_server_one}

pub server_one : (version : Version) (bytes : List ℕ) (one other : ServerBody) → length bytes < 2 ^ 64 → SpellsServer version bytes one
    → SpellsServer version bytes other → one ≡ other
server_one One bytes one other short m n = old_server_one bytes one other short m n
server_one Two bytes one other short m n = new_server_one bytes one other short m n
