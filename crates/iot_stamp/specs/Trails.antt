-- What a held tree has of a server's stamps: where a row of it and one of the server's tree have the same stamp, they are the same.
use Rattle.std.specs.Prelude.{ℕ, Bool, Option, Some, None, nat_eq, if◌then◌else◌}
use Rattle.std.specs.FinMap.{entries}
use Rattle.std.specs.List.{list_all}
use Rattle.iot_stamp.specs.Agreement.{Agrees, IsPositive, UpTo}
use Rattle.iot_stamp.specs.Stamps.{Entry, Stamps, FarZero}

-- it agrees with this tree of a server, and has no stamp above this one
pub record Trails (server : Stamps) (bound : ℕ) (held : Stamps) : Type 0 where
  pub far : FarZero held
  pub agrees : Agrees held server
  pub within : UpTo held bound

-- what the first held tree had of a server's stamps, the other one still has, whatever the server
abbrev pub KeepsTrail : Stamps → Stamps → Type 0
KeepsTrail old new = (server : Stamps) (bound : ℕ) → IsPositive server → Trails server bound old → Trails server bound new

-- a row without a stamp of a server
abbrev pub is_own : Entry → Bool
is_own row = nat_eq row.1.1 0

-- the held tree with its stamps, if a server gave one of them
abbrev pub lent_stamps : Stamps → Option Stamps
lent_stamps held = if list_all is_own (entries held) then None else Some held
