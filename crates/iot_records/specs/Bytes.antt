-- Bytes at offsets of a disk.
use Rattle.std.specs.Prelude.{◌≡◌, ◌≤◌, ◌<◌, ℕ, ◌+◌, ◌==◌, Bool, nat_lt, ◌&&◌, not, List, length, take, drop, slice_index}
use Rattle.std.specs.Int.{w64, from_be_bytes, to_be_bytes}

-- a number, as eight bytes
unfoldable pub number : ℕ → List ℕ
number n = to_be_bytes w64 n

-- the number that the first eight bytes spell
unfoldable pub number_in : List ℕ → ℕ
number_in bytes = from_be_bytes w64 (take 8 bytes)

-- the number that is spelled at this offset
abbrev pub number_at : List ℕ → ℕ → ℕ
number_at bytes at = number_in (drop at bytes)

-- an open gate stands at this offset
abbrev pub is_open : List ℕ → ℕ → Bool
is_open bytes at = slice_index bytes at == 165

-- a closed gate stands at the start of the bytes
abbrev pub is_closed : List ℕ → Bool
is_closed bytes = nat_lt 0 (length bytes) && not (is_open bytes 0)

-- this part stands at that offset
pub record Has (bytes : List ℕ) (at : ℕ) (part : List ℕ) : Type 0 where
  pub inside : at + length part ≤ length bytes
  pub each : (k : ℕ) → k < length part → slice_index bytes (at + k) ≡ slice_index part k
