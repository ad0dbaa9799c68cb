-- Which files a program may take as its own, by the bytes of a disk that it has just started.
use Rattle.std.specs.Prelude.{ℕ, Bool, true, false, ◌==◌, ◌&&◌, ◌||◌, nat_eq, nat_le, List, [], ◌∷◌, length, take, drop}
use Rattle.std.specs.List.{starts_with}

-- it begins as such a disk does, with its gate and its header, and is no shorter
abbrev pub is_started : (first bytes : List ℕ) → Bool
is_started first bytes = nat_le (length first) (length bytes) && starts_with nat_eq bytes (take 9 first)

-- each byte is 0, or the one that a start writes there
abbrev pub is_part : (first bytes : List ℕ) → Bool
is_part first [] = true
is_part [] (byte ∷ bytes) = false
is_part (x ∷ first) (byte ∷ bytes) = (byte == 0 || byte == x) && is_part first bytes

-- what a start leaves that was cut short: nothing, or a closed gate with a part of the rest
abbrev pub is_begun : (first bytes : List ℕ) → Bool
is_begun first [] = true
is_begun first (gate ∷ bytes) = gate == 0 && is_part (drop 1 first) bytes

abbrev pub may_be_ours : (first bytes : List ℕ) → Bool
may_be_ours first bytes = is_started first bytes || is_begun first bytes
