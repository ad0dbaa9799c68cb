-- Which bytes may be where in a script.
use Rattle.std.specs.Prelude.{ℕ, Bool, ◌&&◌, ◌||◌, not, ◌==◌, nat_le}
use Rattle.std.specs.Char.{is_ascii_alphanumeric}

-- a letter, a digit or `_`
abbrev pub is_variable_byte : ℕ → Bool
is_variable_byte b = is_ascii_alphanumeric b || b == 95

-- a byte that means itself outside quotes: 33 to 126, but none of `"`, `$`, `{`, `}` and `\`
abbrev pub is_plain_byte : ℕ → Bool
is_plain_byte b = nat_le 33 b && nat_le b 126 && not (b == 34 || b == 36 || b == 92 || b == 123 || b == 125)

-- a byte that means itself in quotes: 32 to 126, but neither `"` nor `\`
abbrev pub is_quoted_byte : ℕ → Bool
is_quoted_byte b = nat_le 32 b && nat_le b 126 && not (b == 34 || b == 92)
