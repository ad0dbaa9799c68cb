-- What a name is.
use Rattle.std.specs.Prelude.{ℕ, Bool, ◌&&◌, ◌||◌, not, ◌==◌, nat_lt, nat_le, min, List, length, codes, bytes_eq, IsTrue}
use Rattle.std.specs.Char.{is_ascii_alphanumeric}
use Rattle.std.specs.List.{list_all, prefix_len}
use Rattle.iot_text.specs.declared.names.TheConstants.{NAME_LIMIT}

-- a byte that a name may have: a letter, a digit, `_`, `-` or `.`
abbrev pub is_name_byte : ℕ → Bool
is_name_byte b = is_ascii_alphanumeric b || b == 95 || b == 45 || b == 46

-- whether the bytes are `.` or `..`
abbrev pub is_dots : List ℕ → Bool
is_dots bytes = bytes_eq bytes (codes ".") || bytes_eq bytes (codes "..")

-- whether the bytes are a name: 1 to 32 of the bytes above, and neither `.` nor `..`
unfoldable pub is_name : List ℕ → Bool
is_name bytes = nat_lt 0 (length bytes) && nat_le (length bytes) NAME_LIMIT && not (is_dots bytes) && list_all is_name_byte bytes

-- the bytes are a name
abbrev pub IsName : List ℕ → Type 0
IsName bytes = IsTrue (is_name bytes)

-- how many bytes of the text, from its first on, begin some name
abbrev pub beginning_len : List ℕ → ℕ
beginning_len text = min (prefix_len is_name_byte text) NAME_LIMIT
