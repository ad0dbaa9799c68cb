-- Numbers as words of a line.
use Rattle.std.specs.Prelude.{ℕ, ◌&&◌, not, nat_eq, nat_le, Bool, List, length, Option, Some, None, codes, bytes_eq, if◌then◌else◌}
use Rattle.std.specs.Char.{is_ascii_digit}
use Rattle.std.specs.List.{list_all, starts_with}
use Rattle.std.specs.Str.Parse.{digits_value}
use Rattle.iot_event.specs.declared.number.TheConstants.{DIGIT_LIMIT, BYTE_LIMIT}

-- one to seven digits, the first of which is no 0
abbrev pub is_number : List ℕ → Bool
is_number word =
    nat_le 1 (length word) && nat_le (length word) DIGIT_LIMIT && not (starts_with nat_eq word (codes "0")) && list_all is_ascii_digit word

-- the number that a word is, if it is at least 1 and at most the limit
abbrev pub number_of : List ℕ → (limit : ℕ) → Option ℕ
number_of word limit =
    let number = digits_value 10 word in
    if is_number word && nat_le 1 number && nat_le number limit then Some number else None

-- the byte that a word is; here `0` is a number
abbrev pub byte_of : List ℕ → Option ℕ
byte_of word = if bytes_eq word (codes "0") then Some 0 else number_of word BYTE_LIMIT
