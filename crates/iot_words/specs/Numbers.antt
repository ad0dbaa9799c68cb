-- The number that `--gen` takes.
use Rattle.std.specs.Prelude.{ℕ, ◌&&◌, ◌||◌, not, nat_eq, nat_le, Bool, List, length, Option, Some, None, codes, if◌then◌else◌}
use Rattle.std.specs.Char.{is_ascii_digit}
use Rattle.std.specs.List.{list_all, starts_with}
use Rattle.std.specs.Str.Parse.{digits_value}

-- digits, the first of which is no 0 unless it is the only one
abbrev pub is_number : List ℕ → Bool
is_number text =
    nat_le 1 (length text) && list_all is_ascii_digit text && (nat_eq (length text) 1 || not (starts_with nat_eq text (codes "0")))

-- the number that a text spells, if it is at most 1,000,000
abbrev pub number_of : List ℕ → Option ℕ
number_of text =
    let number = digits_value 10 text in
    if is_number text && nat_le number 1000000 then Some number else None
