-- Which bytes a line may have, and how many.
use Rattle.std.specs.Prelude.{ℕ, ◌==◌, ◌&&◌, ◌||◌, nat_le, Bool, List, length}
use Rattle.std.specs.List.{list_all}
use Rattle.iot_event.specs.declared.bytes.TheConstants.{LINE_LIMIT}

-- a byte that prints, 32 to 126, or a tab
abbrev pub is_line_byte : ℕ → Bool
is_line_byte b = nat_le 32 b && nat_le b 126 || b == 9

abbrev pub fits_line : List ℕ → Bool
fits_line line = nat_le (length line) LINE_LIMIT && list_all is_line_byte line
