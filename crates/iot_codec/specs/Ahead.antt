-- Rows gone through beside paths that rise.
use Rattle.std.specs.Prelude.{ℕ, IsTrue, IfSome, List, Option, Some, None, slice_get}
use Rattle.std.specs.Ordering.{is_lt}
use Rattle.iot_text.specs.Paths.{path_cmp}
use Rattle.iot_tree.specs.Tree.{Path, Row}

-- the row at this place, if there is one, comes after the path
abbrev pub ComesAfter : List Row → ℕ → Path → Type 0
ComesAfter rows place path = IfSome (slice_get rows place) (λ row. IsTrue (is_lt (path_cmp path row.0)))

-- the row at this place, if there is one, comes after the path that was read last, if one was
abbrev pub IsAhead : List Row → ℕ → Option (Path × ℕ) → Type 0
IsAhead rows place None = Unit {0}
IsAhead rows place (Some previous) = ComesAfter rows place previous.0
