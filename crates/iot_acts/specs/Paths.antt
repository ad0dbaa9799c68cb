-- Parents of paths, and paths below others.
use Rattle.std.specs.Prelude.{◌||◌, Bool, [], unwrap_or, bytes_eq}
use Rattle.std.specs.Cmp.Lexicographic.{pointwise}
use Rattle.iot_text.specs.Paths.{parent_of, is_below}
use Rattle.iot_tree.specs.Tree.{Path}

-- the path's parent; the root is its own
abbrev pub parent_path : Path → Path
parent_path path = unwrap_or (parent_of path) []

-- whether the path is the other, or lies below it
abbrev pub is_at_or_below : Path → Path → Bool
is_at_or_below path other = pointwise bytes_eq path other || is_below path other
