-- Where a search for a path among kept files ends.
use Rattle.std.specs.Prelude.{◌≡◌, ℕ, ◌<◌, List, length, slice_index_or, Some, None, Result, Ok, Err}
use Rattle.std.specs.FinMap.{find}
use Rattle.iot_text.specs.Paths.{path_cmp}
use Rattle.iot_tree.specs.Tree.{Path}

-- at the file with the contents that are kept at the path, or at a gap if none are
abbrev pub IsFoundAt : List (Path × List ℕ) → Path → Result ℕ ℕ → Type 0
IsFoundAt files path (Ok at) =
    (at < length files) × ((d : Path × List ℕ) → find path_cmp path files ≡ Some (slice_index_or files at d).1)
IsFoundAt files path (Err at) = find path_cmp path files ≡ None
