-- Rows and rising paths gone through side by side.
use Rattle.std.specs.Prelude.{Bool, false, ◌&&◌, ◌-◌, List, [], ◌∷◌, length, slice_get, bytes_eq, if◌then◌else◌, Option, Some, None}
use Rattle.std.specs.List.{starts_with}
use Rattle.std.specs.Ordering.{is_lt, eq_by_cmp}
use Rattle.iot_text.specs.Paths.{path_cmp}
use Rattle.iot_tree.specs.Questions.{is_far_dir}
use Rattle.iot_tree.specs.Tree.{Path, Row}

-- the paths from the first on that does not come before p
abbrev pub from : Path → List Path → List Path
from p [] = []
from p (q ∷ paths) = if is_lt (path_cmp q p) then from p paths else q ∷ paths

-- whether the paths begin with p
abbrev pub begins : Path → List Path → Bool
begins p [] = false
begins p (q ∷ paths) = eq_by_cmp path_cmp p q

-- the last of the rows, if there is one
abbrev pub last_row : List Row → Option Row
last_row rows = slice_get rows (length rows - 1)

-- whether the row is a far directory at p or above it
abbrev pub hides : Option Row → Path → Bool
hides None p = false
hides (Some row) p = is_far_dir (Some row.1) && starts_with bytes_eq p row.0

-- whether a path with this parent is hidden by the row; the root never is
abbrev pub is_hidden : Option Row → Option Path → Bool
is_hidden last None = false
is_hidden last (Some parent) = hides last parent
