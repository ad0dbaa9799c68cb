-- Where two trees differ.
use Rattle.std.specs.Prelude.{◌≡◌, ◌≢◌, ℕ, List, take, slice_get, Option, Some, None, if◌then◌else◌}
use Rattle.std.specs.FinMap.{get}
use Rattle.std.specs.Ordering.{is_gt}
use Rattle.std.specs.declared.cmp.Ordering.TheVariants.{Less}
use Rattle.iot_text.specs.Paths.{path_cmp}
use Rattle.iot_tree.specs.Tree.{Nodes, Path, Row}

-- they differ at the path, and at none before it
pub record DifferFirst (t u : Nodes) (path : Path) : Type 0 where
  pub differ : get t path ≢ get u path
  pub before : (other : Path) → path_cmp other path ≡ Less → get t other ≡ get u other

-- the first `len` rows are the same in both, and one more is not, unless both end there
pub record SameLen (rows others : List Row) (len : ℕ) : Type 0 where
  pub same : take len rows ≡ take len others
  pub apart : slice_get rows len ≡ slice_get others len → slice_get rows len ≡ None

-- the path of the row that comes first, if there is one
abbrev pub earlier : Option Row → Option Row → Option Path
earlier None None = None
earlier None (Some other) = Some other.0
earlier (Some row) None = Some row.0
earlier (Some row) (Some other) = Some (if is_gt (path_cmp row.0 other.0) then other.0 else row.0)
