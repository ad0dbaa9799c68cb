-- Rows that make a tree.
use Rattle.std.specs.Prelude.{ℕ, ◌+◌, ◌<◌, IsTrue, List, take}
use Rattle.std.specs.FinMap.{from_sorted, is_sorted}
use Rattle.iot_text.specs.Paths.{path_cmp}
use Rattle.iot_tree.specs.Tree.{Nodes, Row, IsTree}
use Rattle.iot_tree.specs.declared.faults.RowFault.{RowFault}
use Rattle.iot_tree.specs.declared.faults.RowFault.TheVariants.{NoMemory, NoTree}

-- the rows are in strictly rising order of their paths
abbrev pub Rising : List Row → Type 0
Rising rows = IsTrue (is_sorted path_cmp rows)

-- what rows in order map
abbrev pub map_of : List Row → Nodes
map_of rows = from_sorted rows

-- the rows are in strictly rising order, and what they map is a tree
pub record AreTreeRows (rows : List Row) : Type 0 where
  pub rising : Rising rows
  pub tree : IsTree (map_of rows)

-- the rows before this place make a tree, if there are any, and with the row at this place they make none
pub record IsFirstBadRow (rows : List Row) (at : ℕ) : Type 0 where
  pub before : 0 < at → AreTreeRows (take at rows)
  pub bad : ¬ AreTreeRows (take (at + 1) rows)

-- why rows are refused; want of memory says nothing of them
abbrev pub RefusesRows : List Row → RowFault → Type 0
RefusesRows rows NoMemory = Unit {0}
RefusesRows rows (NoTree at) = IsFirstBadRow rows at
