-- Rows with their stamps beside them.
use Rattle.std.specs.Prelude.{◌≡◌, ℕ, false, List, [], ◌∷◌, length}
use Rattle.std.specs.FinMap.{from_sorted}
use Rattle.iot_tree.specs.Tree.{Row}
use Rattle.iot_tree.specs.Snapshots.{is_known}
use Rattle.iot_stamp.specs.Stamps.{Entry, Stamps}

-- each row with the stamp at its place, or 0
abbrev pub paired : List Row → List ℕ → List Entry
paired [] stamps = []
paired (row ∷ rows) [] = (row.0, (row.1, 0)) ∷ paired rows []
paired (row ∷ rows) (stamp ∷ stamps) = (row.0, (row.1, stamp)) ∷ paired rows stamps

-- the stamp of each far row is 0
abbrev pub FarRowsZero : List Row → List ℕ → Type 0
FarRowsZero [] stamps = Unit {0}
FarRowsZero (row ∷ rows) [] = FarRowsZero rows []
FarRowsZero (row ∷ rows) (stamp ∷ stamps) = (is_known row.1 ≡ false → stamp ≡ 0) × FarRowsZero rows stamps

-- as many stamps as rows, and 0 for each far row
pub record AreStamps (rows : List Row) (stamps : List ℕ) : Type 0 where
  pub count : length stamps ≡ length rows
  pub far : FarRowsZero rows stamps

-- the stamped tree of these
abbrev pub stamps_of : List Row → List ℕ → Stamps
stamps_of rows stamps = from_sorted (paired rows stamps)
