-- Trees of version 1 that are spelled in version 2.
use Rattle.std.specs.Prelude.{◌≡◌, ℕ, Bool, true, false, List, ◌++◌, Option, Some, None, Result, Ok}
use Rattle.std.specs.List.{AllByRecursion}
use Rattle.iot_text.specs.Paths.{IsPath}
use Rattle.iot_tree.specs.Tree.{Nodes, Row}
use Rattle.iot_tree.specs.declared.nodes.Mode.TheVariants.{Off}
use Rattle.iot_tree.specs.declared.nodes.Node.{Node}
use Rattle.iot_tree.specs.declared.nodes.Node.TheVariants.{Dir, File, FarDir, FarFile}
use Rattle.iot_views.specs.Rules.{IsContents, IsTreeOfRows}
use Rattle.iot_codec.specs.Spelling.{rows_spelling}
use Rattle.iot_versions.specs.Spelling.{old_rows_spelling, old_tree_spelling}
use Rattle.iot_versions.specs.Values.{is_old_tree}

-- a node whose mode is off, if it has one
abbrev pub IsModeless : Node → Type 0
IsModeless Dir = Unit {0}
IsModeless (File contents mode) = IsContents contents × (mode ≡ Off)
IsModeless FarDir = Unit {0}
IsModeless (FarFile mode) = mode ≡ Off

abbrev pub IsOldRow : Row → Type 0
IsOldRow row = IsPath row.0 × IsModeless row.1

-- what was taken off the front is what is decoded there, or nothing is
abbrev pub IsTaken : {X : Type 0} → Result (X × ℕ) ℕ → Option (X × ℕ) → Type 0
IsTaken decoded (Some taken) = decoded ≡ Ok taken
IsTaken decoded None = (taken : _) → decoded ≡ Ok taken → ⊥

-- the same rows come first in both, without modes in the one and with modes that are off in the other, and the same bytes after them
pub record Respells (old new : List ℕ) : Type 0 where
  pub rows : List Row
  pub are : AllByRecursion IsOldRow rows
  pub rest : List ℕ
  pub old_is : old ≡ old_rows_spelling rows ++ rest
  pub new_is : new ≡ rows_spelling rows ++ rest

-- the old bytes were appended in version 2, or no tree of version 1 comes first in them
abbrev pub RespellsIf : Bool → (old before now : List ℕ) → Type 0
RespellsIf true old before now = (new : List ℕ) × Respells old new × (now ≡ before ++ new)
RespellsIf false old before now =
    (tree : Nodes) (rest : List ℕ) → IsTreeOfRows tree → is_old_tree tree ≡ true → old ≡ old_tree_spelling tree ++ rest → ⊥
