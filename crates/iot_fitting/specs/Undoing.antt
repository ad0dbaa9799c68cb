-- What undoes updates.
use Rattle.std.specs.Prelude.{◌≡◌, List, [], ◌∷◌, Option, Some, None, unwrap_or}
use Rattle.std.specs.FinMap.{get, insert}
use Rattle.std.specs.List.{cons_option}
use Rattle.iot_tree.specs.Tree.{Nodes, Path}
use Rattle.iot_tree.specs.Updates.{Fits, FitsPut, updated}
use Rattle.iot_tree.specs.declared.nodes.Node.{Node}
use Rattle.iot_tree.specs.declared.updates.Update.{Update}
use Rattle.iot_tree.specs.declared.updates.Update.TheVariants.{Put, MakeDir, Remove, Move, SetMode}
use Rattle.iot_fitting.specs.declared.undoing.Undo.{Undo}
use Rattle.iot_fitting.specs.declared.undoing.Undo.TheVariants.{Restore, Make}

-- ---- one step

-- the step can be taken: a node comes back where a file may be put, and an update fits
abbrev pub CanUndo : Nodes → Undo → Type 0
CanUndo t (Restore p node) = FitsPut t p
CanUndo t (Make update) = Fits t update

-- the tree after the step
abbrev pub undone_by : Nodes → Undo → Nodes
undone_by t (Restore p node) = insert t p node
undone_by t (Make update) = updated t update

-- ---- what undoes an update

-- what brings back what is at p, if anything is there
abbrev pub restoring : Path → Option Node → Option Undo
restoring p None = None
restoring p (Some node) = Some (Restore p node)

-- what undoes the update after it is made on t, in turn
abbrev pub undoing : Nodes → Update → List Undo
undoing t (Put p bytes) = unwrap_or (restoring p (get t p)) (Make (Remove p)) ∷ []
undoing t (MakeDir p) = Make (Remove p) ∷ []
undoing t (Remove p) = cons_option (restoring p (get t p)) []
undoing t (Move p q) = Make (Move q p) ∷ cons_option (restoring q (get t q)) []
undoing t (SetMode p mode) = cons_option (restoring p (get t p)) []

-- ---- steps in turn

-- each of the steps can be taken in its turn
abbrev pub CanUndoInTurn : Nodes → List Undo → Type 0
CanUndoInTurn t [] = Unit {0}
CanUndoInTurn t (step ∷ steps) = CanUndo t step × CanUndoInTurn (undone_by t step) steps

-- the tree after the steps
abbrev pub after_undoing : Nodes → List Undo → Nodes
after_undoing t [] = t
after_undoing t (step ∷ steps) = after_undoing (undone_by t step) steps

-- each of the steps can be taken in its turn on what is now, and they make of it what was at the start
pub record Undoes (steps : List Undo) (now start : Nodes) : Type 0 where
  pub can : CanUndoInTurn now steps
  pub back : after_undoing now steps ≡ start
