-- Updates that are made in turn, up to one that does not fit.
use Rattle.std.proofs.Common.{◌≡◌, ◌↔◌, List, ◌∷◌, ◌++◌, subst}
use Rattle.iot_tree.specs.Tree.{Nodes, IsTree}
use Rattle.iot_tree.specs.Updates.{Fits, updated}
use Rattle.iot_tree.specs.declared.updates.Update.{Update}
use Rattle.iot_tree.proofs.UpdateLaws.{tree_updated}
use Rattle.iot_access.specs.Access.{FitInTurn}
use Rattle.iot_fitting.specs.Undoing.{undoing, Undoes}
use Rattle.iot_fitting.specs.declared.undoing.Undo.{Undo}
use Rattle.iot_fitting.proofs.UndoLaws.{undone, undoes_join}

-- some of the updates were made, and these are left: it can be brought back to what it was at the start, and
-- what is left fits it exactly if all the updates fit the start
pub record AreMade (updates left : List Update) (undo : List Undo) (now start : Nodes) : Type 0 where
  pub tree : IsTree now
  pub undoes : Undoes undo now start
  pub fit : FitInTurn now left ↔ FitInTurn start updates

pub one_made : (updates left later : List Update) (undo : List Undo) (update : Update) (now start : Nodes) → left ≡ update ∷ later
    → AreMade updates left undo now start → Fits now update → AreMade updates later (undoing now update ++ undo) (updated now update) start
one_made updates left later undo update now start is made fits =
    let left_fit : FitInTurn now (update ∷ later) ↔ FitInTurn start updates =
    subst (λ (left : List Update). FitInTurn now left ↔ FitInTurn start updates) is made.fit in
    record {
      tree = tree_updated now update made.tree fits;
      undoes =
          undoes_join (undoing now update) undo (updated now update) now start (undone now update made.tree fits) made.undoes;
      fit = (λ fit. left_fit.0 (fits, fit), λ fit. (left_fit.1 fit).1);
    }
