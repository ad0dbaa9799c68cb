-- A guarded update leaves the modes of two trees tied.
use Rattle.std.proofs.Common.{◌≡◌, ◌≢◌, ℕ, false, not, IsTrue, List, ◌∷◌, ◌++◌, Option, Some, None, refl, sym, ap}
use Rattle.std.proofs.Common.{◌∙◌}
use Rattle.std.proofs.Common.{inl, inr}
use Rattle.std.specs.FinMap.{get, insert, remove}
use Rattle.iot_tree.specs.Tree.{Nodes, IsTree, Path}
use Rattle.iot_tree.specs.Questions.{is_dir, is_far_dir, mode_answer, mode_told}
use Rattle.iot_tree.specs.Updates.{Fits, FitsPut, FitsRemove, FitsMove, FitsSetMode, mode_in, moved, updated, with_mode}
use Rattle.iot_tree.specs.declared.nodes.Mode.{Mode}
use Rattle.iot_tree.specs.declared.nodes.Node.{Node}
use Rattle.iot_tree.specs.declared.nodes.Node.TheVariants.{Dir, File, FarDir, FarFile}
use Rattle.iot_tree.specs.declared.acts.Read.{Read}
use Rattle.iot_tree.specs.declared.updates.Update.{Update}
use Rattle.iot_tree.specs.declared.updates.Update.TheVariants.{Put, MakeDir, Remove, Move, SetMode}
use Rattle.iot_tree.proofs.FitsLaws.{file_there, mode_fits_put, mode_inserts}
use Rattle.iot_tree.proofs.ReadLaws.{leaf_of}
use Rattle.iot_tree.proofs.TreeLaws.{get-insert_other, none_not_some, same_or_apart}
use Rattle.iot_tree.proofs.UpdateLaws.{tree_updated, other_stays, moved_at, moved_gone, moved_else}
use Rattle.iot_tree.proofs.WithinLaws.{IsOutside}
use Rattle.iot_acts.specs.Traces.{ReadsHold, FitsIfAny, after_update}
use Rattle.iot_acts.specs.Guards.{Guards, GuardsIfAny}
use Rattle.iot_access.specs.BaseReads.{done_more}
use Rattle.iot_access.specs.Sources.{mode_source}
use Rattle.iot_access.proofs.FarLaws.{FarTied, far_alike, far_hidden, far_carried}
use Rattle.iot_access.proofs.ModesTiedLaws.{Alike, ModesTied, modes_put, modes_hidden, modes_carried}
use Rattle.iot_access.proofs.StepLaws.{step, not_at, put_kind, put_here, put_else, put_inside, removed_inside}

-- ---- a mode that is set

-- a file with a mode shows it
moded : (mode : Mode) (node : Node) → IsTrue (not (is_dir node)) → mode_answer (Some (with_mode mode node)) false ≡ mode_told mode
moded mode Dir file = absurd cc
moded mode (File bytes old) file = refl
moded mode FarDir file = absurd cc
moded mode (FarFile old) file = refl

-- and the other rows stay
pub set_else : (t : Nodes) (p : Path) (mode : Mode) → FitsSetMode t p → (k : Path) → IsOutside p k
    → get (updated t (SetMode p mode)) k ≡ get t k
set_else t p mode fits k out =
    let there = file_there t p fits in
    ap (λ (t : Nodes). get t k) (mode_inserts t p mode there.0 there.1) ∙ put_else t p (with_mode mode there.0) k out

-- ---- directories that are far stay far, and no other becomes one

near_row : (o : Option Node) → o ≢ Some FarDir → is_far_dir o ≡ false
near_row None no_far = refl
near_row (Some Dir) no_far = refl
near_row (Some (File bytes mode)) no_far = refl
near_row (Some FarDir) no_far = absurd (no_far refl)
near_row (Some (FarFile mode)) no_far = refl

pub put_far : (t : Nodes) (p : Path) (bytes : List ℕ) → FitsPut t p → (k : Path)
    → is_far_dir (get (updated t (Put p bytes)) k) ≡ is_far_dir (get t k)
put_far t p bytes fits k =
    let new : Node = File bytes (mode_in (get t p)) in
    elim (same_or_apart k p) [
      | inl same ↦
          ap (λ (path : Path). is_far_dir (get (insert t p new) path)) same ∙ ap is_far_dir (put_here t p new)
          ∙ sym (ap (λ (path : Path). is_far_dir (get t path)) same ∙ near_row (get t p) fits.no_far_dir)
      | inr differ ↦ ap is_far_dir (get-insert_other t p new k differ)
    ]

-- what is far above a path is far above where its mode comes from
module _ (done : List Update) (t u : Nodes) (tree : IsTree u) (old : FarTied (mode_source done) t u) where
  pub modes_far : (update : Update) → Fits u update → FarTied (mode_source (update ∷ done)) t (updated u update)
  modes_far (Put p bytes) fits = λ k o is. far_alike u (updated u (Put p bytes)) (put_far u p bytes fits) k ∙ old k o is
  modes_far (MakeDir p) fits = far_hidden (mode_source done) t u (insert u p Dir) p old (put_else u p Dir)
  modes_far (Remove p) fits = far_hidden (mode_source done) t u (remove u p) p old (λ k out. other_stays u p k (not_at p k out))
  modes_far (Move p q) fits =
      far_carried (mode_source done) t u (moved u p q) p q old tree (tree_updated u (Move p q) tree fits) fits.mapped
      (moved_at u tree p q fits) (moved_else u tree p q fits)
  modes_far (SetMode p mode) fits = far_hidden (mode_source done) t u (updated u (SetMode p mode)) p old (set_else u p mode fits)

-- ---- the modes of two trees

module _ (done : List Update) (t1 u1 t2 u2 : Nodes) (tied : ModesTied (mode_source done) t1 u1 t2 u2) (tree1 : IsTree u1)
    (tree2 : IsTree u2) where
  modes_make : (p : Path) → Fits u1 (MakeDir p) → Fits u2 (MakeDir p)
      → ModesTied (mode_source (MakeDir p ∷ done)) t1 (insert u1 p Dir) t2 (insert u2 p Dir)
  modes_make p fits1 fits2 =
      modes_hidden (mode_source done) t1 u1 t2 u2 tied p (insert u1 p Dir) (insert u2 p Dir) (put_else u1 p Dir) (put_else u2 p Dir)
      (put_inside (λ o. mode_answer o false) u1 u2 p Dir Dir refl
      (leaf_of u1 tree1 p (λ is. none_not_some (get u1 p) Dir fits1.absent is))
      (leaf_of u2 tree2 p (λ is. none_not_some (get u2 p) Dir fits2.absent is)))

  modes_remove : (p : Path) → FitsRemove u1 p → FitsRemove u2 p
      → ModesTied (mode_source (Remove p ∷ done)) t1 (remove u1 p) t2 (remove u2 p)
  modes_remove p fits1 fits2 =
      modes_hidden (mode_source done) t1 u1 t2 u2 tied p (remove u1 p) (remove u2 p) (λ k out. other_stays u1 p k (not_at p k out))
      (λ k out. other_stays u2 p k (not_at p k out))
      (λ rest. ap (λ o. mode_answer o false) (removed_inside u1 p fits1.leaf rest ∙ sym (removed_inside u2 p fits2.leaf rest)))

  modes_move : (p q : Path) → FitsMove u1 p q → FitsMove u2 p q
      → ModesTied (mode_source (Move p q ∷ done)) t1 (moved u1 p q) t2 (moved u2 p q)
  modes_move p q fits1 fits2 =
      modes_carried (mode_source done) t1 u1 t2 u2 tied p q (moved u1 p q) (moved u2 p q) (moved_at u1 tree1 p q fits1)
      (moved_at u2 tree2 p q fits2) (moved_gone u1 tree1 p q fits1) (moved_gone u2 tree2 p q fits2) (moved_else u1 tree1 p q fits1)
      (moved_else u2 tree2 p q fits2)

  modes_set : (p : Path) (mode : Mode) → FitsSetMode u1 p → FitsSetMode u2 p
      → ModesTied (mode_source (SetMode p mode ∷ done)) t1 (updated u1 (SetMode p mode)) t2 (updated u2 (SetMode p mode))
  modes_set p mode fits1 fits2 =
      let one = file_there u1 p fits1 in
      let other = file_there u2 p fits2 in
      let new1 = with_mode mode one.0 in
      let new2 = with_mode mode other.0 in
      let leaf1 = leaf_of u1 tree1 p (mode_fits_put u1 tree1 p fits1).no_dir in
      let leaf2 = leaf_of u2 tree2 p (mode_fits_put u2 tree2 p fits2).no_dir in
      modes_hidden (mode_source done) t1 u1 t2 u2 tied p (updated u1 (SetMode p mode)) (updated u2 (SetMode p mode))
      (set_else u1 p mode fits1) (set_else u2 p mode fits2)
      (λ rest.
      ap (λ (t : Nodes). mode_answer (get t (p ++ rest)) false) (mode_inserts u1 p mode one.0 one.1)
      ∙ put_inside (λ o. mode_answer o false) u1 u2 p new1 new2 (moded mode one.0 one.2 ∙ sym (moded mode other.0 other.2)) leaf1 leaf2 rest
      ∙ sym (ap (λ (t : Nodes). mode_answer (get t (p ++ rest)) false) (mode_inserts u2 p mode other.0 other.1)))

  modes_step : (reads : List Read) → ReadsHold u1 reads → ReadsHold u2 reads → (update : Update) → Guards reads update → Fits u1 update
      → Fits u2 update → ModesTied (mode_source (update ∷ done)) t1 (updated u1 update) t2 (updated u2 update)
  modes_step reads hold1 hold2 (Put p bytes) guard fits1 fits2 =
      modes_put (mode_source done) t1 u1 t2 u2 tied p bytes (put_kind u1 u2 reads hold1 hold2 p guard)
  modes_step reads hold1 hold2 (MakeDir p) guard fits1 fits2 = modes_make p fits1 fits2
  modes_step reads hold1 hold2 (Remove p) guard fits1 fits2 = modes_remove p fits1 fits2
  modes_step reads hold1 hold2 (Move p q) guard fits1 fits2 = modes_move p q fits1 fits2
  modes_step reads hold1 hold2 (SetMode p mode) guard fits1 fits2 = modes_set p mode fits1 fits2

-- a guarded update leaves the trees of two runs alike
pub alike_after : (done : List Update) (t1 u1 t2 u2 : Nodes) → Alike done t1 u1 t2 u2 → IsTree u1 → IsTree u2 → (reads : List Read)
    → ReadsHold u1 reads → ReadsHold u2 reads → (update : Option Update) → GuardsIfAny reads update → FitsIfAny u1 update
    → FitsIfAny u2 update → Alike (done_more done update) t1 (after_update u1 update) t2 (after_update u2 update)
alike_after done t1 u1 t2 u2 alike tree1 tree2 reads hold1 hold2 None guard fits1 fits2 = alike
alike_after done t1 u1 t2 u2 alike tree1 tree2 reads hold1 hold2 (Some update) guard fits1 fits2 = record {
  rows = step done t1 u1 t2 u2 alike.rows tree1 tree2 reads hold1 hold2 (Some update) guard fits1 fits2;
  modes = modes_step done t1 u1 t2 u2 alike.modes tree1 tree2 reads hold1 hold2 update guard fits1 fits2;
  far = modes_far done t1 u1 tree1 alike.far update fits1;
}
