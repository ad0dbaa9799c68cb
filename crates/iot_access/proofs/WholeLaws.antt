-- A whole tree stays whole.
use Rattle.std.proofs.Common.{◌≡◌, ◌≢◌, ℕ, Bool, true, false, cond, List, ◌++◌, Option, Some, None, refl, sym, ap, subst, ◌∙◌}
use Rattle.std.specs.Ordering.{eq_by_cmp}
use Rattle.std.specs.FinMap.{get, insert, remove, get-insert}
use Rattle.iot_text.specs.Paths.{path_cmp}
use Rattle.iot_text.proofs.PathsLaws.{path_total}
use Rattle.iot_tree.specs.Tree.{Nodes, IsTree, IsWhole, Path}
use Rattle.iot_tree.specs.Updates.{Fits, FitsRemove, FitsMove, FitsSetMode, mode_in, moved, updated, with_mode}
use Rattle.iot_tree.specs.declared.nodes.Mode.{Mode}
use Rattle.iot_tree.specs.declared.nodes.Node.{Node}
use Rattle.iot_tree.specs.declared.nodes.Node.TheVariants.{Dir, File, FarDir, FarFile}
use Rattle.iot_tree.specs.declared.updates.Update.{Update}
use Rattle.iot_tree.specs.declared.updates.Update.TheVariants.{Put, MakeDir, Remove, Move, SetMode}
use Rattle.iot_tree.proofs.FitsLaws.{file_there, mode_inserts}
use Rattle.iot_tree.proofs.WithinLaws.{side, inside, outside}
use Rattle.iot_tree.proofs.UpdateLaws.{other_stays, moved_at, moved_gone, moved_else}
use Rattle.iot_acts.specs.Traces.{FitsIfAny, after_update}
use Rattle.iot_access.proofs.StepLaws.{not_at, removed_inside}

-- a row of a tree, or one that is known, or none
data Kept (t : Nodes) (o : Option Node) : Type 0 where
  old : (k : Path) → o ≡ get t k → Kept t o
  file : (bytes : List ℕ) (mode : Mode) → o ≡ Some (File bytes mode) → Kept t o
  dir : o ≡ Some Dir → Kept t o
  none : o ≡ None → Kept t o

kept_whole : (t v : Nodes) → IsWhole t → ((k : Path) → Kept t (get v k)) → IsWhole v
kept_whole t v whole kept = record {
  no_far_dir = λ k is. by_dir k (get v k) (kept k) is;
  no_far_file = λ k mode is. by_file k mode (get v k) (kept k) is;
}
  where
    by_dir : (k : Path) (o : Option Node) → Kept t o → o ≢ Some FarDir
    by_dir k o (old j same) is = whole.no_far_dir j (sym same ∙ is)
    by_dir k o (file bytes mode same) is = cc
    by_dir k o (dir same) is = cc
    by_dir k o (none same) is = cc

    by_file : (k : Path) (mode : Mode) (o : Option Node) → Kept t o → o ≢ Some (FarFile mode)
    by_file k mode o (old j same) is = whole.no_far_file j mode (sym same ∙ is)
    by_file k m o (file bytes mode same) is = cc
    by_file k mode o (dir same) is = cc
    by_file k mode o (none same) is = cc

put_kept : (t : Nodes) (p k : Path) (node : Node) → Kept t (Some node) → Kept t (get (insert t p node) k)
put_kept t p k node new = subst (Kept t) (sym (get-insert path_total t p node k)) (by (eq_by_cmp path_cmp k p))
  where
    by : (b : Bool) → Kept t (cond b (Some node) (get t k))
    by true = new
    by false = old k refl

removed_kept : (t : Nodes) (p k : Path) → FitsRemove t p → Kept t (get (remove t p) k)
removed_kept t p k fits = elim (side p k) [
  | inside rest is test ↦ none (ap (get (remove t p)) is ∙ removed_inside t p fits.leaf rest)
  | outside out test ↦ old k (other_stays t p k (not_at p k out))
]

moved_kept : (t : Nodes) → IsTree t → (p q k : Path) → FitsMove t p q → Kept t (get (moved t p q) k)
moved_kept t tree p q k fits = elim (side q k) [
  | inside rest is test ↦ old (p ++ rest) (ap (get (moved t p q)) is ∙ moved_at t tree p q fits rest)
  | outside out_q test ↦ elim (side p k) [
    | inside rest is test ↦ none (ap (get (moved t p q)) is ∙ moved_gone t tree p q fits rest)
    | outside out_p test ↦ old k (moved_else t tree p q fits k out_p out_q)
  ]
]

moded_kept : (t : Nodes) → IsWhole t → (p : Path) (mode : Mode) (node : Node) → get t p ≡ Some node
    → Kept t (Some (with_mode mode node))
moded_kept t whole p mode Dir is = dir refl
moded_kept t whole p mode (File bytes was) is = file bytes mode refl
moded_kept t whole p mode FarDir is = absurd (whole.no_far_dir p is)
moded_kept t whole p mode (FarFile was) is = absurd (whole.no_far_file p was is)

whole_set : (t : Nodes) → IsWhole t → (p : Path) (mode : Mode) → FitsSetMode t p → IsWhole (updated t (SetMode p mode))
whole_set t whole p mode fits =
    let there = file_there t p fits in
    subst IsWhole (sym (mode_inserts t p mode there.0 there.1))
    (kept_whole t (insert t p (with_mode mode there.0)) whole
    (λ k. put_kept t p k (with_mode mode there.0) (moded_kept t whole p mode there.0 there.1)))

whole_updated : (t : Nodes) → IsTree t → IsWhole t → (update : Update) → Fits t update → IsWhole (updated t update)
whole_updated t tree whole (Put p bytes) fits =
    let mode : Mode = mode_in (get t p) in
    kept_whole t (updated t (Put p bytes)) whole (λ k. put_kept t p k (File bytes mode) (file bytes mode refl))
whole_updated t tree whole (MakeDir p) fits = kept_whole t (insert t p Dir) whole (λ k. put_kept t p k Dir (dir refl))
whole_updated t tree whole (Remove p) fits = kept_whole t (remove t p) whole (λ k. removed_kept t p k fits)
whole_updated t tree whole (Move p q) fits = kept_whole t (moved t p q) whole (λ k. moved_kept t tree p q k fits)
whole_updated t tree whole (SetMode p mode) fits = whole_set t whole p mode fits

pub whole_after : (t : Nodes) → IsTree t → IsWhole t → (update : Option Update) → FitsIfAny t update → IsWhole (after_update t update)
whole_after t tree whole None fits = whole
whole_after t tree whole (Some update) fits = whole_updated t tree whole update fits
