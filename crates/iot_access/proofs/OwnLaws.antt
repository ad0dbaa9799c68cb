-- What a run made is known, and nothing far is above it.
use Rattle.std.proofs.Common.{◌≡◌, ◌≢◌, ℕ, false, IsSome, List, [], ◌∷◌, ◌++◌, Option, Some, None, option_map, length, refl, sym, ap}
use Rattle.std.proofs.Common.{subst, ◌∙◌, arith}
use Rattle.std.proofs.Common.{length-append, IsTrue, not}
use Rattle.std.proofs.lemmas.List.{append-nil}
use Rattle.std.specs.FinMap.{get, insert, remove}
use Rattle.iot_tree.specs.Tree.{Nodes, IsTree, Path}
use Rattle.iot_tree.specs.Questions.{is_dir, is_far_above, is_far_dir}
use Rattle.iot_tree.specs.Updates.{Fits, FitsMakeDir, FitsRemove, FitsMove, IsLeaf, mode_in, moved, updated, with_mode}
use Rattle.iot_tree.specs.declared.nodes.Mode.{Mode}
use Rattle.iot_tree.specs.declared.nodes.Node.{Node}
use Rattle.iot_tree.specs.declared.nodes.Node.TheVariants.{Dir, File, FarDir, FarFile}
use Rattle.iot_tree.specs.declared.updates.Update.{Update}
use Rattle.iot_tree.specs.declared.updates.Update.TheVariants.{Put, MakeDir, Remove, Move, SetMode}
use Rattle.iot_tree.proofs.AncestorLaws.{none_above}
use Rattle.iot_tree.proofs.FitsLaws.{file_there, mode_fits_put, mode_inserts}
use Rattle.iot_tree.proofs.ReadLaws.{leaf_of}
use Rattle.iot_tree.proofs.TreeLaws.{ancestors, apart, get-insert_other, none_not_some}
use Rattle.iot_tree.proofs.UpdateLaws.{longer, tree_updated, from_outside, moved_at, moved_gone, moved_else, other_stays}
use Rattle.iot_tree.proofs.WithinLaws.{IsOutside, side, inside, outside}
use Rattle.iot_access.specs.Sources.{source, mode_source, hidden, carried}
use Rattle.iot_access.proofs.FarLaws.{any_under, far_alike, far_same, far_moved, above_outside}
use Rattle.iot_access.proofs.ModeStepLaws.{put_far}
use Rattle.iot_access.proofs.ModelessLaws.{modeless, same_far_dir, far_dir_of, far_file_of}
use Rattle.iot_access.proofs.StepLaws.{put_else, put_here, removed_inside, not_at, set_row}
use Rattle.iot_access.proofs.TiedLaws.{Sources, hidden_outside, carried_inside, carried_outside}

-- ---- rows that are not far

-- a row that is not far, or none
pub record IsNear (o : Option Node) : Type 0 where
  pub no_far_dir : o ≢ Some FarDir
  pub no_far_file : (mode : Mode) → o ≢ Some (FarFile mode)

near_none : IsNear None
near_none = record { no_far_dir = λ far. cc; no_far_file = λ mode far. cc }

near_dir : IsNear (Some Dir)
near_dir = record { no_far_dir = λ far. cc; no_far_file = λ mode far. cc }

near_file : (bytes : List ℕ) (mode : Mode) → IsNear (Some (File bytes mode))
near_file bytes mode = record { no_far_dir = λ far. cc; no_far_file = λ mode far. cc }

near_test : (o : Option Node) → IsNear o → is_far_dir o ≡ false
near_test (Some FarDir) near = absurd (near.no_far_dir refl)
near_test (Some Dir) near = refl
near_test (Some (File bytes mode)) near = refl
near_test (Some (FarFile mode)) near = refl
near_test None near = refl

near_same : (a b : Option Node) → option_map modeless a ≡ option_map modeless b → IsNear a → IsNear b
near_same a b same near = record {
  no_far_dir = λ is. near.no_far_dir (far_dir_of a (same ∙ ap (option_map modeless) is));
  no_far_file = λ mode is.
      let found = far_file_of a (same ∙ ap (option_map modeless) is) in near.no_far_file found.0 found.1;
}

-- a row that is no far directory, or none
abbrev pub IsNoFarDir : Option Node → Type 0
IsNoFarDir o = is_far_dir o ≡ false

-- ---- rows without a source

-- a row without a source passes, and nothing far is above it
abbrev pub Own : (Option Node → Type 0) → Sources → Nodes → Type 0
Own P s u = (k : Path) → s k ≡ None → P (get u k) × (is_far_above u k ≡ false)

mapped_by : (t : Nodes) (p : Path) (node : Node) → get t p ≡ Some node → IsSome (get t p)
mapped_by t p node is = subst IsSome (sym is) refl

above_row : (v : Nodes) → IsTree v → (p : Path) → IsSome (get v p) → (q : Path) (name : List ℕ) (tail : Path) → p ≡ q ++ name ∷ tail
    → get v q ≡ Some Dir
above_row v tree p mapped q name tail is = ancestors v tree q name tail (subst (λ (path : Path). IsSome (get v path)) is mapped)

-- a path is not at or below a path below it
not_back : (p q : Path) (name : List ℕ) (tail : Path) → p ≡ q ++ name ∷ tail → IsOutside p q
not_back p q name tail is rest same =
    absurd (omega (arith, length-append q (name ∷ tail), length-append p rest, ap length is, ap length same))

too_long : (p a : Path) (name : List ℕ) (tail rest : Path) → a ++ name ∷ tail ≡ p → a ≡ p ++ rest → ⊥
too_long p a name tail rest is same =
    absurd (omega (arith, length-append a (name ∷ tail), length-append p rest, ap length is, ap length same))

-- The rows pass a test that no far directory passes, and that a path without a row passes.
module _ (P : Option Node → Type 0) (test_near : (o : Option Node) → P o → is_far_dir o ≡ false) (none : P None) where
  -- nothing far is above a path below such rows in known directories
  near_below : (v : Nodes) (p rest : Path) → ((q : Path) (name : List ℕ) (tail : Path) → p ≡ q ++ name ∷ tail → get v q ≡ Some Dir)
      → ((r : Path) → P (get v (p ++ r))) → is_far_above v (p ++ rest) ≡ false
  near_below v p rest above near =
      any_under (λ above. is_far_dir (get v above)) p rest (λ q name tail is. ap is_far_dir (above q name tail is))
      ∙ none_above (λ r. is_far_dir (get v (p ++ r))) rest (λ q name tail is. test_near (get v (p ++ q)) (near q))

  own_hidden : (s : Sources) (u v : Nodes) (p : Path) → Own P s u → ((k : Path) → IsOutside p k → get v k ≡ get u k)
      → ((q : Path) (name : List ℕ) (tail : Path) → p ≡ q ++ name ∷ tail → get v q ≡ Some Dir)
      → ((r : Path) → P (get v (p ++ r))) → Own P (hidden p s) v
  own_hidden s u v p old else above near k is = elim (side p k) [
    | inside rest at test ↦
        (subst (λ (path : Path). P (get v path)) (sym at) (near rest), ap (is_far_above v) at ∙ near_below v p rest above near)
    | outside out test ↦
        let known = old k (sym (hidden_outside p s k out) ∙ is) in
        (subst P (sym (else k out)) known.0, far_same v u k (λ q name rest at. else q (above_outside p k q name rest out at)) ∙ known.1)
  ]

  own_carried : (s : Sources) (u v : Nodes) (p q : Path) → Own P s u → IsTree u → IsTree v → IsSome (get u p) → IsOutside q p
      → ((rest : Path) → get v (q ++ rest) ≡ get u (p ++ rest)) → ((rest : Path) → get v (p ++ rest) ≡ None)
      → ((k : Path) → IsOutside p k → IsOutside q k → get v k ≡ get u k) → Own P (carried p q s) v
  own_carried s u v p q old tree_u tree_v mapped out_qp moved gone else k is = elim (side q k) [
    | inside rest at test ↦
        let known = old (p ++ rest) (sym (carried_inside p q s k rest at) ∙ is) in (
          subst P (sym (ap (get v) at ∙ moved rest)) known.0,
          ap (is_far_above v) at ∙ far_moved u v p q tree_u tree_v mapped moved rest
              ∙ known.1,
        )
    | outside out_q test ↦ elim (side p k) [
      | inside rest at test ↦ (
        subst (λ (path : Path). P (get v path)) (sym at) (subst P (sym (gone rest)) none),
        ap (is_far_above v) at
            ∙ near_below v p rest (λ a name tail above.
            else a (λ rest same. too_long p a name tail rest (sym above) same) (above_outside q p a name tail out_qp above)
            ∙ ancestors u tree_u a name tail (subst (λ (path : Path). IsSome (get u path)) above mapped))
            (λ r. subst P (sym (gone r)) none),
      )
      | outside out_p test ↦
          let known = old k (sym (carried_outside p q s k out_q ∙ hidden_outside p s k out_p) ∙ is) in (
            subst P (sym (else k out_p out_q)) known.0,
            far_same v u k (λ a name rest at. else a (above_outside p k a name rest out_p at) (above_outside q k a name rest out_q at))
                ∙ known.1,
          )
    ]
  ]

  put_near : (u : Nodes) (p : Path) (node : Node) → P (Some node) → IsLeaf u p → (r : Path) → P (get (insert u p node) (p ++ r))
  put_near u p node near leaf [] = subst P (sym (ap (get (insert u p node)) (append-nil p) ∙ put_here u p node)) near
  put_near u p node near leaf (name ∷ names) =
      subst P
      (sym
      (get-insert_other u p node (p ++ name ∷ names) (apart (p ++ name ∷ names) p (longer p name names))
      ∙ leaf (p ++ name ∷ names) (name, names, refl)))
      none

  module _ (s : Sources) (u : Nodes) (tree : IsTree u) (old : Own P s u) where
    own_put : (p : Path) (node : Node) → P (Some node) → IsLeaf u p → IsTree (insert u p node) → Own P (hidden p s) (insert u p node)
    own_put p node near leaf after =
        own_hidden s u (insert u p node) p old (put_else u p node)
        (above_row (insert u p node) after p (mapped_by (insert u p node) p node (put_here u p node))) (put_near u p node near leaf)

    own_make : (p : Path) → P (Some Dir) → FitsMakeDir u p → Own P (hidden p s) (insert u p Dir)
    own_make p near fits =
        own_put p Dir near (leaf_of u tree p (λ is. none_not_some (get u p) Dir fits.absent is)) (tree_updated u (MakeDir p) tree fits)

    own_remove : (p : Path) → FitsRemove u p → Own P (hidden p s) (remove u p)
    own_remove p fits =
        own_hidden s u (remove u p) p old (λ k out. other_stays u p k (not_at p k out))
        (λ q name tail is. other_stays u p q (not_at p q (not_back p q name tail is)) ∙ above_row u tree p fits.mapped q name tail is)
        (λ r. subst P (sym (removed_inside u p fits.leaf r)) none)

    own_move : (p q : Path) → FitsMove u p q → Own P (carried p q s) (moved u p q)
    own_move p q fits =
        own_carried s u (moved u p q) p q old tree (tree_updated u (Move p q) tree fits) fits.mapped
        (from_outside u tree p q fits) (moved_at u tree p q fits) (moved_gone u tree p q fits) (moved_else u tree p q fits)

-- ---- after an update

module _ (done : List Update) (u : Nodes) (tree : IsTree u) where
  -- what the run made is known
  pub own_after : Own IsNear (source done) u → (update : Update) → Fits u update → Own IsNear (source (update ∷ done)) (updated u update)
  own_after old (Put p bytes) fits =
      let new : Node = File bytes (mode_in (get u p)) in
      own_put IsNear near_test near_none (source done) u tree old p new (near_file bytes (mode_in (get u p))) (leaf_of u tree p fits.no_dir)
      (tree_updated u (Put p bytes) tree fits)
  own_after old (MakeDir p) fits = own_make IsNear near_test near_none (source done) u tree old p near_dir fits
  own_after old (Remove p) fits = own_remove IsNear near_test near_none (source done) u tree old p fits
  own_after old (Move p q) fits = own_move IsNear near_test near_none (source done) u tree old p q fits
  own_after old (SetMode p mode) fits = λ k is. (
    near_same (get u k) (get (updated u (SetMode p mode)) k) (sym (set_row u p mode k)) (old k is).0,
    far_alike u (updated u (SetMode p mode))
        (λ j. same_far_dir (get (updated u (SetMode p mode)) j) (get u j) (set_row u p mode j)) k ∙ (old k is).1,
  )

  set_near : (mode : Mode) (node : Node) → IsTrue (not (is_dir node)) → IsNoFarDir (Some (with_mode mode node))
  set_near mode Dir file = refl
  set_near mode (File bytes old) file = refl
  set_near mode FarDir file = absurd cc
  set_near mode (FarFile old) file = refl

  own_set : Own IsNoFarDir (mode_source done) u → (p : Path) (mode : Mode) → Fits u (SetMode p mode)
      → Own IsNoFarDir (hidden p (mode_source done)) (updated u (SetMode p mode))
  own_set old p mode fits =
      let there = file_there u p fits in
      let put = mode_inserts u p mode there.0 there.1 in
      subst (Own IsNoFarDir (hidden p (mode_source done))) (sym put)
      (own_put IsNoFarDir (λ o near. near) refl (mode_source done) u tree old p (with_mode mode there.0) (set_near mode there.0 there.2)
      (leaf_of u tree p (mode_fits_put u tree p fits).no_dir) (subst IsTree put (tree_updated u (SetMode p mode) tree fits)))

  -- if the run made the mode at a path, nothing far is above the path
  pub own_modes_after : Own IsNoFarDir (mode_source done) u → (update : Update) → Fits u update
      → Own IsNoFarDir (mode_source (update ∷ done)) (updated u update)
  own_modes_after old (Put p bytes) fits = λ k is. (
    put_far u p bytes fits k ∙ (old k is).0,
    far_alike u (updated u (Put p bytes)) (put_far u p bytes fits) k ∙ (old k is).1,
  )
  own_modes_after old (MakeDir p) fits = own_make IsNoFarDir (λ o near. near) refl (mode_source done) u tree old p refl fits
  own_modes_after old (Remove p) fits = own_remove IsNoFarDir (λ o near. near) refl (mode_source done) u tree old p fits
  own_modes_after old (Move p q) fits = own_move IsNoFarDir (λ o near. near) refl (mode_source done) u tree old p q fits
  own_modes_after old (SetMode p mode) fits = own_set old p mode fits
