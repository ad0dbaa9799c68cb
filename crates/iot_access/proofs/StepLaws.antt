-- A guarded update leaves two trees tied.
use Rattle.std.proofs.Common.{◌≡◌, ◌≢◌, ℕ, cond, List, [], ◌∷◌, ◌++◌, Option, Some, None, option_map, refl, sym, ap, ◌∙◌}
use Rattle.std.proofs.Common.{inl, inr}
use Rattle.std.proofs.lemmas.List.{append-nil}
use Rattle.std.specs.Cmp.{tied_itself}
use Rattle.std.specs.Ordering.{is_eq}
use Rattle.std.specs.FinMap.{get, insert, remove, get-insert}
use Rattle.iot_tree.specs.Tree.{Nodes, IsTree, Path}
use Rattle.iot_tree.specs.Questions.{is_far_above, children_of}
use Rattle.iot_tree.specs.Updates.{Fits, FitsPut, FitsRemove, FitsMove, IsLeaf, mode_in, mode_set, moved, updated, with_mode}
use Rattle.iot_tree.specs.declared.nodes.Mode.{Mode}
use Rattle.iot_tree.specs.declared.nodes.Node.{Node}
use Rattle.iot_tree.specs.declared.nodes.Node.TheVariants.{Dir, File, FarDir, FarFile}
use Rattle.iot_tree.specs.declared.acts.Read.{Read}
use Rattle.iot_tree.specs.declared.updates.Update.{Update}
use Rattle.iot_tree.specs.declared.updates.Update.TheVariants.{Put, MakeDir, Remove, Move, SetMode}
use Rattle.iot_tree.specs.declared.questions.Question.TheVariants.{Kind, Content, Names}
use Rattle.iot_text.proofs.PathsLaws.{path_total}
use Rattle.iot_tree.proofs.TreeLaws.{apart, get-insert_other, none_not_some, same_or_apart}
use Rattle.iot_tree.proofs.WithinLaws.{IsOutside}
use Rattle.iot_acts.specs.Traces.{ReadsHold, FitsIfAny, after_update}
use Rattle.iot_acts.specs.Guards.{Asked, AskedFree, GuardsPut, GuardsRemove, GuardsMove, over_file, over_contents, in_free, file_goes}
use Rattle.iot_acts.specs.Guards.{empty_goes, file_to_file, dir_to_empty, any_to_free, Guards, GuardsIfAny}
use Rattle.iot_acts.proofs.GuardLaws.{asked_answer}
use Rattle.iot_tree.proofs.ReadLaws.{IsDirRow, known_dir, far_dir, file_row, dir_row, no_row, bytes_row, names_row, file_shown}
use Rattle.iot_tree.proofs.ReadLaws.{leaf_of}
use Rattle.iot_access.specs.Sources.{source}
use Rattle.iot_access.specs.BaseReads.{done_more}
use Rattle.iot_tree.proofs.ChildKindLaws.{row_kind, SameKind}
use Rattle.iot_access.proofs.ModelessLaws.{modeless, row_at}
use Rattle.iot_access.proofs.TiedLaws.{Tied, tied_modeless, tied_hidden, tied_carried}
use Rattle.iot_tree.proofs.UpdateLaws.{longer, other_stays, is_gone, to_outside, from_outside, moved_at, moved_gone, moved_else}
use Rattle.iot_tree.specs.declared.kinds.Kind.TheVariants as kinds
use Rattle.iot_tree.specs.declared.questions.Answer.TheVariants as answers

-- ---- kinds that a read tells

dir_kind : (o : Option Node) → IsDirRow o → row_kind o ≡ Some kinds.IsDir
dir_kind o (known_dir is) = ap row_kind is
dir_kind o (far_dir is) = ap row_kind is

module _ (t : Nodes) (reads : List Read) (hold : ReadsHold t reads) where
  file_at : (p : Path) → Asked reads (Kind p) answers.IsFile → row_kind (get t p) ≡ Some kinds.IsFile
  file_at p asked = file_shown (get t p) (file_row (get t p) (is_far_above t p) (asked_answer t reads hold (Kind p) answers.IsFile asked))

  dir_at : (p : Path) → Asked reads (Kind p) answers.IsDir → row_kind (get t p) ≡ Some kinds.IsDir
  dir_at p asked = dir_kind (get t p) (dir_row (get t p) (is_far_above t p) (asked_answer t reads hold (Kind p) answers.IsDir asked))

  none_at : (p : Path) → AskedFree reads p → row_kind (get t p) ≡ None
  none_at p free = ap row_kind (no_row (get t p) (is_far_above t p) (asked_answer t reads hold (Kind p) answers.Absent free.absent)).0

  bytes_at : (p : Path) (bytes : List ℕ) → Asked reads (Content p) (answers.Bytes bytes) → row_kind (get t p) ≡ Some kinds.IsFile
  bytes_at p bytes asked =
      file_shown (get t p)
      (bytes_row (get t p) (is_far_above t p) bytes (asked_answer t reads hold (Content p) (answers.Bytes bytes) asked))

  empty_at : (p : Path) → Asked reads (Names p) (answers.Names []) → row_kind (get t p) ≡ Some kinds.IsDir
  empty_at p asked =
      ap row_kind
      (names_row (get t p) (is_far_above t p) (children_of t p) [] (asked_answer t reads hold (Names p) (answers.Names []) asked)).0

module _ (u1 u2 : Nodes) (reads : List Read) (hold1 : ReadsHold u1 reads) (hold2 : ReadsHold u2 reads) where
  both_files : (p : Path) → Asked reads (Kind p) answers.IsFile → SameKind u1 u2 p
  both_files p asked = file_at u1 reads hold1 p asked ∙ sym (file_at u2 reads hold2 p asked)

  both_dirs : (p : Path) → Asked reads (Kind p) answers.IsDir → SameKind u1 u2 p
  both_dirs p asked = dir_at u1 reads hold1 p asked ∙ sym (dir_at u2 reads hold2 p asked)

  both_free : (p : Path) → AskedFree reads p → SameKind u1 u2 p
  both_free p free = none_at u1 reads hold1 p free ∙ sym (none_at u2 reads hold2 p free)

  both_empty : (p : Path) → Asked reads (Names p) (answers.Names []) → SameKind u1 u2 p
  both_empty p asked = empty_at u1 reads hold1 p asked ∙ sym (empty_at u2 reads hold2 p asked)

  pub put_kind : (p : Path) → GuardsPut reads p → SameKind u1 u2 p
  put_kind p (over_file asked) = both_files p asked
  put_kind p (over_contents bytes asked) = bytes_at u1 reads hold1 p bytes asked ∙ sym (bytes_at u2 reads hold2 p bytes asked)
  put_kind p (in_free free) = both_free p free

  remove_kind : (p : Path) → GuardsRemove reads p → SameKind u1 u2 p
  remove_kind p (file_goes asked) = both_files p asked
  remove_kind p (empty_goes asked) = both_empty p asked

  from_kind : (p q : Path) → GuardsMove reads p q → SameKind u1 u2 p
  from_kind p q (file_to_file from to) = both_files p from
  from_kind p q (dir_to_empty from to) = both_dirs p from
  from_kind p q (any_to_free from free) = elim from [
    | inl dir ↦ both_dirs p dir
    | inr file ↦ both_files p file
  ]

  to_kind : (p q : Path) → GuardsMove reads p q → SameKind u1 u2 q
  to_kind p q (file_to_file from to) = both_files q to
  to_kind p q (dir_to_empty from to) = both_empty q to
  to_kind p q (any_to_free from free) = both_free q free

-- ---- the rows after an update of one path

pub not_at : (p k : Path) → IsOutside p k → k ≢ p
not_at p k out is = out [] (is ∙ sym (append-nil p))

pub put_else : (t : Nodes) (p : Path) (node : Node) (k : Path) → IsOutside p k → get (insert t p node) k ≡ get t k
put_else t p node k out = get-insert_other t p node k (apart k p (not_at p k out))

pub put_here : (t : Nodes) (p : Path) (node : Node) → get (insert t p node) p ≡ Some node
put_here t p node = get-insert path_total t p node p ∙ ap (λ r. cond (is_eq r) (Some node) (get t p)) (tied_itself path_total p)

put_row : (t : Nodes) (p : Path) (node : Node) → get (insert t p node) (p ++ []) ≡ Some node
put_row t p node = ap (get (insert t p node)) (append-nil p) ∙ put_here t p node

put_below : (t : Nodes) (p : Path) (node : Node) → IsLeaf t p → (name : List ℕ) (names : Path)
    → get (insert t p node) (p ++ name ∷ names) ≡ None
put_below t p node leaf name names =
    get-insert_other t p node (p ++ name ∷ names) (apart (p ++ name ∷ names) p (longer p name names))
    ∙ leaf (p ++ name ∷ names) (name, names, refl)

-- what two nodes show alike, the rows show alike if they are put
pub put_inside : {A : Type 0} (f : Option Node → A) (t u : Nodes) (p : Path) (one other : Node) → f (Some one) ≡ f (Some other)
    → IsLeaf t p → IsLeaf u p → (rest : Path) → f (get (insert t p one) (p ++ rest)) ≡ f (get (insert u p other) (p ++ rest))
put_inside f t u p one other same leaf leaf' [] = ap f (put_row t p one) ∙ same ∙ sym (ap f (put_row u p other))
put_inside f t u p one other same leaf leaf' (name ∷ names) =
    ap f (put_below t p one leaf name names ∙ sym (put_below u p other leaf' name names))

pub removed_inside : (t : Nodes) (p : Path) → IsLeaf t p → (rest : Path) → get (remove t p) (p ++ rest) ≡ None
removed_inside t p leaf [] = ap (get (remove t p)) (append-nil p) ∙ is_gone t p
removed_inside t p leaf (name ∷ names) =
    other_stays t p (p ++ name ∷ names) (longer p name names) ∙ leaf (p ++ name ∷ names) (name, names, refl)

-- a mode that is set changes no row but for its mode
modeless_set : (mode : Mode) (node : Node) → modeless (with_mode mode node) ≡ modeless node
modeless_set mode Dir = refl
modeless_set mode (File bytes old) = refl
modeless_set mode FarDir = refl
modeless_set mode (FarFile old) = refl

pub set_row : (t : Nodes) (p : Path) (mode : Mode) (k : Path) → row_at (updated t (SetMode p mode)) k ≡ row_at t k
set_row t p mode k = by (get t p) refl
  where
    by : (o : Option Node) → get t p ≡ o → row_at (mode_set t p mode o) k ≡ row_at t k
    by None is = refl
    by (Some node) is =
        let new : Node = with_mode mode node in
        elim (same_or_apart k p) [
          | inl same ↦
              ap (row_at (insert t p new)) same ∙ ap (option_map modeless) (put_here t p new) ∙ ap Some (modeless_set mode node)
              ∙ sym (ap (row_at t) same ∙ ap (option_map modeless) is)
          | inr differ ↦ ap (option_map modeless) (get-insert_other t p new k differ)
        ]

module _ (done : List Update) (t1 u1 t2 u2 : Nodes) (tied : Tied (source done) t1 u1 t2 u2) (tree1 : IsTree u1) (tree2 : IsTree u2)
    (reads : List Read) (hold1 : ReadsHold u1 reads) (hold2 : ReadsHold u2 reads) where
  step_put : (p : Path) (bytes : List ℕ) → GuardsPut reads p → FitsPut u1 p → FitsPut u2 p
      → Tied (source (Put p bytes ∷ done)) t1 (updated u1 (Put p bytes)) t2 (updated u2 (Put p bytes))
  step_put p bytes guard fits1 fits2 =
      let one : Node = File bytes (mode_in (get u1 p)) in
      let other : Node = File bytes (mode_in (get u2 p)) in
      tied_hidden (source done) t1 u1 t2 u2 tied p (insert u1 p one) (insert u2 p other) (put_kind u1 u2 reads hold1 hold2 p guard)
      (put_else u1 p one) (put_else u2 p other)
      (put_inside (option_map modeless) u1 u2 p one other refl (leaf_of u1 tree1 p fits1.no_dir) (leaf_of u2 tree2 p fits2.no_dir))

  step_make : (p : Path) → AskedFree reads p → Fits u1 (MakeDir p) → Fits u2 (MakeDir p)
      → Tied (source (MakeDir p ∷ done)) t1 (insert u1 p Dir) t2 (insert u2 p Dir)
  step_make p free fits1 fits2 =
      tied_hidden (source done) t1 u1 t2 u2 tied p (insert u1 p Dir) (insert u2 p Dir) (both_free u1 u2 reads hold1 hold2 p free)
      (put_else u1 p Dir) (put_else u2 p Dir)
      (put_inside (option_map modeless) u1 u2 p Dir Dir refl (leaf_of u1 tree1 p (λ is. none_not_some (get u1 p) Dir fits1.absent is))
      (leaf_of u2 tree2 p (λ is. none_not_some (get u2 p) Dir fits2.absent is)))

  step_remove : (p : Path) → GuardsRemove reads p → FitsRemove u1 p → FitsRemove u2 p
      → Tied (source (Remove p ∷ done)) t1 (remove u1 p) t2 (remove u2 p)
  step_remove p guard fits1 fits2 =
      tied_hidden (source done) t1 u1 t2 u2 tied p (remove u1 p) (remove u2 p) (remove_kind u1 u2 reads hold1 hold2 p guard)
      (λ k out. other_stays u1 p k (not_at p k out)) (λ k out. other_stays u2 p k (not_at p k out))
      (λ rest. ap (option_map modeless) (removed_inside u1 p fits1.leaf rest ∙ sym (removed_inside u2 p fits2.leaf rest)))

  step_move : (p q : Path) → GuardsMove reads p q → FitsMove u1 p q → FitsMove u2 p q
      → Tied (source (Move p q ∷ done)) t1 (moved u1 p q) t2 (moved u2 p q)
  step_move p q guard fits1 fits2 =
      tied_carried (source done) t1 u1 t2 u2 tied p q (moved u1 p q) (moved u2 p q) (to_outside u1 tree1 p q fits1)
      (from_outside u1 tree1 p q fits1)
      (from_kind u1 u2 reads hold1 hold2 p q guard) (to_kind u1 u2 reads hold1 hold2 p q guard)
      (moved_at u1 tree1 p q fits1) (moved_at u2 tree2 p q fits2) (moved_gone u1 tree1 p q fits1) (moved_gone u2 tree2 p q fits2)
      (moved_else u1 tree1 p q fits1) (moved_else u2 tree2 p q fits2)

  step_update : (update : Update) → Guards reads update → Fits u1 update → Fits u2 update
      → Tied (source (update ∷ done)) t1 (updated u1 update) t2 (updated u2 update)
  step_update (Put p bytes) guard fits1 fits2 = step_put p bytes guard fits1 fits2
  step_update (MakeDir p) guard fits1 fits2 = step_make p guard fits1 fits2
  step_update (Remove p) guard fits1 fits2 = step_remove p guard.guard fits1 fits2
  step_update (Move p q) guard fits1 fits2 = step_move p q guard.guard fits1 fits2
  step_update (SetMode p mode) guard fits1 fits2 =
      tied_modeless (source done) t1 u1 t2 u2 tied (updated u1 (SetMode p mode)) (updated u2 (SetMode p mode)) (set_row u1 p mode)
      (set_row u2 p mode)

  pub step : (update : Option Update) → GuardsIfAny reads update → FitsIfAny u1 update → FitsIfAny u2 update
      → Tied (source (done_more done update)) t1 (after_update u1 update) t2 (after_update u2 update)
  step None guard fits1 fits2 = tied
  step (Some update) guard fits1 fits2 = step_update update guard fits1 fits2
