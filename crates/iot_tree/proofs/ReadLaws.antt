-- What the answers of a tree say of its rows.
use Rattle.std.proofs.Common.{◌≡◌, ℕ, List, [], ◌∷◌, ◌++◌, refl, sym, ap, ◌∙◌, ◌+◌, Bool, true, false, ◌&&◌, Some, None, length, arith}
use Rattle.std.proofs.Common.{◌≢◌, length-append, cond, IsSome, Option, append_assoc, subst, inl, inr, ◌==◌, bytes_eq}
use Rattle.std.proofs.Common.{option_map, if◌then◌else◌}
use Rattle.std.proofs.lemmas.Bool.Decides.{nat_tests}
use Rattle.std.specs.FinMap.{find, get, entries, empty, get-entries}
use Rattle.std.specs.List.{starts_with, filter_map, cons_option}
use Rattle.iot_text.specs.Paths.{path_cmp, IsBelow, last_of}
use Rattle.iot_text.proofs.PathsLaws.{last_of-push}
use Rattle.iot_tree.specs.Questions.{is_far_above, node_kind, kind_at, kind_answer, no_content, content_answer, child_of, children_of}
use Rattle.iot_tree.specs.Questions.{names_answer, mode_answer, answer_of}
use Rattle.iot_tree.specs.Tree.{Path, Row, Nodes, IsTree}
use Rattle.iot_tree.specs.Updates.{IsLeaf}
use Rattle.iot_tree.specs.declared.nodes.Node.{Node}
use Rattle.iot_tree.specs.declared.nodes.Mode.{Mode}
use Rattle.iot_tree.specs.declared.nodes.Node.TheVariants.{Dir, File, FarDir, FarFile}
use Rattle.iot_tree.specs.declared.questions.Answer.{Answer}
use Rattle.iot_tree.proofs.TreeLaws.{same_or_apart, none_some, ancestors}
use Rattle.iot_tree.proofs.WithinLaws.{test_is}
use Rattle.iot_tree.specs.declared.kinds.Kind.{Kind as ChildKind}
use Rattle.iot_tree.specs.declared.kinds.Kind.TheVariants as kinds
use Rattle.iot_tree.specs.declared.questions.Question.TheVariants.{Kind, Names}
use Rattle.iot_tree.specs.declared.questions.Answer.TheVariants as answers

-- ---- what a row must be for an answer

-- a file's row
pub data IsFileRow (o : Option Node) : Type 0 where
  known : (bytes : List ℕ) (mode : Mode) → o ≡ Some (File bytes mode) → IsFileRow o
  far : (mode : Mode) → o ≡ Some (FarFile mode) → IsFileRow o

-- a directory's row
pub data IsDirRow (o : Option Node) : Type 0 where
  known_dir : o ≡ Some Dir → IsDirRow o
  far_dir : o ≡ Some FarDir → IsDirRow o

pub file_row : (o : Option Node) (above : Bool) → kind_answer (kind_at o above) ≡ answers.IsFile → IsFileRow o
file_row (Some (File bytes mode)) above is = known bytes mode refl
file_row (Some (FarFile mode)) above is = far mode refl
file_row (Some Dir) above is = absurd cc
file_row (Some FarDir) above is = absurd cc
file_row None true is = absurd cc
file_row None false is = absurd cc

pub dir_row : (o : Option Node) (above : Bool) → kind_answer (kind_at o above) ≡ answers.IsDir → IsDirRow o
dir_row (Some Dir) above is = known_dir refl
dir_row (Some FarDir) above is = far_dir refl
dir_row (Some (File bytes mode)) above is = absurd cc
dir_row (Some (FarFile mode)) above is = absurd cc
dir_row None true is = absurd cc
dir_row None false is = absurd cc

pub no_row : (o : Option Node) (above : Bool) → kind_answer (kind_at o above) ≡ answers.Absent → (o ≡ None) × (above ≡ false)
no_row (Some Dir) above is = absurd cc
no_row (Some FarDir) above is = absurd cc
no_row (Some (File bytes mode)) above is = absurd cc
no_row (Some (FarFile mode)) above is = absurd cc
no_row None true is = absurd cc
no_row None false is = (refl, refl)

no_bytes : (above : Bool) (bytes : List ℕ) → no_content above ≡ answers.Bytes bytes → ⊥
no_bytes true bytes is = cc
no_bytes false bytes is = cc

pub bytes_row : (o : Option Node) (above : Bool) (bytes : List ℕ) → content_answer o above ≡ answers.Bytes bytes → IsFileRow o
bytes_row (Some (File stored mode)) above bytes is = known stored mode refl
bytes_row (Some (FarFile mode)) above bytes is = far mode refl
bytes_row (Some Dir) above bytes is = absurd (no_bytes above bytes is)
bytes_row (Some FarDir) above bytes is = absurd (no_bytes above bytes is)
bytes_row None above bytes is = absurd (no_bytes above bytes is)

no_names : (above : Bool) (names : List (List ℕ × ChildKind)) → no_content above ≡ answers.Names names → ⊥
no_names true names is = cc
no_names false names is = cc

pub names_row : (o : Option Node) (above : Bool) (children names : List (List ℕ × ChildKind))
    → names_answer o above children ≡ answers.Names names → (o ≡ Some Dir) × (children ≡ names)
names_row (Some Dir) above children names is = (refl, cc)
names_row (Some FarDir) above children names is = absurd cc
names_row (Some (File bytes mode)) above children names is = absurd (no_names above names is)
names_row (Some (FarFile mode)) above children names is = absurd (no_names above names is)
names_row None above children names is = absurd (no_names above names is)

pub on_row : (o : Option Node) (above : Bool) → mode_answer o above ≡ answers.On → IsFileRow o
on_row (Some (File bytes mode)) above is = known bytes mode refl
on_row (Some (FarFile mode)) above is = far mode refl
on_row (Some Dir) above is = absurd cc
on_row (Some FarDir) above is = absurd cc
on_row None true is = absurd cc
on_row None false is = absurd cc

pub off_row : (o : Option Node) (above : Bool) → mode_answer o above ≡ answers.Off → IsFileRow o
off_row (Some (File bytes mode)) above is = known bytes mode refl
off_row (Some (FarFile mode)) above is = far mode refl
off_row (Some Dir) above is = absurd cc
off_row (Some FarDir) above is = absurd cc
off_row None true is = absurd cc
off_row None false is = absurd cc

-- a file's row shows that it is one
pub file_shown : (o : Option Node) → IsFileRow o → option_map node_kind o ≡ Some kinds.IsFile
file_shown o (known bytes mode is) = ap (option_map node_kind) is
file_shown o (far mode is) = ap (option_map node_kind) is

pub file_some : (o : Option Node) → IsFileRow o → IsSome o
file_some o (known bytes mode is) = subst IsSome (sym is) refl
file_some o (far mode is) = subst IsSome (sym is) refl

pub dir_some : (o : Option Node) → IsDirRow o → IsSome o
dir_some o (known_dir is) = subst IsSome (sym is) refl
dir_some o (far_dir is) = subst IsSome (sym is) refl

pub file_no_dir : (o : Option Node) → IsFileRow o → o ≢ Some Dir
file_no_dir o (known bytes mode is) dir = cc
file_no_dir o (far mode is) dir = cc

pub file_no_far_dir : (o : Option Node) → IsFileRow o → o ≢ Some FarDir
file_no_far_dir o (known bytes mode is) dir = cc
file_no_far_dir o (far mode is) dir = cc

below_nil : (p : Path) → p ≢ [] → IsBelow p []
below_nil [] some = absurd (some refl)
below_nil (name ∷ names) some = (name, names, refl)

some_first : (o : Option (List ℕ × ChildKind)) (child : List ℕ × ChildKind) (rest : List (List ℕ × ChildKind)) → o ≡ Some child
    → cons_option o rest ≢ []
some_first None child rest is none = cc
some_first (Some found) child rest is none = cc

rest_none : (o : Option (List ℕ × ChildKind)) (rest : List (List ℕ × ChildKind)) → cons_option o rest ≡ [] → rest ≡ []
rest_none None rest none = none
rest_none (Some found) rest none = absurd cc

-- ---- rows and their tree

module _ (t : Nodes) (tree : IsTree t) where
  root_kind : answer_of t (Kind []) ≡ answers.IsDir
  root_kind = elim tree.root [
    | inl is ↦ ap (λ o. kind_answer (kind_at o (is_far_above t []))) is
    | inr is ↦ ap (λ o. kind_answer (kind_at o (is_far_above t []))) is
  ]

  root_is : (p : Path) (answer : Answer) → answer_of t (Kind p) ≡ answer → p ≡ [] → answer ≡ answers.IsDir
  root_is p answer is root = sym is ∙ ap (λ (p : Path). answer_of t (Kind p)) root ∙ root_kind

  pub file_not_root : (p : Path) → answer_of t (Kind p) ≡ answers.IsFile → p ≢ []
  file_not_root p is root = let same : answers.IsFile ≡ answers.IsDir = root_is p answers.IsFile is root in cc

  pub absent_not_root : (p : Path) → answer_of t (Kind p) ≡ answers.Absent → p ≢ []
  absent_not_root p is root = let same : answers.Absent ≡ answers.IsDir = root_is p answers.Absent is root in cc

  -- a file's row is not the root's
  pub file_row_not_root : (p : Path) → IsFileRow (get t p) → p ≢ []
  file_row_not_root p row root = elim tree.root [
    | inl is ↦ file_no_dir (get t p) row (ap (get t) root ∙ is)
    | inr is ↦ file_no_far_dir (get t p) row (ap (get t) root ∙ is)
  ]

  leaf_by : (path : Path) (o : Option Node) → get t path ≡ o → ¬ (IsSome o) → get t path ≡ None
  leaf_by path None is none = is
  leaf_by path (Some node) is none = absurd (none refl)

  -- no row lies below what is no known directory
  pub leaf_of : (p : Path) → get t p ≢ Some Dir → IsLeaf t p
  leaf_of p no_dir path below = leaf_by path (get t path) refl (λ some.
      no_dir (ancestors t tree p below.0 below.1 (subst (λ (path : Path). IsSome (get t path)) below.2 some)))

  -- ---- a directory without a name

  child_is : (p : Path) (name : List ℕ) (node : Node) → child_of p (p ++ name ∷ [], node) ≡ Some (name, node_kind node)
  child_is p name node =
      let whole : (length (p ++ name ∷ []) == length p + 1) ≡ true = grind (arith, nat_tests, length-append p (name ∷ [])) in
      let front : starts_with bytes_eq (p ++ name ∷ []) p ≡ true = (test_is p (p ++ name ∷ [])).1 (name ∷ []) refl in
      ap
      (λ b. if b && starts_with bytes_eq (p ++ name ∷ []) p then option_map (λ name. (name, node_kind node)) (last_of (p ++ name ∷ []))
      else None)
      whole
      ∙ ap (λ b. if b then option_map (λ name. (name, node_kind node)) (last_of (p ++ name ∷ [])) else None) front
      ∙ ap (option_map (λ name. (name, node_kind node))) (last_of-push p name)

  -- a row of a child shows a name
  shows : (p : Path) (name : List ℕ) (node : Node) (es : List Row) → find path_cmp (p ++ name ∷ []) es ≡ Some node
      → filter_map (child_of p) es ≢ []
  shows p name node [] found none = absurd cc
  shows p name node (row ∷ es) found none = elim (same_or_apart (p ++ name ∷ []) row.0) [
    | inl same ↦
        some_first (child_of p row) (name, node_kind row.1) (filter_map (child_of p) es)
        (ap (λ (path : Path). child_of p (path, row.1)) (sym same) ∙ child_is p name row.1) none
    | inr other ↦
        shows p name node es (sym (ap (λ b. cond b (Some row.1) (find path_cmp (p ++ name ∷ []) es)) other) ∙ found)
        (rest_none (child_of p row) (filter_map (child_of p) es) none)
  ]

  no_child_by : (p : Path) (name : List ℕ) → children_of t p ≡ [] → (o : Option Node) → get t (p ++ name ∷ []) ≡ o → IsSome o → ⊥
  no_child_by p name none None is some = none_some None refl some
  no_child_by p name none (Some node) is some = shows p name node (entries t) (sym (get-entries t (p ++ name ∷ [])) ∙ is) none

  no_child : (p : Path) (name : List ℕ) → children_of t p ≡ [] → IsSome (get t (p ++ name ∷ [])) → ⊥
  no_child p name none some = no_child_by p name none (get t (p ++ name ∷ [])) refl some

  -- a row below a path has a row on the way that is a child
  child_row : (p : Path) (name : List ℕ) (names : Path) → IsSome (get t (p ++ name ∷ names)) → IsSome (get t (p ++ name ∷ []))
  child_row p name [] some = some
  child_row p name (next ∷ names) some =
      let whole : p ++ name ∷ next ∷ names ≡ (p ++ name ∷ []) ++ next ∷ names = sym (append_assoc p (name ∷ []) (next ∷ names)) in
      subst IsSome (sym (ancestors t tree (p ++ name ∷ []) next names (subst (λ (path : Path). IsSome (get t path)) whole some))) refl

  -- no row lies below a directory that has no name in it
  pub empty_leaf : (p : Path) → answer_of t (Names p) ≡ answers.Names [] → IsLeaf t p
  empty_leaf p is path below = leaf_by path (get t path) refl (λ some.
      let there : IsSome (get t (p ++ below.0 ∷ below.1)) = subst (λ (path : Path). IsSome (get t path)) below.2 some in
      no_child p below.0 (names_row (get t p) (is_far_above t p) (children_of t p) [] is).1 (child_row p below.0 below.1 there))

  pub empty_not_root : (p q : Path) → p ≢ [] → answer_of t (Kind p) ≡ answers.IsDir → answer_of t (Names q) ≡ answers.Names [] → q ≢ []
  empty_not_root p q some dir empty root =
      none_some (get t p) (empty_leaf [] (ap (λ (q : Path). answer_of t (Names q)) (sym root) ∙ empty) p (below_nil p some))
      (dir_some (get t p) (dir_row (get t p) (is_far_above t p) dir))
