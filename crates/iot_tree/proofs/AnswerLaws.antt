-- What a tree answers at a path that has a row, and at one that has none.
use Rattle.std.proofs.Common.{inl, inr, ◌⊎◌, ◌≡◌, ℕ, List, refl, sym, ap, ◌∙◌, Bool, true, false, Some, None, take, drop, get_or}
use Rattle.std.proofs.Common.{IsSome, Option}
use Rattle.std.specs.FinMap.{get}
use Rattle.std.specs.List.{filter_map, prefix_len}
use Rattle.iot_tree.specs.Place.{IsRowAt, IsGap}
use Rattle.iot_tree.specs.Questions.{is_dir, is_far_above, node_kind, kind_at, kind_of, kind_answer, content_answer, mode_answer}
use Rattle.iot_tree.specs.Questions.{is_within, child_of}
use Rattle.iot_tree.specs.Questions.{children_of, names_answer}
use Rattle.iot_tree.specs.Rows.{map_of, AreTreeRows}
use Rattle.iot_tree.specs.Tree.{Path, Row}
use Rattle.iot_tree.specs.declared.kinds.Kind.{Kind}
use Rattle.iot_tree.specs.declared.nodes.Node.{Node}
use Rattle.iot_tree.specs.declared.nodes.Mode.{Mode}
use Rattle.iot_tree.specs.declared.nodes.Node.TheVariants.{Dir, File, FarDir, FarFile}
use Rattle.iot_tree.specs.declared.questions.Answer.TheVariants.{Away, Absent, Names}
use Rattle.iot_tree.proofs.ChildLaws.{children_at}
use Rattle.iot_tree.proofs.RowLaws.{get_in_gap, get_here}
use Rattle.iot_tree.proofs.TreeLaws.{no_far_above}

-- a path without a row has the same answer to both questions
no_row : (far : Bool) → content_answer None far ≡ kind_answer (kind_at None far)
no_row true = refl
no_row false = refl

-- The tables at such a path.
module _ (rows : List Row) (all : AreTreeRows rows) (p : Path) (at : ℕ) where
  pub kind_here : IsRowAt rows p at → (d : Row) → kind_of (map_of rows) p ≡ node_kind (get_or rows at d).1
  kind_here stands d = ap (λ (o : Option Node). kind_at o (is_far_above (map_of rows) p)) (get_here rows all.rising p at stands d)

  pub kind_in_gap : IsGap rows p at → kind_of (map_of rows) p ≡ kind_at None (is_far_above (map_of rows) p)
  kind_in_gap gap = ap (λ (o : Option Node). kind_at o (is_far_above (map_of rows) p)) (get_in_gap rows all.rising p at gap)

  pub content_here : IsRowAt rows p at → (d : Row)
      → content_answer (get (map_of rows) p) (is_far_above (map_of rows) p) ≡ content_answer (Some (get_or rows at d).1) false
  content_here stands d =
      let found = get_here rows all.rising p at stands d in
      let mapped : IsSome (get (map_of rows) p) = rw found refl in
      rw (found, no_far_above (map_of rows) all.tree p mapped) refl

  pub content_in_gap : IsGap rows p at
      → content_answer (get (map_of rows) p) (is_far_above (map_of rows) p) ≡ kind_answer (kind_at None (is_far_above (map_of rows) p))
  content_in_gap gap =
      ap (λ (o : Option Node). content_answer o (is_far_above (map_of rows) p)) (get_in_gap rows all.rising p at gap)
      ∙ no_row (is_far_above (map_of rows) p)

  pub mode_here : IsRowAt rows p at → (d : Row)
      → mode_answer (get (map_of rows) p) (is_far_above (map_of rows) p) ≡ mode_answer (Some (get_or rows at d).1) false
  mode_here stands d =
      let found = get_here rows all.rising p at stands d in
      let mapped : IsSome (get (map_of rows) p) = rw found refl in
      rw (found, no_far_above (map_of rows) all.tree p mapped) refl

  pub mode_in_gap : IsGap rows p at
      → mode_answer (get (map_of rows) p) (is_far_above (map_of rows) p) ≡ kind_answer (kind_at None (is_far_above (map_of rows) p))
  mode_in_gap gap =
      ap (λ (o : Option Node). mode_answer o (is_far_above (map_of rows) p)) (get_in_gap rows all.rising p at gap)
      ∙ no_row (is_far_above (map_of rows) p)

-- ---- the answer to the question for names

pub file_is_no_dir : (node : Node) → ((bytes : List ℕ) × (mode : Mode) × (node ≡ File bytes mode)) ⊎ ((mode : Mode) × (node ≡ FarFile mode))
    → is_dir node ≡ false
file_is_no_dir node (inl file) = ap is_dir file.2
file_is_no_dir node (inr far) = ap is_dir far.1

module _ (rows : List Row) (all : AreTreeRows rows) (p : Path) (at : ℕ) (stands : IsRowAt rows p at) (row : Row)
    (is : row ≡ get_or rows at row) (far : Bool) where
  node_here : get (map_of rows) p ≡ Some row.1
  node_here = get_here rows all.rising p at stands row ∙ ap (λ (r : Row). Some r.1) (sym is)

  pub names_of_dir : (kids : List (List ℕ × Kind)) → row.1 ≡ Dir
      → kids ≡ filter_map (child_of p) (take (prefix_len (is_within p) (drop at rows)) (drop at rows))
      → Names kids ≡ names_answer (get (map_of rows) p) far (children_of (map_of rows) p)
  names_of_dir kids dir are =
      ap Names (are ∙ children_at rows all p at stands)
      ∙ ap (λ (o : Option Node). names_answer o far (children_of (map_of rows) p))
      (sym (node_here ∙ ap (λ (node : Node). Some node) dir))

  pub names_of_far : row.1 ≡ FarDir → Away ≡ names_answer (get (map_of rows) p) far (children_of (map_of rows) p)
  names_of_far dir =
      ap (λ (o : Option Node). names_answer o far (children_of (map_of rows) p)) (sym (node_here ∙ ap (λ (node : Node). Some node) dir))

  file_names : (node : Node) → (is_dir node ≡ false) → (kids : List (List ℕ × Kind)) → Absent ≡ names_answer (Some node) false kids
  file_names Dir plain kids = absurd cc
  file_names (File bytes mode) plain kids = refl
  file_names FarDir plain kids = absurd cc
  file_names (FarFile mode) plain kids = refl

  pub names_of_file : is_dir row.1 ≡ false
      → Absent ≡ names_answer (get (map_of rows) p) (is_far_above (map_of rows) p) (children_of (map_of rows) p)
  names_of_file file =
      let mapped : IsSome (get (map_of rows) p) = rw node_here refl in
      rw (node_here, no_far_above (map_of rows) all.tree p mapped) (file_names row.1 file (children_of (map_of rows) p))

pub names_in_gap : (rows : List Row) → AreTreeRows rows → (p : Path) (gap : ℕ) → IsGap rows p gap → (far : Bool)
    → kind_answer (kind_at None far) ≡ names_answer (get (map_of rows) p) far (children_of (map_of rows) p)
names_in_gap rows all p gap is_gap far = rw (get_in_gap rows all.rising p gap is_gap) (no_names far)
  where
    no_names : (far : Bool) → kind_answer (kind_at None far) ≡ names_answer None far (children_of (map_of rows) p)
    no_names true = refl
    no_names false = refl
