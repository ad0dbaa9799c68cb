-- The answers of a tree that has a spelling have spellings.
use Rattle.std.proofs.Common.{◌≡◌, ℕ, ◌+◌, ◌==◌, Bool, true, false, cond, IsTrue, List, [], ◌∷◌, ◌++◌, drop, length, Option, Some, None}
use Rattle.std.proofs.Common.{Ordering, refl, sym, ap, subst, ◌∙◌, bytes_eq, arith, length-append}
use Rattle.std.specs.Prelude.{option_map}
use Rattle.std.proofs.lemmas.Bool.Decides.{nat_tests}
use Rattle.std.proofs.lemmas.List.Folds.{list_all-append}
use Rattle.std.proofs.lemmas.Option.{none-some, same_Some}
use Rattle.std.proofs.lemmas.Slice.Eq.{starts_is}
use Rattle.std.specs.declared.cmp.Ordering.TheVariants.{Less, Equal}
use Rattle.std.specs.List.{list_all, AllByRecursion, starts_with, filter_map, cons_option}
use Rattle.std.specs.Cmp.{first_so, second_so}
use Rattle.std.specs.Cmp.Lexicographic.{slice_cmp, bytes_decides}
use Rattle.std.specs.Ordering.{is_lt, nat_cmp, ordering_then}
use Rattle.std.specs.FinMap.{get, entries, is_sorted}
use Rattle.std.specs.FinMap.Entries.{below_all}
use Rattle.iot_text.specs.Names.{is_name, IsName}
use Rattle.iot_text.specs.Paths.{IsPath, path_cmp, last_of}
use Rattle.iot_text.proofs.PathsLaws.{last_of-push}
use Rattle.iot_tree.specs.Tree.{Path, Row, Nodes}
use Rattle.iot_tree.specs.Place.{AllAfter}
use Rattle.iot_tree.specs.Rows.{Rising}
use Rattle.iot_tree.specs.Questions.{is_far_above, node_kind, kind_of, kind_answer, no_content, content_answer, is_child, child_of}
use Rattle.iot_tree.specs.Questions.{children_of, names_answer, mode_answer}
use Rattle.iot_tree.specs.declared.kinds.Kind.{Kind as ChildKind}
use Rattle.iot_tree.specs.declared.nodes.Mode.TheVariants as modes
use Rattle.iot_tree.specs.declared.kinds.Kind.TheVariants as kinds
use Rattle.iot_tree.specs.declared.nodes.Node.{Node}
use Rattle.iot_tree.specs.declared.nodes.Node.TheVariants.{Dir, File, FarDir, FarFile}
use Rattle.iot_tree.specs.declared.questions.Question.TheVariants as asks
use Rattle.iot_tree.proofs.EachLaws.{EachRow, each_entry, sorted_rows}
use Rattle.iot_tree.proofs.WithinLaws.{same_front}
use Rattle.iot_views.specs.Rules.{IsObject, IsAnswer, rises, AreRising, AreChildren}
use Rattle.iot_limits.specs.Spelled.{IsSpelledRow, IsSpelledTree}
use Rattle.iot_limits.proofs.PlanLaws.{HasAnswers}

abbrev Child : Type 0
Child = List ℕ × ChildKind

kind_is_answer : (kind : ChildKind) → IsAnswer (kind_answer kind)
kind_is_answer kinds.Away = tt
kind_is_answer _ = tt

none_is_answer : (far : Bool) → IsAnswer (no_content far)
none_is_answer true = tt
none_is_answer false = tt

mode_is_answer : (node : Option Node) (far : Bool) → IsAnswer (mode_answer node far)
mode_is_answer (Some (File bytes modes.Off)) far = tt
mode_is_answer (Some (File bytes modes.On)) far = tt
mode_is_answer (Some (FarFile modes.Off)) far = tt
mode_is_answer (Some (FarFile modes.On)) far = tt
mode_is_answer (Some Dir) far = tt
mode_is_answer (Some FarDir) far = tt
mode_is_answer None far = none_is_answer far

node_is_object : (node : Node) → IsObject (node_kind node)
node_is_object Dir = tt
node_is_object _ = tt

-- ---- the path of a child's row

-- a path with one name more is known by its last name
one_more : (above tail path : Path) (name : List ℕ) → path ≡ above ++ tail → length path ≡ length above + 1 → last_of path ≡ Some name
    → path ≡ above ++ name ∷ []
one_more above [] path name is longer last = absurd (omega (arith, ap length is, length-append above []))
one_more above (first ∷ []) path name is longer last =
    is ∙ ap (λ (name : List ℕ). above ++ name ∷ []) (same_Some first name (sym (last_of-push above first) ∙ ap last_of (sym is) ∙ last))
one_more above (first ∷ second ∷ tail) path name is longer last =
    absurd (omega (arith, ap length is, length-append above (first ∷ second ∷ tail)))

child_path : (above path : Path) (name : List ℕ) → IsTrue (is_child above path) → last_of path ≡ Some name → path ≡ above ++ name ∷ []
child_path above path name is last =
    let begins : IsTrue (starts_with bytes_eq path above) = second_so (length path == length above + 1) _ is in
    let longer : IsTrue (length path == length above + 1) = first_so (length path == length above + 1) _ is in
    one_more above (drop (length above) path) path name
    ((starts_is bytes_decides path above (starts_with bytes_eq path above) refl).0 begins) (grind (arith, nat_tests)) last

name_of_path : (above : Path) (name : List ℕ) → IsPath (above ++ name ∷ []) → IsName name
name_of_path above name valid =
    first_so (is_name name) true (second_so (list_all is_name above) _ (sym (list_all-append is_name above (name ∷ [])) ∙ valid))

-- the row is that of a child of this name and kind
pub record IsChildRow (above : Path) (row : Row) (child : Child) : Type 0 where
  pub path : row.0 ≡ above ++ child.0 ∷ []
  pub name : IsName child.0
  pub kind : IsObject child.1

child_by : (above : Path) (row : Row) (child : Child) (is : Bool) (name : Option (List ℕ))
    → is_child above row.0 ≡ is → last_of row.0 ≡ name → IsSpelledRow row.0 row.1
    → cond is (option_map (λ name. (name, node_kind row.1)) name) None ≡ Some child → IsChildRow above row child
child_by above row child false name is last spelled shows = absurd (none-some child shows)
child_by above row child true None is last spelled shows = absurd (none-some child shows)
child_by above row child true (Some name) is last spelled shows =
    let path : row.0 ≡ above ++ name ∷ [] = child_path above row.0 name is last in
    subst (λ (child : Child). IsChildRow above row child) (same_Some (name, node_kind row.1) child shows)
    (record { path = path; name = name_of_path above name (subst IsPath path spelled.is_path); kind = node_is_object row.1 })

child_row : (above : Path) (row : Row) (child : Child) → IsSpelledRow row.0 row.1 → child_of above row ≡ Some child
    → IsChildRow above row child
child_row above row child spelled shows = child_by above row child (is_child above row.0) (last_of row.0) refl refl spelled shows

-- ---- the names rise

-- the order of two names in a directory is that of their paths
same_order : (c : Ordering) → ordering_then c Equal ≡ c
same_order Less = refl
same_order _ = refl

names_order : (above : Path) (one two : List ℕ) → path_cmp (above ++ one ∷ []) (above ++ two ∷ []) ≡ slice_cmp nat_cmp one two
names_order above one two = same_front above (one ∷ []) (two ∷ []) ∙ same_order (slice_cmp nat_cmp one two)

module _ (above : Path) where
  -- the child's row comes before these rows
  abbrev ComesBefore : Option Child → List Row → Type 0
  ComesBefore None rows = Unit {0}
  ComesBefore (Some child) rows = AllAfter (above ++ child.0 ∷ []) rows

  still_before : (previous : Option Child) (row : Row) (rows : List Row) → ComesBefore previous (row ∷ rows) → ComesBefore previous rows
  still_before None row rows before = tt
  still_before (Some child) row rows before = second_so (is_lt (path_cmp (above ++ child.0 ∷ []) row.0)) _ before

  name_rises : (previous : Option Child) (row : Row) (rows : List Row) (child : Child)
      → ComesBefore previous (row ∷ rows) → row.0 ≡ above ++ child.0 ∷ [] → IsTrue (rises (slice_cmp nat_cmp) previous child.0)
  name_rises None row rows child before is = refl
  name_rises (Some other) row rows child before is =
      ap is_lt (sym (names_order above other.0 child.0) ∙ ap (path_cmp (above ++ other.0 ∷ [])) (sym is))
      ∙ first_so (is_lt (path_cmp (above ++ other.0 ∷ []) row.0)) _ before

  -- the names of the children among these rows rise, after an earlier one
  abbrev Rise : Option Child → List Child → Type 0
  Rise previous children = AreRising (slice_cmp nat_cmp) children previous

  rising_by : (previous shown : Option Child) (row : Row) (rows : List Row) → child_of above row ≡ shown → IsSpelledRow row.0 row.1
      → ComesBefore previous (row ∷ rows) → AllAfter row.0 rows
      → ((previous : Option Child) → ComesBefore previous rows → Rise previous (filter_map (child_of above) rows))
      → Rise previous (cons_option shown (filter_map (child_of above) rows))
  rising_by previous None row rows shows spelled before below rest = rest previous (still_before previous row rows before)
  rising_by previous (Some child) row rows shows spelled before below rest =
      let path : row.0 ≡ above ++ child.0 ∷ [] = (child_row above row child spelled shows).path in (
        name_rises previous row rows child before path,
        rest (Some child) (subst (λ (path : Path). AllAfter path rows) path below),
      )

  names_rise : (rows : List Row) → EachRow IsSpelledRow rows → Rising rows
      → (previous : Option Child) → ComesBefore previous rows → Rise previous (filter_map (child_of above) rows)
  names_rise [] are sorted previous before = tt
  names_rise (row ∷ rows) are sorted previous before =
      rising_by previous (child_of above row) row rows refl are.0 before
      (first_so (below_all path_cmp row.0 rows) (is_sorted path_cmp rows) sorted)
      (names_rise rows are.1 (second_so (below_all path_cmp row.0 rows) (is_sorted path_cmp rows) sorted))

  abbrev IsChild : Child → Type 0
  IsChild child = IsName child.0 × IsObject child.1

  each_by : (shown : Option Child) (row : Row) (rest : List Child) → child_of above row ≡ shown → IsSpelledRow row.0 row.1
      → AllByRecursion IsChild rest → AllByRecursion IsChild (cons_option shown rest)
  each_by None row rest shows spelled each = each
  each_by (Some child) row rest shows spelled each =
      let is : IsChildRow above row child = child_row above row child spelled shows in ((is.name, is.kind), each)

  each_child : (rows : List Row) → EachRow IsSpelledRow rows → AllByRecursion IsChild (filter_map (child_of above) rows)
  each_child [] are = tt
  each_child (row ∷ rows) are =
      each_by (child_of above row) row (filter_map (child_of above) rows) refl are.0 (each_child rows are.1)

-- ---- answers

module _ (t : Nodes) (tree : IsSpelledTree t) where
  are_children : (above : Path) → AreChildren (children_of t above)
  are_children above =
      let rows : EachRow IsSpelledRow (entries t) = each_entry IsSpelledRow t tree.each in
      record { rising = names_rise above (entries t) rows (sorted_rows t) None tt; each = each_child above (entries t) rows }

  content_is_answer : (path : Path) (node : Option Node) (far : Bool) → get t path ≡ node → IsAnswer (content_answer node far)
  content_is_answer path (Some (File bytes mode)) far is = (tree.each path (File bytes mode) is).is_node
  content_is_answer path (Some (FarFile mode)) far is = tt
  content_is_answer path _ far is = none_is_answer far

  names_are_answer : (path : Path) (node : Option Node) (far : Bool) → IsAnswer (names_answer node far (children_of t path))
  names_are_answer path (Some Dir) far = are_children path
  names_are_answer path (Some FarDir) far = tt
  names_are_answer path _ far = none_is_answer far

  pub tree_answers : HasAnswers t
  tree_answers (asks.Kind path) = kind_is_answer (kind_of t path)
  tree_answers (asks.Content path) = content_is_answer path (get t path) (is_far_above t path) refl
  tree_answers (asks.Names path) = names_are_answer path (get t path) (is_far_above t path)
  tree_answers (asks.Mode path) = mode_is_answer (get t path) (is_far_above t path)
