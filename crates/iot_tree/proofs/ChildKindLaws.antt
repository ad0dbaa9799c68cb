-- The names in a directory are known by the kinds of the rows of its children.
use Rattle.std.proofs.Common.{◌≡◌, ◌≢◌, ◌↔◌, ℕ, ◌+◌, ◌==◌, ◌&&◌, Bool, true, false, cond, T, List, [], ◌∷◌, ◌++◌, Option, Some, None}
use Rattle.std.proofs.Common.{Ordering, option_map, length, bytes_eq, if◌then◌else◌, refl, sym, ap, subst, ◌∙◌, arith, length-append}
use Rattle.std.proofs.lemmas.Bool.Decides.{nat_tests}
use borrow.Author.Tests.{eqb-true}
use Rattle.std.specs.List.{filter_map, cons_option, starts_with}
use Rattle.std.specs.Cmp.Lexicographic.{slice_cmp, nat_list_cmp_total}
use Rattle.std.specs.declared.cmp.Ordering.TheVariants.{Less, Equal, Greater}
use Rattle.std.specs.Ordering.{is_lt, is_eq, eq_by_cmp, nat_cmp, ordering_then}
use Rattle.std.specs.FinMap.{get, entries, entries_sorted, get-entries, find, is_sorted}
use Rattle.std.specs.FinMap.Entries.{below_all, same_entries}
use Rattle.iot_text.specs.Paths.{path_cmp, last_of}
use Rattle.iot_tree.specs.Tree.{Nodes, Path, Row}
use Rattle.iot_tree.specs.Questions.{is_child, child_of, children_of, node_kind}
use Rattle.iot_tree.specs.declared.nodes.Node.{Node}
use Rattle.iot_tree.specs.declared.kinds.Kind.{Kind}
use Rattle.iot_text.proofs.PathsLaws.{name_same, last_of-push}
use Rattle.iot_tree.proofs.TreeLaws.{apart}
use Rattle.iot_tree.proofs.WithinLaws.{side, inside, outside, same_front, test_is}

abbrev pub Name : Type 0
Name = List ℕ

abbrev pub Child : Type 0
Child = List ℕ × Kind

abbrev pub name_cmp : Name → Name → Ordering
name_cmp = slice_cmp nat_cmp

-- the kind that a row shows
abbrev pub row_kind : Option Node → Option Kind
row_kind o = option_map node_kind o

-- two trees have the same kind at a path
abbrev pub SameKind : Nodes → Nodes → Path → Type 0
SameKind t u k = row_kind (get t k) ≡ row_kind (get u k)

-- ---- which rows are children

-- a row is that of a child of p, with its name, or it is not
data Parted (p : Path) (row : Row) : Type 0 where
  child : (m : Name) → row.0 ≡ p ++ m ∷ [] → child_of p row ≡ Some (m, node_kind row.1) → Parted p row
  other : ((m : Name) → row.0 ≢ p ++ m ∷ []) → child_of p row ≡ None → Parted p row

child_is : (p : Path) (name : Name) (node : Node) → child_of p (p ++ name ∷ [], node) ≡ Some (name, node_kind node)
child_is p name node =
    let whole : (length (p ++ name ∷ []) == length p + 1) ≡ true = grind (arith, nat_tests, length-append p (name ∷ [])) in
    let front : starts_with bytes_eq (p ++ name ∷ []) p ≡ true = (test_is p (p ++ name ∷ [])).1 (name ∷ []) refl in
    ap
    (λ b. if b && starts_with bytes_eq (p ++ name ∷ []) p then option_map (λ name. (name, node_kind node)) (last_of (p ++ name ∷ []))
    else None)
    whole
    ∙ ap (λ b. if b then option_map (λ name. (name, node_kind node)) (last_of (p ++ name ∷ [])) else None) front
    ∙ ap (option_map (λ name. (name, node_kind node))) (last_of-push p name)

no_child : (p : Path) (row : Row) → is_child p row.0 ≡ false → child_of p row ≡ None
no_child p row is = ap (λ b. if b then option_map (λ name. (name, node_kind row.1)) (last_of row.0) else None) is

and_false : (b : Bool) → (b && false) ≡ false
and_false true = refl
and_false false = refl

longer : (p path rest : Path) → path ≡ p ++ rest → length rest ≢ 1 → is_child p path ≡ false
longer p path rest is differ = by_test (length path == length p + 1) refl
  where
    by_test : (b : Bool) → (length path == length p + 1) ≡ b → is_child p path ≡ false
    by_test true same = absurd (differ (omega (arith, eqb-true (length path) (length p + 1) same, ap length is, length-append p rest)))
    by_test false apart = ap (λ b. b && starts_with bytes_eq path p) apart

same_end : (p : Path) (m : Name) (rest : Path) → p ++ rest ≡ p ++ m ∷ [] → length rest ≡ 1
same_end p m rest is = omega (arith, ap length is, length-append p rest, length-append p (m ∷ []))

parted_by : (p rest : Path) (row : Row) → row.0 ≡ p ++ rest → Parted p row
parted_by p [] row is =
    other (λ m same. absurd (omega (arith, same_end p m [] (sym is ∙ same))))
    (no_child p row (longer p row.0 [] is (λ e. absurd (omega (arith, e)))))
parted_by p (m ∷ []) row is = child m is (ap (λ (path : Path). child_of p (path, row.1)) is ∙ child_is p m row.1)
parted_by p (m ∷ next ∷ rest) row is =
    other (λ n same. absurd (omega (arith, same_end p n (m ∷ next ∷ rest) (sym is ∙ same))))
    (no_child p row (longer p row.0 (m ∷ next ∷ rest) is (λ e. absurd (omega (arith, e)))))

parted : (p : Path) (row : Row) → Parted p row
parted p row = elim (side p row.0) [
  | inside rest is test ↦ parted_by p rest row is
  | outside out test ↦
      other (λ m same. out (m ∷ []) same)
      (no_child p row (ap (λ b. (length row.0 == length p + 1) && b) test ∙ and_false (length row.0 == length p + 1)))
]

then_even : (c : Ordering) → ordering_then c Equal ≡ c
then_even Less = refl
then_even Equal = refl
then_even Greater = refl

-- children stand in the order of their names
name_order : (p : Path) (n m : Name) → path_cmp (p ++ n ∷ []) (p ++ m ∷ []) ≡ name_cmp n m
name_order p n m = same_front p (n ∷ []) (m ∷ []) ∙ then_even (name_cmp n m)

-- ---- what is found among them

module _ (p : Path) where
  pub found_child : (n : Name) (es : List Row) → find name_cmp n (filter_map (child_of p) es) ≡ row_kind (find path_cmp (p ++ n ∷ []) es)
  found_child n [] = refl
  found_child n (row ∷ es) = elim (parted p row) [
    | child m is shown ↦
        let tied : eq_by_cmp path_cmp (p ++ n ∷ []) row.0
        ≡ eq_by_cmp name_cmp n m = ap is_eq (ap (path_cmp (p ++ n ∷ [])) is ∙ name_order p n m) in
        ap (λ (o : Option Child). find name_cmp n (cons_option o (filter_map (child_of p) es))) shown
        ∙ ap (cond (eq_by_cmp name_cmp n m) (Some (node_kind row.1))) (found_child n es)
        ∙ either (eq_by_cmp name_cmp n m) (find path_cmp (p ++ n ∷ []) es)
        ∙ ap (λ b. row_kind (cond b (Some row.1) (find path_cmp (p ++ n ∷ []) es))) (sym tied)
    | other differ shown ↦
        ap (λ (o : Option Child). find name_cmp n (cons_option o (filter_map (child_of p) es))) shown
        ∙ found_child n es
        ∙ ap (λ b. row_kind (cond b (Some row.1) (find path_cmp (p ++ n ∷ []) es)))
        (sym (apart (p ++ n ∷ []) row.0 (λ same. differ n (sym same))))
  ]
    where
      either : (b : Bool) (o : Option Node) → cond b (Some (node_kind row.1)) (row_kind o) ≡ row_kind (cond b (Some row.1) o)
      either true o = refl
      either false o = refl

  both : (a b : Bool) → T a → T b → T (a && b)
  both true b left right = right
  both false b left right = left

  one : (a b : Bool) → T (a && b) → T a
  one true b h = tt
  one false b h = h

  two : (a b : Bool) → T (a && b) → T b
  two true b h = h
  two false b h = absurd h

  below_children : (m : Name) (es : List Row) → T (below_all path_cmp (p ++ m ∷ []) es)
      → T (below_all name_cmp m (filter_map (child_of p) es))
  below_children m [] below = tt
  below_children m (row ∷ es) below = elim (parted p row) [
    | child n is shown ↦
        subst (λ (o : Option Child). T (below_all name_cmp m (cons_option o (filter_map (child_of p) es)))) (sym shown)
        (both (is_lt (name_cmp m n)) _ (subst (λ c. T (is_lt c)) (ap (path_cmp (p ++ m ∷ [])) is ∙ name_order p m n) (one _ _ below))
        (below_children m es (two (is_lt (path_cmp (p ++ m ∷ []) row.0)) _ below)))
    | other differ shown ↦
        subst (λ (o : Option Child). T (below_all name_cmp m (cons_option o (filter_map (child_of p) es)))) (sym shown)
        (below_children m es (two (is_lt (path_cmp (p ++ m ∷ []) row.0)) _ below))
  ]

  sorted_children : (es : List Row) → T (is_sorted path_cmp es) → T (is_sorted name_cmp (filter_map (child_of p) es))
  sorted_children [] rising = tt
  sorted_children (row ∷ es) rising = elim (parted p row) [
    | child n is shown ↦
        subst (λ (o : Option Child). T (is_sorted name_cmp (cons_option o (filter_map (child_of p) es)))) (sym shown)
        (both (below_all name_cmp n (filter_map (child_of p) es)) _
        (below_children n es (subst (λ (path : Path). T (below_all path_cmp path es)) is (one _ _ rising)))
        (sorted_children es (two (below_all path_cmp row.0 es) _ rising)))
    | other differ shown ↦
        subst (λ (o : Option Child). T (is_sorted name_cmp (cons_option o (filter_map (child_of p) es)))) (sym shown)
        (sorted_children es (two (below_all path_cmp row.0 es) _ rising))
  ]

  child_kind : (t : Nodes) (n : Name) → find name_cmp n (children_of t p) ≡ row_kind (get t (p ++ n ∷ []))
  child_kind t n = found_child n (entries t) ∙ ap row_kind (sym (get-entries t (p ++ n ∷ [])))

-- the names of two directories are the same exactly where the kinds of all children are
pub same_names : (t u : Nodes) (p q : Path) → (children_of t p ≡ children_of u q)
    ↔ ((n : Name) → row_kind (get t (p ++ n ∷ [])) ≡ row_kind (get u (q ++ n ∷ [])))
same_names t u p q = (
  (λ same n. sym (child_kind p t n) ∙ ap (find name_cmp n) same ∙ child_kind q u n),
  (λ same. same_entries name_cmp nat_list_cmp_total name_same (children_of t p) (children_of u q)
      (sorted_children p (entries t) (entries_sorted t)) (sorted_children q (entries u) (entries_sorted u))
      (λ n. child_kind p t n ∙ same n ∙ sym (child_kind q u n))),
)
