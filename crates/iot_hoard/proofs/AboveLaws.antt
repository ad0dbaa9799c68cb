-- Lists of paths in which the paths above each stand before it, and that a profile's list is one.
use Rattle.std.proofs.Common.{◌≡◌, ◌⊎◌, ℕ, Bool, true, false, ◌||◌, ◌&&◌, IsSome, List, [], ◌∷◌, ◌++◌, Option, Some, None, refl, sym}
use Rattle.std.proofs.Common.{ap, subst, ◌∙◌, inl, inr, append_assoc, is_some}
use Rattle.std.proofs.lemmas.Bool.{and_from, and_parts, and_right, or_left, or_right}
use Rattle.std.proofs.lemmas.List.{append-nil, map-append}
use Rattle.std.proofs.lemmas.List.Elements.{filter-append}
use Rattle.std.proofs.lemmas.List.Folds.{list_all-map, list_any-append}
use Rattle.std.specs.Cmp.Derive.{both_true}
use Rattle.std.specs.FinMap.{entries, find, get, get-entries, keys}
use Rattle.std.specs.List.{filter, flat_map}
use Rattle.std.specs.Ordering.{eq_by_cmp, is_eq, is_lt}
use Rattle.std.specs.declared.cmp.Ordering.TheVariants.{Less}
use Rattle.iot_text.specs.Paths.{IsBelow, is_below, path_cmp, prefixes}
use Rattle.iot_text.proofs.PathsLaws.{above_first, is_below-of, is_below-tells}
use Rattle.iot_tree.specs.Ancestors.{proper_prefixes}
use Rattle.iot_tree.specs.Rows.{Rising}
use Rattle.iot_tree.specs.Snapshots.{has, is_reached}
use Rattle.iot_tree.specs.Tree.{IsTree, Nodes, Path, Row}
use Rattle.iot_tree.specs.declared.nodes.Node.{Node}
use Rattle.iot_tree.specs.declared.nodes.Node.TheVariants.{Dir}
use Rattle.iot_tree.specs.declared.profile.Reach.{Reach}
use Rattle.iot_tree.specs.declared.profile.Reach.TheVariants as reaches
use Rattle.iot_tree.specs.declared.profile.Wish.{Wish}
use Rattle.iot_tree.proofs.AncestorLaws.{any_above, below_not_root}
use Rattle.iot_tree.proofs.EachLaws.{sorted_rows}
use Rattle.iot_tree.proofs.PlaceLaws.{back_after, below_lower, find_after, tied}
use Rattle.iot_tree.proofs.SnapshotLaws.{by_names, prefixes_push}
use Rattle.iot_tree.proofs.TreeLaws.{ancestors, same_or_apart}
use Rattle.iot_tree.proofs.WithinLaws.{find_front, forked, side, inside, outside}
use Rattle.iot_hoard.specs.Picking.{by_priority, first_places, listed, reached, wished}
use Rattle.iot_hoard.proofs.BelowLaws.{paths_of, prefixes_are}
use Rattle.iot_hoard.proofs.TakingLaws.{or_moved}

-- ---- paths among others

pub tie : (q p : Path) → q ≡ p → eq_by_cmp path_cmp q p ≡ true
tie q p is = ap is_eq (tied q p (sym is))

-- the paths of a list that pass a test
pub has_filter : (f : Path → Bool) (q : Path) (paths : List Path) → has (filter f paths) q ≡ (has paths q && f q)
has_filter f q [] = refl
has_filter f q (p ∷ paths) = by (has_filter f q paths) (f p) refl (same_or_apart q p)
  where
    by : has (filter f paths) q ≡ (has paths q && f q) → (b : Bool) → f p ≡ b → (q ≡ p) ⊎ (eq_by_cmp path_cmp q p ≡ false)
        → has (filter f (p ∷ paths)) q ≡ (has (p ∷ paths) q && f q)
    by rest true is (inl same) = rw (is, tie q p same) (sym (ap f same ∙ is))
    by rest true is (inr away) = rw (is, away) rest
    by rest false is (inl same) =
        let none : f q ≡ false = ap f same ∙ is in rw (is, tie q p same) (rest ∙ and_right (has paths q) (f q) none ∙ sym none)
    by rest false is (inr away) = rw (is, away) rest

-- the path of a row that is found is among those of the rows
pub found_has : (q : Path) (rows : List Row) (node : Node) → find path_cmp q rows ≡ Some node → has (paths_of rows) q ≡ true
found_has q [] node found = let never : ◌≡◌ {A = Option Node} None (Some node) = found in absurd cc
found_has q (row ∷ rows) node found = elim (same_or_apart q row.0) [
  | inl same ↦ or_left (eq_by_cmp path_cmp q row.0) (has (paths_of rows) q) (tie q row.0 same)
  | inr away ↦ or_right (eq_by_cmp path_cmp q row.0) (has (paths_of rows) q) (found_has q rows node (rw away at found))
]

-- a path that is among those of the rows has one
pub has_found : (q : Path) (rows : List Row) → has (paths_of rows) q ≡ true → IsSome (find path_cmp q rows)
has_found q [] here = absurd cc
has_found q (row ∷ rows) here = elim (same_or_apart q row.0) [
  | inl same ↦ rw (tie q row.0 same) refl
  | inr away ↦ rw away (has_found q rows (rw away at here))
]

-- ---- paths above a path

-- a path is reached if those above it are among k
pub reached_if : (p : Path) (k : Path → Bool) → ((q : Path) → IsBelow p q → k q ≡ true) → is_reached k p ≡ true
reached_if [] k above = refl
reached_if (name ∷ p) k above =
    both_true (above [] (name, p, refl))
    (list_all-map k (λ (path : Path). name ∷ path) (proper_prefixes p)
    ∙ reached_if p (λ path. k (name ∷ path)) (λ q below.
    above (name ∷ q) (below.0, below.1, ap (λ (path : Path). name ∷ path) below.2)))

-- a path that another begins with is that one or above it
begun_has : (p x rest : Path) → p ≡ x ++ rest → has (prefixes p) x ≡ true
begun_has p x rest is =
    ap (λ (paths : List Path). has paths x) (prefixes_are p)
    ∙ list_any-append (eq_by_cmp path_cmp x) (proper_prefixes p) (p ∷ [])
    ∙ by rest is
  where
    by : (rest : Path) → p ≡ x ++ rest → (has (proper_prefixes p) x || has (p ∷ []) x) ≡ true
    by [] here =
        or_right (has (proper_prefixes p) x) (has (p ∷ []) x)
        (or_left (eq_by_cmp path_cmp x p) false (tie x p (sym (append-nil x) ∙ sym here)))
    by (name ∷ rest) here =
        or_left (has (proper_prefixes p) x) (has (p ∷ []) x)
        (ap (λ (path : Path). has (proper_prefixes path) x) here ∙ any_above (eq_by_cmp path_cmp x) x name rest (tie x x refl))

-- what is above a path below p is at or above p, or below it
above_below : (q p x : Path) → IsBelow q p → IsBelow q x → (has (prefixes p) x ≡ true) ⊎ (is_below x p ≡ true)
above_below q p x below above = elim (side x p) [
  | inside rest is test ↦ inl (begun_has p x rest is)
  | outside away test ↦ elim (side p x) [
    | inside rest is test ↦ inr (is_below-of x p (some away rest is))
    | outside apart test ↦ absurd (forked x p (above.0 ∷ above.1) (below.0 ∷ below.1) apart away (sym above.2 ∙ below.2))
  ]
]
  where
    some : ((rest : Path) → p ≡ x ++ rest → ⊥) → (rest : Path) → x ≡ p ++ rest → IsBelow x p
    some away [] is = absurd (away [] (sym (append-nil p) ∙ sym is ∙ sym (append-nil x)))
    some away (name ∷ rest) is = (name, rest, is)

-- ---- lists in which the paths above a path stand before it

-- the paths above each path stand before it, or are among k
abbrev pub AboveFirst : (Path → Bool) → List Path → Type 0
AboveFirst k [] = Unit {0}
AboveFirst k (p ∷ paths) = ((q : Path) → IsBelow p q → k q ≡ true) × AboveFirst (λ q. eq_by_cmp path_cmp q p || k q) paths

or_weaker : (a b c : Bool) → (b ≡ true → c ≡ true) → (a || b) ≡ true → (a || c) ≡ true
or_weaker true b c more is = refl
or_weaker false b c more is = more is

-- if more is among k
above_weaker : (paths : List Path) (k more : Path → Bool) → ((q : Path) → k q ≡ true → more q ≡ true) → AboveFirst k paths
    → AboveFirst more paths
above_weaker [] k more also above = tt
above_weaker (p ∷ paths) k more also above = (
  λ q below. also q (above.0 q below),
  above_weaker paths (λ q. eq_by_cmp path_cmp q p || k q) (λ q. eq_by_cmp path_cmp q p || more q)
      (λ q. or_weaker (eq_by_cmp path_cmp q p) (k q) (more q) (also q)) above.1,
)

-- two lists, one after the other
above_both : (first : List Path) (k : Path → Bool) (second : List Path) → AboveFirst k first
    → AboveFirst (λ q. has first q || k q) second → AboveFirst k (first ++ second)
above_both [] k second one two = two
above_both (p ∷ first) k second one two = (
  one.0,
  above_both first (λ q. eq_by_cmp path_cmp q p || k q) second one.1
      (above_weaker second (λ q. (eq_by_cmp path_cmp q p || has first q) || k q)
      (λ q. has first q || (eq_by_cmp path_cmp q p || k q))
      (λ q is. sym (or_moved (eq_by_cmp path_cmp q p) (has first q) (k q)) ∙ is) two),
)

-- each path at its first place alone
above_first_places : (paths before : List Path) (k : Path → Bool) → ((q : Path) → has before q ≡ true → k q ≡ true) → AboveFirst k paths
    → AboveFirst k (first_places before paths)
above_first_places [] before k known above = tt
above_first_places (p ∷ paths) before k known above =
    by (has before p) refl (above_first_places paths before k known)
    (above_first_places paths (p ∷ before) (λ q. eq_by_cmp path_cmp q p || k q)
    (λ q. or_weaker (eq_by_cmp path_cmp q p) (has before q) (k q) (known q)) above.1)
  where
    by : (b : Bool) → has before p ≡ b → (AboveFirst k paths → AboveFirst k (first_places before paths))
        → AboveFirst (λ q. eq_by_cmp path_cmp q p || k q) (first_places (p ∷ before) paths)
        → AboveFirst k (first_places before (p ∷ paths))
    by false is old new = rw is (above.0, new)
    by true is old new =
        rw is
        (old (above_weaker paths (λ q. eq_by_cmp path_cmp q p || k q) k (λ q either. elim (same_or_apart q p) [
          | inl same ↦ known q (ap (has before) same ∙ is)
          | inr away ↦ rw away at either
        ]) above.1))

-- of a front of the list each path's are among the front, or among k
pub above_in_front : (front later : List Path) (k : Path → Bool) → AboveFirst k (front ++ later) → (q x : Path) → has front q ≡ true
    → IsBelow q x → (has front x || k x) ≡ true
above_in_front [] later k above q x here below = absurd cc
above_in_front (p ∷ front) later k above q x here below = elim (same_or_apart q p) [
  | inl same ↦
      or_right (has (p ∷ front) x) (k x)
      (above.0 x (below.0, below.1, sym same ∙ below.2))
  | inr away ↦
      or_moved (eq_by_cmp path_cmp x p) (has front x) (k x)
      ∙ above_in_front front later (λ y. eq_by_cmp path_cmp y p || k y) above.1 q x (rw away at here) below
]

-- ---- the paths of a tree

module _ (s : Nodes) (tree : IsTree s) where
  abbrev in_tree : Path → Bool
  in_tree path = is_some (get s path)

  -- a path above one of the tree's is a directory of it
  pub dir_above : (q x : Path) → in_tree q ≡ true → IsBelow q x → get s x ≡ Some Dir
  dir_above q x here below = ancestors s tree x below.0 below.1 (subst (λ (path : Path). IsSome (get s path)) below.2 here)

  in_tree_above : (q x : Path) → in_tree q ≡ true → IsBelow q x → in_tree x ≡ true
  in_tree_above q x here below = ap (λ (o : Option Node). is_some o) (dir_above q x here below)

  -- ---- a path with those above it

  one_prefix : (p : Path) (k : Path → Bool) → (in_tree p ≡ true → (x : Path) → IsBelow p x → k x ≡ true)
      → AboveFirst k (filter in_tree (p ∷ []))
  one_prefix p k above = by (in_tree p) refl
    where
      by : (b : Bool) → in_tree p ≡ b → AboveFirst k (filter in_tree (p ∷ []))
      by true is = rw is (above is, tt)
      by false is = rw is tt

  prefixes_above : (p : Path) (k : Path → Bool) → AboveFirst k (filter in_tree (prefixes p))
  prefixes_above = by_names (λ p. (k : Path → Bool) → AboveFirst k (filter in_tree (prefixes p)))
      (λ k. one_prefix [] k (λ here x below. absurd (below_not_root x below.0 below.1 (sym below.2))))
      (λ q name before k.
      subst (λ (paths : List Path). AboveFirst k paths) (sym (more q name))
      (above_both (filter in_tree (prefixes q)) k (filter in_tree ((q ++ name ∷ []) ∷ [])) (before k)
      (one_prefix (q ++ name ∷ []) (λ x. has (filter in_tree (prefixes q)) x || k x) (λ here x below.
      or_left (has (filter in_tree (prefixes q)) x) (k x)
      (has_filter in_tree x (prefixes q)
      ∙ and_from (has (prefixes q) x) (in_tree x)
      (ap (λ (paths : List Path). has paths x) (prefixes_are q ∙ sym (prefixes_push q name))
      ∙ ap (λ (path : Path). has (proper_prefixes path) x) below.2
      ∙ any_above (eq_by_cmp path_cmp x) x below.0 below.1 (tie x x refl))
      (in_tree_above (q ++ name ∷ []) x here below))))))
    where
      more : (q : Path) (name : List ℕ)
          → filter in_tree (prefixes (q ++ name ∷ [])) ≡ filter in_tree (prefixes q) ++ filter in_tree ((q ++ name ∷ []) ∷ [])
      more q name =
          ap (filter in_tree)
          (prefixes_are (q ++ name ∷ []) ∙ ap (λ (paths : List Path). paths ++ (q ++ name ∷ []) ∷ []) (prefixes_push q name
          ∙ sym (prefixes_are q)))
          ∙ filter-append in_tree (prefixes q) ((q ++ name ∷ []) ∷ [])

  -- ---- the paths in their order

  -- a row above another stands before it
  in_front : (front : List Row) (row : Row) (back : List Row) → entries s ≡ front ++ row ∷ back → (x : Path) → IsBelow row.0 x
      → get s x ≡ Some Dir → has (paths_of front) x ≡ true
  in_front front row back split x below here =
      let rising : Rising (front ++ row ∷ back) = subst Rising split (sorted_rows s) in
      let less : path_cmp x row.0 ≡ Less =
      subst (λ (path : Path). path_cmp x path ≡ Less) (sym below.2) (above_first x below.0 below.1) in
      let later : find path_cmp x (row ∷ back) ≡ None =
      find_after x (row ∷ back) (both_true (ap is_lt less) (below_lower x row.0 back less (back_after front row back rising))) in
      found_has x front Dir
      (sym (find_front x front (row ∷ back) later) ∙ ap (find path_cmp x) (sym split) ∙ sym (get-entries s x) ∙ here)

  -- of the paths of the tree those that pass a test; a path above one of them passes it too, or is among k
  module _ (g k : Path → Bool) (mapped : (q : Path) → g q ≡ true → in_tree q ≡ true)
      (closed : (q x : Path) → g q ≡ true → IsBelow q x → (k x ≡ true) ⊎ (g x ≡ true)) where
    -- the paths that passed it so far, and k
    abbrev so_far : List Row → Path → Bool
    so_far done x = (g x && has (paths_of done) x) || k x

    has_more : (done : List Row) (row : Row) (x : Path)
        → has (paths_of (done ++ row ∷ [])) x ≡ (has (paths_of done) x || eq_by_cmp path_cmp x row.0)
    has_more done row x =
        ap (λ (paths : List Path). has paths x) (map-append (λ (row : Row). row.0) done (row ∷ []))
        ∙ list_any-append (eq_by_cmp path_cmp x) (paths_of done) (row.0 ∷ [])
        ∙ ap (λ b. has (paths_of done) x || b) (or_nothing (eq_by_cmp path_cmp x row.0))
      where
        or_nothing : (b : Bool) → (b || false) ≡ b
        or_nothing true = refl
        or_nothing false = refl

    keys_above : (rest done : List Row) → entries s ≡ done ++ rest → AboveFirst (so_far done) (filter g (paths_of rest))
    keys_above [] done split = tt
    keys_above (row ∷ rest) done split =
        by (g row.0) refl (keys_above rest (done ++ row ∷ []) (split ∙ sym (append_assoc done (row ∷ []) rest)))
      where
        passed : (a b c e : Bool) → ((a && (b || e)) || c) ≡ true → (e || ((a && b) || c)) ≡ true
        passed a b c true is = refl
        passed true true c false is = refl
        passed true false c false is = is
        passed false b c false is = is

        missed : (a b c e : Bool) → (e ≡ true → a ≡ false) → ((a && (b || e)) || c) ≡ true → ((a && b) || c) ≡ true
        missed false b c e none is = is
        missed true true c e none is = refl
        missed true false c false none is = is
        missed true false c true none is = let never : true ≡ false = none refl in absurd cc

        by : (b : Bool) → g row.0 ≡ b → AboveFirst (so_far (done ++ row ∷ [])) (filter g (paths_of rest))
            → AboveFirst (so_far done) (filter g (paths_of (row ∷ rest)))
        by true is later =
            rw is (
              λ x below. elim (closed row.0 x is below) [
                | inl among ↦ or_right (g x && has (paths_of done) x) (k x) among
                | inr passes ↦
                    or_left (g x && has (paths_of done) x) (k x)
                    (and_from (g x) (has (paths_of done) x) passes
                    (in_front done row rest split x below (dir_above row.0 x (mapped row.0 is) below)))
              ],
              above_weaker (filter g (paths_of rest)) (so_far (done ++ row ∷ []))
                  (λ x. eq_by_cmp path_cmp x row.0 || so_far done x)
                  (λ x either.
                  passed (g x) (has (paths_of done) x) (k x) (eq_by_cmp path_cmp x row.0)
                  (ap (λ b. (g x && b) || k x) (sym (has_more done row x)) ∙ either)) later,
            )
        by false is later =
            rw is
            (above_weaker (filter g (paths_of rest)) (so_far (done ++ row ∷ [])) (so_far done)
            (λ x either.
            missed (g x) (has (paths_of done) x) (k x) (eq_by_cmp path_cmp x row.0) (λ tied. elim (same_or_apart x row.0) [
              | inl same ↦ ap g same ∙ is
              | inr away ↦ let never : true ≡ false = sym tied ∙ away in absurd cc
            ])
            (ap (λ b. (g x && b) || k x) (sym (has_more done row x)) ∙ either)) later)

    pub all_above : AboveFirst k (filter g (keys s))
    all_above =
        above_weaker (filter g (keys s)) (so_far []) k (λ x either. none (g x) (k x) either) (keys_above (entries s) [] refl)
      where
        none : (a c : Bool) → ((a && false) || c) ≡ true → c ≡ true
        none true c is = is
        none false c is = is

  -- ---- the paths of a wish

  filter_both : (f : Path → Bool) (paths : List Path) → filter in_tree (filter f paths) ≡ filter (λ q. f q && in_tree q) paths
  filter_both f [] = refl
  filter_both f (p ∷ paths) = by (f p) refl (in_tree p) refl (filter_both f paths)
    where
      by : (b : Bool) → f p ≡ b → (c : Bool) → in_tree p ≡ c → filter in_tree (filter f paths) ≡ filter (λ q. f q && in_tree q) paths
          → filter in_tree (filter f (p ∷ paths)) ≡ filter (λ q. f q && in_tree q) (p ∷ paths)
      by false is c here rest = rw is rest
      by true is true here rest = rw (is, here) (ap (λ (list : List Path). p ∷ list) rest)
      by true is false here rest = rw (is, here) rest

  reached_above_first : (reach : Reach) (p : Path) (k : Path → Bool)
      → ((x : Path) → has (prefixes p) x ≡ true → in_tree x ≡ true → k x ≡ true) → AboveFirst k (filter in_tree (reached s reach p))
  reached_above_first reaches.Path p k known = tt
  reached_above_first reaches.Below p k known =
      subst (λ (paths : List Path). AboveFirst k paths) (sym (filter_both (λ other. is_below other p) (keys s)))
      (all_above (λ q. is_below q p && in_tree q) k (λ q both. (and_parts (is_below q p) (in_tree q) both).1) (λ q x both above.
      let parts = and_parts (is_below q p) (in_tree q) both in
      let here : in_tree x ≡ true = in_tree_above q x parts.1 above in
      elim (above_below q p x (is_below-tells q p parts.0) above) [
        | inl begun ↦ inl (known x begun here)
        | inr below ↦ inr (and_from (is_below x p) (in_tree x) below here)
      ]))

  wish_above : (wish : Wish) (k : Path → Bool) → AboveFirst k (filter in_tree (wished s wish))
  wish_above wish k =
      subst (λ (paths : List Path). AboveFirst k paths) (sym (filter-append in_tree (prefixes wish.path) (reached s wish.reach wish.path)))
      (above_both (filter in_tree (prefixes wish.path)) k (filter in_tree (reached s wish.reach wish.path))
      (prefixes_above wish.path k)
      (reached_above_first wish.reach wish.path (λ x. has (filter in_tree (prefixes wish.path)) x || k x) (λ x begun here.
      or_left (has (filter in_tree (prefixes wish.path)) x) (k x)
      (has_filter in_tree x (prefixes wish.path) ∙ and_from (has (prefixes wish.path) x) (in_tree x) begun here))))

  wishes_above : (wishes : List Wish) (k : Path → Bool) → AboveFirst k (filter in_tree (flat_map (wished s) wishes))
  wishes_above [] k = tt
  wishes_above (wish ∷ wishes) k =
      subst (λ (paths : List Path). AboveFirst k paths) (sym (filter-append in_tree (wished s wish) (flat_map (wished s) wishes)))
      (above_both (filter in_tree (wished s wish)) k (filter in_tree (flat_map (wished s) wishes)) (wish_above wish k)
      (wishes_above wishes (λ q. has (filter in_tree (wished s wish)) q || k q)))

  -- the list of a profile
  pub listed_above : (wishes : List Wish) → AboveFirst (λ q. false) (listed s wishes)
  listed_above wishes =
      above_first_places (filter in_tree (flat_map (wished s) (by_priority wishes))) [] (λ q. false) (λ q none. none)
      (wishes_above (by_priority wishes) (λ q. false))
