-- What a tree is that is cut down to the paths which a profile takes along.
use Rattle.std.proofs.Common.{◌≡◌, ◌⊎◌, ℕ, ◌+◌, ◌≤◌, Bool, true, false, cond, ◌||◌, ◌&&◌, List, [], ◌∷◌, Option, Some, None}
use Rattle.std.proofs.Common.{option_map, is_some, refl, sym, ap, subst, ◌∙◌, inl, inr, arith}
use Rattle.std.proofs.lemmas.Bool.{and_from, and_parts, or_left, or_right}
use Rattle.std.specs.Cmp.{first_so, second_so}
use Rattle.std.specs.FinMap.{entries, get, get-entries, keys, is_sorted}
use Rattle.std.specs.FinMap.Entries.{below_all}
use Rattle.std.specs.List.{filter}
use Rattle.std.specs.Ordering.{eq_by_cmp, is_lt}
use Rattle.std.specs.declared.cmp.Ordering.TheVariants.{Less}
use Rattle.iot_text.specs.Paths.{IsBelow, path_cmp}
use Rattle.iot_tree.specs.Place.{AllAfter}
use Rattle.iot_tree.specs.Rows.{Rising}
use Rattle.iot_tree.specs.Snapshots.{ArePathsRising, cut_rows, has, is_known, is_reached, known, paths_where, prune, seen}
use Rattle.iot_tree.specs.Tree.{IsTree, IsWhole, Nodes, Path, Row}
use Rattle.iot_tree.specs.declared.nodes.Node.{Node}
use Rattle.iot_tree.specs.declared.nodes.Node.TheVariants.{Dir, File, FarDir, FarFile}
use Rattle.iot_tree.specs.declared.profile.Wish.{Wish}
use Rattle.iot_tree.proofs.EachLaws.{EachRow, each_entry, sorted_rows}
use Rattle.iot_tree.proofs.PlaceLaws.{is_less}
use Rattle.iot_tree.proofs.PruneLaws.{entries_pruned, get_pruned}
use Rattle.iot_tree.proofs.SnapshotLaws.{paths_rising}
use Rattle.iot_tree.proofs.TreeLaws.{apart, same_or_apart}
use Rattle.iot_tree.proofs.WithinLaws.{not_less}
use Rattle.iot_hoard.specs.Picking.{IsPick}
use Rattle.iot_hoard.specs.Sizes.{bytes_in, size, weight}
use Rattle.iot_hoard.proofs.AboveLaws.{AboveFirst, above_in_front, dir_above, found_has, has_filter, has_found, listed_above}
use Rattle.iot_hoard.proofs.AboveLaws.{reached_if, tie}
use Rattle.iot_hoard.proofs.BelowLaws.{paths_of}

-- ---- lists of paths

-- two tests that agree on the paths of a list
filter_members : (f g : Path → Bool) (paths : List Path) → ((q : Path) → has paths q ≡ true → f q ≡ g q) → filter f paths ≡ filter g paths
filter_members f g [] same = refl
filter_members f g (p ∷ paths) same =
    let here : f p ≡ g p = same p (or_left (eq_by_cmp path_cmp p p) (has paths p) (tie p p refl)) in
    let rest : filter f paths ≡ filter g paths =
    filter_members f g paths (λ q later. same q (or_right (eq_by_cmp path_cmp q p) (has paths q) later)) in
    λ i. cond (here i) (p ∷ rest i) (rest i)

-- two trees that agree on the paths of a list
size_same : (t s : Nodes) (paths : List Path) → ((q : Path) → has paths q ≡ true → get t q ≡ get s q) → size t paths ≡ size s paths
size_same t s [] same = refl
size_same t s (p ∷ paths) same =
    let here : get t p ≡ get s p = same p (or_left (eq_by_cmp path_cmp p p) (has paths p) (tie p p refl)) in
    let rest : size t paths ≡ size s paths =
    size_same t s paths (λ q later. same q (or_right (eq_by_cmp path_cmp q p) (has paths q) later)) in
    λ i. (64 + bytes_in (here i)) + rest i

-- the paths of rows that pass a test
paths_that : (f : Path → Bool) (rows : List Row) → filter f (paths_of rows) ≡ paths_where (λ row. f row.0) rows
paths_that f [] = refl
paths_that f (row ∷ rows) = by (f row.0) refl (paths_that f rows)
  where
    by : (b : Bool) → f row.0 ≡ b → filter f (paths_of rows) ≡ paths_where (λ row. f row.0) rows
        → filter f (paths_of (row ∷ rows)) ≡ paths_where (λ row. f row.0) (row ∷ rows)
    by true is rest = rw is (ap (λ (paths : List Path). row.0 ∷ paths) rest)
    by false is rest = rw is rest

-- ---- a tree cut down to paths that have with each path those above it

whole_known : (s : Nodes) → IsWhole s → (p : Path) (node : Node) → get s p ≡ Some node → is_known node ≡ true
whole_known s whole p Dir is = refl
whole_known s whole p (File bytes mode) is = refl
whole_known s whole p FarDir is = absurd (whole.no_far_dir p is)
whole_known s whole p (FarFile mode) is = absurd (whole.no_far_file p mode is)

far_unknown : (node : Node) → is_known (seen false node) ≡ false
far_unknown Dir = refl
far_unknown (File bytes mode) = refl
far_unknown FarDir = refl
far_unknown (FarFile mode) = refl

-- what is known of it are the paths of its rows among them
known_rows : (k : Path → Bool) → ((q : Path) → k q ≡ true → is_reached k q ≡ true) → (rows : List Row)
    → EachRow (λ p node. is_known node ≡ true) rows → paths_where (λ row. is_known row.1) (cut_rows k rows) ≡ filter k (paths_of rows)
known_rows k reaches [] each = refl
known_rows k reaches (row ∷ rows) each = by (k row.0) refl (is_reached k row.0) refl (known_rows k reaches rows each.1)
  where
    by : (b : Bool) → k row.0 ≡ b → (c : Bool) → is_reached k row.0 ≡ c
        → paths_where (λ row. is_known row.1) (cut_rows k rows) ≡ filter k (paths_of rows)
        → paths_where (λ row. is_known row.1) (cut_rows k (row ∷ rows)) ≡ filter k (paths_of (row ∷ rows))
    by true is true reached rest = rw (is, reached, each.0) (ap (λ (paths : List Path). row.0 ∷ paths) rest)
    by true is false hidden rest = let never : true ≡ false = sym (reaches row.0 is) ∙ hidden in absurd cc
    by false is true reached rest = rw (is, reached, far_unknown row.1) rest
    by false is false hidden rest = rw (is, hidden) rest

-- ---- the size of paths in another order

module _ (s : Nodes) where
  -- of rows that come after a path none is its
  other_rows : (p : Path) (h : Path → Bool) (rows : List Row) → AllAfter p rows
      → filter (λ q. eq_by_cmp path_cmp q p || h q) (paths_of rows) ≡ filter h (paths_of rows)
  other_rows p h [] after = refl
  other_rows p h (row ∷ rows) after =
      let less = is_less _ (first_so (is_lt (path_cmp p row.0)) _ after) in
      let away : eq_by_cmp path_cmp row.0 p ≡ false =
      apart row.0 p (λ is. not_less p (subst (λ (path : Path). path_cmp p path ≡ Less) is less)) in
      let rest = other_rows p h rows (second_so (is_lt (path_cmp p row.0)) _ after) in
      rw away (ap (λ (paths : List Path). cond (h row.0) (row.0 ∷ paths) paths) rest)

  -- a path more takes no more than it weighs
  within_one : (p : Path) (h : Path → Bool) (rows : List Row) → Rising rows
      → size s (filter (λ q. eq_by_cmp path_cmp q p || h q) (paths_of rows)) ≤ weight s p + size s (filter h (paths_of rows))
  within_one p h [] rising = omega arith
  within_one p h (row ∷ rows) rising =
      by (same_or_apart row.0 p) (h row.0) refl (within_one p h rows (second_so (below_all path_cmp row.0 rows) _ rising))
    where
      by : (row.0 ≡ p) ⊎ (eq_by_cmp path_cmp row.0 p ≡ false) → (b : Bool) → h row.0 ≡ b
          → size s (filter (λ q. eq_by_cmp path_cmp q p || h q) (paths_of rows)) ≤ weight s p + size s (filter h (paths_of rows))
          → size s (filter (λ q. eq_by_cmp path_cmp q p || h q) (paths_of (row ∷ rows)))
          ≤ weight s p + size s (filter h (paths_of (row ∷ rows)))
      by (inl same) b is rest =
          let after : AllAfter p rows =
          subst (λ (path : Path). AllAfter path rows) same (first_so (below_all path_cmp row.0 rows) (is_sorted path_cmp rows) rising) in
          rw (tie row.0 p same, is) (own b (ap (size s) (other_rows p h rows after)) (ap (weight s) same))
        where
          own : (b : Bool) → size s (filter (λ q. eq_by_cmp path_cmp q p || h q) (paths_of rows)) ≡ size s (filter h (paths_of rows))
              → weight s row.0 ≡ weight s p
              → weight s row.0 + size s (filter (λ q. eq_by_cmp path_cmp q p || h q) (paths_of rows))
              ≤ weight s p + size s (cond b (row.0 ∷ filter h (paths_of rows)) (filter h (paths_of rows)))
          own true others same_weight = omega (arith, others, same_weight)
          own false others same_weight = omega (arith, others, same_weight)
      by (inr away) true is rest = rw (away, is) (omega (arith, rest))
      by (inr away) false is rest = rw (away, is) rest

  none_size : (paths : List Path) → size s (filter (has []) paths) ≡ 0
  none_size [] = refl
  none_size (p ∷ paths) = none_size paths

  -- the rows whose paths are among these take no more than they do
  within_all : (rows : List Row) → Rising rows → (front : List Path) → size s (filter (has front) (paths_of rows)) ≤ size s front
  within_all rows rising [] = omega (arith, none_size (paths_of rows))
  within_all rows rising (p ∷ front) = omega (arith, within_one p (has front) rows rising, within_all rows rising front)

-- ---- what a profile takes along

module _ (s : Nodes) (wishes : List Wish) (limit : ℕ) (paths : List Path) (pick : IsPick s wishes limit paths) where
  -- the paths rise
  pub picked_rising : ArePathsRising paths
  picked_rising =
      subst ArePathsRising (sym (pick.is ∙ paths_that (has pick.front) (entries s)))
      (paths_rising (λ row. has pick.front row.0) (entries s) (sorted_rows s))

  -- they take no more than the limit
  pub picked_within : size s paths ≤ limit
  picked_within =
      let picked : size s paths ≡ size s (filter (has pick.front) (keys s)) = ap (size s) pick.is in
      omega (arith, picked, within_all s (entries s) (sorted_rows s) pick.front, pick.longest.within)

  has_picked : (q : Path) → has paths q ≡ (has (keys s) q && has pick.front q)
  has_picked q = ap (λ (list : List Path). has list q) pick.is ∙ has_filter (has pick.front) q (keys s)

  module _ (tree : IsTree s) where
    or_nothing : (b : Bool) → b ≡ (b || false)
    or_nothing true = refl
    or_nothing false = refl

    -- with each path those above it are taken along
    pub picked_above : (q x : Path) → has paths q ≡ true → IsBelow q x → has paths x ≡ true
    picked_above q x here below =
        let both = and_parts (has (keys s) q) (has pick.front q) (sym (has_picked q) ∙ here) in
        let there : is_some (get s q) ≡ true = ap (λ (o : Option Node). is_some o) (get-entries s q) ∙ has_found q (entries s) both.0 in
        let dir : get s x ≡ Some Dir = dir_above s tree q x there below in
        has_picked x
        ∙ and_from (has (keys s) x) (has pick.front x) (found_has x (entries s) Dir (sym (get-entries s x) ∙ dir))
        (or_nothing (has pick.front x)
        ∙ above_in_front pick.front pick.longest.later (λ y. false)
        (subst (AboveFirst (λ y. false)) pick.longest.split (listed_above s tree wishes)) q x both.1 below)

    picked_reached : (q : Path) → has paths q ≡ true → is_reached (has paths) q ≡ true
    picked_reached q here = reached_if q (has paths) (λ x below. picked_above q x here below)

    -- each keeps its row
    kept_row : (q : Path) → has paths q ≡ true → get (prune s (has paths)) q ≡ get s q
    kept_row q here =
        get_pruned s (has paths) q
        ∙ ap (λ b. cond b (option_map (seen (has paths q)) (get s q)) None) (picked_reached q here)
        ∙ ap (λ b. option_map (seen b) (get s q)) here
        ∙ same (get s q)
      where
        same : (o : Option Node) → option_map (seen true) o ≡ o
        same None = refl
        same (Some node) = refl

    -- they are as large in the tree that is cut down to them
    pub picked_size : size (prune s (has paths)) paths ≡ size s paths
    picked_size = size_same (prune s (has paths)) s paths kept_row

    -- of a whole tree that is cut down to them exactly they are known
    pub picked_known : IsWhole s → known (prune s (has paths)) ≡ paths
    picked_known whole =
        ap (paths_where (λ row. is_known row.1)) (entries_pruned s (has paths))
        ∙ known_rows (has paths) picked_reached (entries s) (each_entry (λ p node. is_known node ≡ true) s (whole_known s whole))
        ∙ filter_members (has paths) (has pick.front) (keys s) (λ q here. has_picked q ∙ ap (λ b. b && has pick.front q) here)
        ∙ sym pick.is
