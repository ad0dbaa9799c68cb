-- The paths of a wish, among the rows of a tree.
use Rattle.std.proofs.Common.{◌≡◌, ℕ, ◌+◌, ◌-◌, ◌<◌, ◌≤◌, Bool, true, false, List, [], ◌∷◌, ◌++◌, map, None, length, take, drop, get_or}
use Rattle.std.proofs.Common.{nat_lt, bytes_eq, add-one, refl, sym, ap, subst, ◌∙◌, arith}
use Rattle.std.proofs.lemmas.Bool.{and_right, cond-true, cond-false}
use Rattle.std.proofs.lemmas.List.{append-nil, append_assoc, drop_more, get_or-drop, length-drop, map-append, map_more, take_more}
use Rattle.std.proofs.lemmas.List.{take-append-drop}
use Rattle.std.proofs.lemmas.List.Concat.{flat_map-append}
use Rattle.std.proofs.lemmas.List.Elements.{filter-append}
use Rattle.std.specs.Cmp.{first_so, second_so}
use Rattle.std.specs.Cmp.Derive.{both_true}
use Rattle.std.specs.FinMap.{find, keys, entries, same_entries_map}
use Rattle.std.specs.List.{filter, flat_map, prefix_len, starts_with}
use Rattle.std.specs.Ordering.{is_lt}
use Rattle.std.specs.declared.cmp.Ordering.TheVariants.{Less}
use Rattle.iot_text.specs.Paths.{IsBelow, is_below, path_cmp, prefixes}
use Rattle.iot_text.proofs.PathsLaws.{above_first, is_below-of, is_below-tells}
use Rattle.iot_tree.specs.Ancestors.{proper_prefixes}
use Rattle.iot_tree.specs.Place.{AllAfter, IsGap, IsRowAt}
use Rattle.iot_tree.specs.Questions.{is_within}
use Rattle.iot_tree.specs.Rows.{AreTreeRows, Rising, map_of}
use Rattle.iot_tree.specs.Snapshots.{has}
use Rattle.iot_tree.specs.Tree.{Nodes, Path, Row}
use Rattle.iot_tree.specs.declared.nodes.Node.TheVariants.{Dir}
use Rattle.iot_tree.proofs.CountLaws.{own_and_rest, rest_after, rising_drop}
use Rattle.iot_tree.proofs.LeafLaws.{below_of, leaf_in_gap, whole_at}
use Rattle.iot_tree.proofs.EachLaws.{sorted_rows}
use Rattle.iot_tree.proofs.PlaceLaws.{is_less}
use Rattle.iot_tree.proofs.RowLaws.{entries_rows, find_in_gap, get_in_gap, get_rows}
use Rattle.iot_tree.proofs.SnapshotLaws.{prefixes_push}
use Rattle.iot_tree.proofs.WithinLaws.{Inside, IsOutside, Outside, outside_before, outside_found, parts, side, inside, outside}
use Rattle.iot_tree.proofs.WithinLaws.{not_less}
use Rattle.iot_hoard.specs.Choosing.{Taken, IsChoice, take_path, take_paths}
use Rattle.iot_hoard.specs.Picking.{IsPick, by_priority, reached, wished}
use Rattle.iot_hoard.specs.declared.choosing.Choice.{Choice}
use Rattle.iot_tree.specs.declared.profile.Reach.{Reach}
use Rattle.iot_tree.specs.declared.profile.Reach.TheVariants as reaches
use Rattle.iot_tree.specs.declared.profile.Wish.{Wish}
use Rattle.iot_hoard.proofs.TakingLaws.{path_lacking, picked_is, take_both}

abbrev pub paths_of : List Row → List Path
paths_of rows = map (λ (row : Row). row.0) rows

-- a path and those above it are those above it, and then the path
pub prefixes_are : (p : Path) → prefixes p ≡ proper_prefixes p ++ p ∷ []
prefixes_are [] = refl
prefixes_are (name ∷ p) =
    ap (λ (paths : List Path). [] ∷ map (λ (path : Path). name ∷ path) paths) (prefixes_are p)
    ∙ ap (λ (paths : List Path). [] ∷ paths) (map-append (λ (path : Path). name ∷ path) (proper_prefixes p) (p ∷ []))

-- ---- the rows below a path

module _ (p : Path) where
  abbrev below : List Row → List Path
  below rows = filter (λ (path : Path). is_below path p) (paths_of rows)

  not_below : (path : Path) → starts_with bytes_eq path p ≡ false → is_below path p ≡ false
  not_below path is = and_right (nat_lt (length p) (length path)) (starts_with bytes_eq path p) is

  outside_is : (path : Path) → IsOutside p path → starts_with bytes_eq path p ≡ false
  outside_is path out = elim (side p path) [ inside rest is test ↦ absurd (out rest is) | outside away test ↦ test ]

  -- rows that are not at or below the path
  below_none : (rows : List Row) → Outside p rows → below rows ≡ []
  below_none [] out = refl
  below_none (row ∷ rows) out =
      cond-false (is_below row.0 p) (row.0 ∷ below rows) (below rows) (not_below row.0 (outside_is row.0 out.0)) ∙ below_none rows out.1

  -- rows below the path
  below_all_of : (rows : List Row) → Inside p rows → AllAfter p rows → below rows ≡ paths_of rows
  below_all_of [] ins after = refl
  below_all_of (row ∷ rows) ins after =
      cond-true (is_below row.0 p) (row.0 ∷ below rows) (below rows)
      (is_below-of row.0 p (below_of p row.0 ins.0.0 ins.0.1 (is_less (path_cmp p row.0) (first_so _ _ after))))
      ∙ ap (λ (paths : List Path). row.0 ∷ paths) (below_all_of rows ins.1 (second_so (is_lt (path_cmp p row.0)) _ after))

  below_both : (a b : List Row) → below (a ++ b) ≡ below a ++ below b
  below_both a b =
      ap (filter (λ (path : Path). is_below path p)) (map-append (λ (row : Row). row.0) a b)
      ∙ filter-append (λ (path : Path). is_below path p) (paths_of a) (paths_of b)

  after_front : (a b : List Row) → AllAfter p (a ++ b) → AllAfter p a
  after_front [] b after = refl
  after_front (row ∷ a) b after =
      both_true (first_so _ _ after) (after_front a b (second_so (is_lt (path_cmp p row.0)) _ after))

  -- the rows after the path: those below it come first
  below_after : (rows : List Row) → AllAfter p rows → Rising rows → below rows ≡ paths_of (take (prefix_len (is_within p) rows) rows)
  below_after rows after rising =
      let n : ℕ = prefix_len (is_within p) rows in
      let whole : rows ≡ take n rows ++ drop n rows = sym (take-append-drop n rows) in
      let parted = parts p rows after rising in
      ap below whole ∙ below_both (take n rows) (drop n rows)
      ∙ ap (λ (paths : List Path). below (take n rows) ++ paths) (below_none (drop n rows) parted.1)
      ∙ append-nil (below (take n rows))
      ∙ below_all_of (take n rows) parted.0 (after_front (take n rows) (drop n rows) (subst (AllAfter p) whole after))

-- ---- a path among the rows of a tree

module _ (rows : List Row) (all : AreTreeRows rows) (p : Path) where
  keys_are : keys (map_of rows) ≡ paths_of rows
  keys_are = ap paths_of (entries_rows rows all.rising)

  -- the path has a row
  module _ (at : ℕ) (stands : IsRowAt rows p at) where
    begins : drop at rows ≡ get_or rows at ([], Dir) ∷ drop (at + 1) rows
    begins = drop_more rows at ([], Dir) stands.in_range

    own : is_below p p ≡ false
    own = by (is_below p p) refl
      where
        by : (b : Bool) → is_below p p ≡ b → is_below p p ≡ false
        by false is = is
        by true is =
            let found : IsBelow p p = is_below-tells p p is in
            absurd (not_less p (subst (λ (path : Path). path_cmp p path ≡ Less) (sym found.2) (above_first p found.0 found.1)))

    below_row : filter (λ (path : Path). is_below path p) (paths_of rows)
        ≡ paths_of (take (prefix_len (is_within p) (drop (at + 1) rows)) (drop (at + 1) rows))
    below_row =
        let back : List Row = drop (at + 1) rows in
        let row : Row = get_or rows at ([], Dir) in
        let rest : below p (row ∷ back) ≡ below p back =
        cond-false (is_below row.0 p) (row.0 ∷ below p back) (below p back)
        (ap (λ (path : Path). is_below path p) (stands.here ([], Dir)) ∙ own) in
        ap (below p) (whole_at rows all p at stands ([], Dir))
        ∙ below_both p (take at rows) (row ∷ back)
        ∙ ap (λ (paths : List Path). paths ++ below p (row ∷ back))
        (below_none p (take at rows) (outside_before p (take at rows) stands.before))
        ∙ rest
        ∙ below_after p back (rest_after rows all.rising p at stands) (rising_drop (at + 1) rows all.rising)

    -- it alone
    pub row_alone : (n : ℕ) → n ≡ at + 1 → paths_of (take (n - at) (drop at rows)) ≡ p ∷ reached (map_of rows) reaches.Path p
    row_alone n is =
        let one : n - at ≡ 1 = omega (arith, is) in
        (λ i. paths_of (take (one i) (begins i))) ∙ ap (λ (path : Path). path ∷ []) (stands.here ([], Dir))

    -- it and those below it
    pub row_and_below : (n count : ℕ) → n ≡ at + count → count ≡ prefix_len (is_within p) (drop at rows)
        → paths_of (take (n - at) (drop at rows)) ≡ p ∷ reached (map_of rows) reaches.Below p
    row_and_below n count is counts =
        let back : List Row = drop (at + 1) rows in
        let size : n - at ≡ prefix_len (is_within p) back + 1 =
        omega (arith, is, counts, own_and_rest rows all.rising p at stands) in
        (λ i. paths_of (take (size i) (begins i)))
        ∙ take_one (get_or rows at ([], Dir)) back (prefix_len (is_within p) back)
        ∙ (λ i. stands.here ([], Dir) i ∷ sym below_row i)
        ∙ ap (λ (paths : List Path). p ∷ filter (λ (path : Path). is_below path p) paths) (sym keys_are)
      where
        take_one : (row : Row) (back : List Row) (n : ℕ) → paths_of (take (n + 1) (row ∷ back)) ≡ row.0 ∷ paths_of (take n back)
        take_one row back n = rw add-one refl

  -- the path has no row
  module _ (gap : ℕ) (is_gap : IsGap rows p gap) where
    none_found : (rest : Path) → find path_cmp (p ++ rest) rows ≡ None
    none_found [] = ap (λ (path : Path). find path_cmp path rows) (append-nil p) ∙ find_in_gap rows all.rising p gap is_gap
    none_found (name ∷ rest) =
        sym (get_rows rows all.rising (p ++ name ∷ rest)) ∙ leaf_in_gap rows all p gap is_gap (p ++ name ∷ rest) (name, rest, refl)

    none_reached : (reach : Reach) → reached (map_of rows) reach p ≡ []
    none_reached reaches.Path = refl
    none_reached reaches.Below =
        ap (filter (λ (path : Path). is_below path p)) keys_are ∙ below_none p rows (outside_found p rows none_found)

    -- nothing is taken
    pub none_taken : (reach : Reach) (so_far : Taken) → take_paths (map_of rows) (p ∷ reached (map_of rows) reach p) so_far ≡ so_far
    none_taken reach so_far =
        ap (λ (paths : List Path). take_paths (map_of rows) paths (take_path (map_of rows) p so_far)) (none_reached reach)
        ∙ path_lacking (map_of rows) p so_far (get_in_gap rows all.rising p gap is_gap)

  -- the paths of a wish: first those above its path
  pub wish_parts : (wish : Wish) → p ≡ wish.path → (so_far : Taken)
      → take_paths (map_of rows) (p ∷ reached (map_of rows) wish.reach p) (take_paths (map_of rows) (proper_prefixes p) so_far)
      ≡ take_paths (map_of rows) (wished (map_of rows) wish) so_far
  wish_parts wish is so_far =
      sym (take_both (map_of rows) (proper_prefixes p) (p ∷ reached (map_of rows) wish.reach p) so_far)
      ∙ ap (λ (paths : List Path). take_paths (map_of rows) paths so_far) (
      sym (append_assoc (proper_prefixes p) (p ∷ []) (reached (map_of rows) wish.reach p))
      ∙ ap (λ (paths : List Path). paths ++ reached (map_of rows) wish.reach p) (sym (prefixes_are p))
      ∙ ap (λ (path : Path). prefixes path ++ reached (map_of rows) wish.reach path) is
      )

-- ---- steps

-- from the paths above a path to those above one of its own
pub above_more : (s : Nodes) (names : Path) (i : ℕ) (so_far : Taken) → i < length names
    → take_path s (take i names) (take_paths s (proper_prefixes (take i names)) so_far)
    ≡ take_paths s (proper_prefixes (take (i + 1) names)) so_far
above_more s names i so_far lt =
    let name : List ℕ = get_or names i [] in
    sym
    (ap (λ (path : Path). take_paths s (proper_prefixes path) so_far) (take_more names i [] lt)
    ∙ ap (λ (paths : List Path). take_paths s paths so_far) (prefixes_push (take i names) name)
    ∙ take_both s (proper_prefixes (take i names)) (take i names ∷ []) so_far)

-- a row more
pub row_more : (s : Nodes) (rows : List Row) (from at : ℕ) (d : Row) (so_far : Taken) → from ≤ at → at < length rows
    → take_path s (get_or rows at d).0 (take_paths s (paths_of (take (at - from) (drop from rows))) so_far)
    ≡ take_paths s (paths_of (take (at + 1 - from) (drop from rows))) so_far
row_more s rows from at d so_far le lt =
    let n : ℕ = at - from in
    let inside : n < length (drop from rows) = omega (arith, length-drop from rows, le, lt) in
    let size : at + 1 - from ≡ n + 1 = omega (arith, le) in
    let place : from + n ≡ at = omega (arith, le) in
    let row : get_or (drop from rows) n d ≡ get_or rows at d =
    get_or-drop from rows n d ∙ ap (λ (k : ℕ). get_or rows k d) place in
    let longer : paths_of (take (at + 1 - from) (drop from rows)) ≡ paths_of (take n (drop from rows)) ++ (get_or rows at d).0 ∷ [] =
    ap (λ (k : ℕ). paths_of (take k (drop from rows))) size ∙ map_more (λ (row : Row). row.0) (drop from rows) n d inside
    ∙ ap (λ (row : Row). paths_of (take n (drop from rows)) ++ row.0 ∷ []) row in
    sym
    (ap (λ (paths : List Path). take_paths s paths so_far) longer
    ∙ take_both s (paths_of (take n (drop from rows))) ((get_or rows at d).0 ∷ []) so_far)

-- a wish more
pub wish_more : {X : Type 0} (wish_of : X → Wish) (s : Nodes) (wishes : List X) (i : ℕ) (wish : X) (so_far : Taken) → i < length wishes
    → wish ≡ get_or wishes i wish
    → take_paths s (wished s (wish_of wish)) (take_paths s (flat_map (wished s) (map wish_of (take i wishes))) so_far)
    ≡ take_paths s (flat_map (wished s) (map wish_of (take (i + 1) wishes))) so_far
wish_more wish_of s wishes i wish so_far lt is =
    let before : List Wish = map wish_of (take i wishes) in
    let longer : map wish_of (take (i + 1) wishes) ≡ before ++ wish_of wish ∷ [] =
    map_more wish_of wishes i wish lt ∙ ap (λ w. before ++ wish_of w ∷ []) (sym is) in
    let joined : flat_map (wished s) (before ++ wish_of wish ∷ []) ≡ flat_map (wished s) before ++ wished s (wish_of wish) =
    flat_map-append (wished s) before (wish_of wish ∷ [])
    ∙ ap (λ (paths : List Path). flat_map (wished s) before ++ paths) (append-nil (wished s (wish_of wish))) in
    sym
    (ap (λ (wishes : List Wish). take_paths s (flat_map (wished s) wishes) so_far) longer
    ∙ ap (λ (paths : List Path). take_paths s paths so_far) joined
    ∙ take_both s (flat_map (wished s) before) (wished s (wish_of wish)) so_far)

-- ---- what a profile takes

-- a tree is that of its rows
map_back : (s : Nodes) → map_of (entries s) ≡ s
map_back s = same_entries_map _ _ (entries_rows (entries s) (sorted_rows s))

-- the paths that are marked after all wishes are what the profile takes
pub picked_rows : (s : Nodes) (rows : List Row) → rows ≡ entries s → (wishes sorted : List Wish) → sorted ≡ by_priority wishes
    → (limit : ℕ) (choice : Choice) (picked : List Path)
    → IsChoice rows (take_paths (map_of rows) (flat_map (wished (map_of rows)) sorted) (record { paths = []; left = limit })) choice
    → ((so_far : Taken) → IsChoice rows so_far choice → picked ≡ filter (has so_far.paths) (paths_of rows))
    → IsPick s wishes limit picked
picked_rows s rows is wishes sorted in_order limit choice picked stands gives =
    let back : map_of rows ≡ s = ap map_of is ∙ map_back s in
    let start : Taken = record { paths = []; left = limit } in
    picked_is s wishes limit picked
    (gives (take_paths (map_of rows) (flat_map (wished (map_of rows)) sorted) start) stands
    ∙ (λ i. filter (has (take_paths (back i) (flat_map (wished (back i)) (in_order i)) start).paths) (paths_of (is i))))
