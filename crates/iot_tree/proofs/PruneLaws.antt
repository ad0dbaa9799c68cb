-- What is in a tree that is cut down to known paths, and what it answers.
use Rattle.std.proofs.Common.{◌≡◌, ◌⊎◌, ℕ, ◌+◌, ◌==◌, Bool, true, false, cond, ◌&&◌, ◌||◌, IsSome, List, [], ◌∷◌, ◌++◌, Option}
use Rattle.std.proofs.Common.{Some, None, option_map, option_and_then, length, length-append, drop, refl, sym, ap, subst, ◌∙◌, inl, inr}
use Rattle.std.proofs.Common.{arith}
use borrow.Author.Tests.{eqb-true}
use Rattle.std.specs.Cmp.{tied_itself, first_so, second_so}
use Rattle.std.specs.Cmp.Derive.{both_true}
use Rattle.std.specs.FinMap.{get, entries, entries_sorted, get-entries, find}
use Rattle.std.specs.FinMap.Entries.{below_all}
use Rattle.std.specs.List.{cons_option, filter_map}
use Rattle.std.specs.Ordering.{is_lt, eq_by_cmp, is_eq}
use Rattle.iot_text.specs.Paths.{path_cmp, parent_of}
use Rattle.iot_text.proofs.PathsLaws.{parent_of-push, path_total}
use Rattle.iot_tree.specs.Place.{AllAfter}
use Rattle.iot_tree.specs.Questions.{is_far_dir, is_far_above, node_kind, kind_answer, content_answer, names_answer, mode_answer, is_child}
use Rattle.iot_tree.specs.Questions.{child_of, children_of}
use Rattle.iot_tree.specs.Rows.{Rising, AreTreeRows}
use Rattle.iot_tree.specs.Snapshots.{seen, is_reached, cut_rows, prune, AnswersOrAway}
use Rattle.iot_tree.specs.Tree.{Path, Row, Nodes, IsTree}
use Rattle.iot_tree.specs.declared.nodes.Node.{Node}
use Rattle.iot_tree.specs.declared.nodes.Node.TheVariants.{Dir, File, FarDir, FarFile}
use Rattle.iot_tree.specs.declared.questions.Answer.TheVariants.{Away, Names}
use Rattle.iot_tree.specs.declared.questions.Question.TheVariants as asks
use Rattle.iot_tree.proofs.AncestorLaws.{ends, at_root, in_name}
use Rattle.iot_tree.proofs.RowLaws.{is_tested, get_rows, entries_rows}
use Rattle.iot_tree.proofs.SnapshotLaws.{by_names, all_push, any_push}
use Rattle.iot_tree.proofs.TreeLaws.{same_or_apart, ancestors, no_far_above, none_some}
use Rattle.iot_tree.proofs.WithinLaws.{test_is}

-- ---- the rows that are left

module _ (k : Path → Bool) where
  -- the row, if it is reached
  abbrev left : Bool → Row → Option Row
  left reached row = cond reached (Some (row.0, seen (k row.0) row.1)) None

  below_cut : (p : Path) (rows : List Row) → AllAfter p rows → AllAfter p (cut_rows k rows)
  below_cut p [] after = refl
  below_cut p (row ∷ rows) after =
      let rest = below_cut p rows (second_so (is_lt (path_cmp p row.0)) _ after) in
      elim (is_reached k row.0) as (λ b. AllAfter p (cons_option (left b row) (cut_rows k rows))) [
        | true ↦ both_true (first_so _ _ after) rest
        | false ↦ rest
      ]

  cut_rising : (rows : List Row) → Rising rows → Rising (cut_rows k rows)
  cut_rising [] rising = refl
  cut_rising (row ∷ rows) rising =
      let rest = cut_rising rows (second_so (below_all path_cmp row.0 rows) _ rising) in
      elim (is_reached k row.0) as (λ b. Rising (cons_option (left b row) (cut_rows k rows))) [
        | true ↦ both_true (below_cut row.0 rows (first_so _ _ rising)) rest
        | false ↦ rest
      ]

  -- what of a path's row is left
  abbrev left_at : Path → Option Node → Option Node
  left_at q o = cond (is_reached k q) (option_map (seen (k q)) o) None

  find_cut : (q : Path) (rows : List Row) → find path_cmp q (cut_rows k rows) ≡ left_at q (find path_cmp q rows)
  find_cut q [] = none (is_reached k q)
    where
      none : (b : Bool) → None ≡ cond b (option_map (seen (k q)) None) None
      none true = refl
      none false = refl
  find_cut q (row ∷ rows) = elim (same_or_apart q row.0) [
    | inl here ↦
        let rest =
        subst (λ (path : Path). find path_cmp path (cut_rows k rows) ≡ left_at path (find path_cmp path rows)) here (find_cut q rows) in
        subst (λ (path : Path). find path_cmp path (cut_rows k (row ∷ rows)) ≡ left_at path (find path_cmp path (row ∷ rows))) (sym here)
        (at_row (is_reached k row.0) refl rest)
    | inr away ↦ rw away (elsewhere away (is_reached k row.0) (find_cut q rows))
  ]
    where
      tie : eq_by_cmp path_cmp row.0 row.0 ≡ true
      tie = ap is_eq (tied_itself path_total row.0)

      at_row : (b : Bool) → is_reached k row.0 ≡ b → find path_cmp row.0 (cut_rows k rows) ≡ left_at row.0 (find path_cmp row.0 rows)
          → find path_cmp row.0 (cut_rows k (row ∷ rows)) ≡ left_at row.0 (find path_cmp row.0 (row ∷ rows))
      at_row true is rest = rw (is, tie) refl
      at_row false is rest = rw is (rest ∙ ap (λ b. cond b (option_map (seen (k row.0)) (find path_cmp row.0 rows)) None) is)

      elsewhere : eq_by_cmp path_cmp q row.0 ≡ false → (b : Bool) → find path_cmp q (cut_rows k rows) ≡ left_at q (find path_cmp q rows)
          → find path_cmp q (cons_option (left b row) (cut_rows k rows)) ≡ left_at q (find path_cmp q rows)
      elsewhere away true rest = rw away rest
      elsewhere away false rest = rest

-- ---- the tree that is left

module _ (s : Nodes) (k : Path → Bool) where
  rising : Rising (cut_rows k (entries s))
  rising = cut_rising k (entries s) (is_tested _ (entries_sorted s))

  -- its rows
  pub entries_pruned : entries (prune s k) ≡ cut_rows k (entries s)
  entries_pruned = entries_rows _ rising

  -- what is at a path: the row of s or its far form if all paths above are among k, else nothing
  pub get_pruned : (q : Path) → get (prune s k) q ≡ left_at k q (get s q)
  get_pruned q = get_rows _ rising q ∙ find_cut k q (entries s) ∙ ap (left_at k q) (sym (get-entries s q))

  get_reached : (q : Path) → is_reached k q ≡ true → get (prune s k) q ≡ option_map (seen (k q)) (get s q)
  get_reached q is = get_pruned q ∙ ap (λ b. cond b (option_map (seen (k q)) (get s q)) None) is

  get_hidden : (q : Path) → is_reached k q ≡ false → get (prune s k) q ≡ None
  get_hidden q is = get_pruned q ∙ ap (λ b. cond b (option_map (seen (k q)) (get s q)) None) is

  -- a row that is left is reached, and stands in s
  from_row : (q : Path) → IsSome (get (prune s k) q) → (is_reached k q ≡ true) × IsSome (get s q)
  from_row q mapped = by (is_reached k q) refl (get s q) refl
    where
      by : (b : Bool) → is_reached k q ≡ b → (o : Option Node) → get s q ≡ o → (is_reached k q ≡ true) × IsSome (get s q)
      by true reached (Some node) here = (reached, rw here refl)
      by true reached None here = absurd (none_some _ (get_reached q reached ∙ ap (option_map (seen (k q))) here) mapped)
      by false hidden o here = absurd (none_some _ (get_hidden q hidden) mapped)

  module _ (tree : IsTree s) where
    known_above : (q : Path) (name : List ℕ) → IsSome (get s (q ++ name ∷ [])) → get s q ≡ Some Dir
    known_above q name mapped = ancestors s tree q name [] mapped

    root_seen : (b : Bool) → (get s [] ≡ Some Dir) ⊎ (get s [] ≡ Some FarDir)
        → (option_map (seen b) (get s []) ≡ Some Dir) ⊎ (option_map (seen b) (get s []) ≡ Some FarDir)
    root_seen true (inl is) = inl (rw is refl)
    root_seen true (inr is) = inr (rw is refl)
    root_seen false (inl is) = inr (rw is refl)
    root_seen false (inr is) = inr (rw is refl)

    -- it is a tree
    pub pruned_tree : IsTree (prune s k)
    pruned_tree = record {
      root = rw (get_reached [] refl) (root_seen (k []) tree.root);
      parents = λ p below mapped. elim (ends p) [
        | at_root is ↦ absurd (below is)
        | in_name q name is ↦
            let row = from_row p mapped in
            let open_here : (is_reached k q && k q) ≡ true = sym (all_push k q name) ∙ ap (is_reached k) (sym is) ∙ row.0 in
            let known : get s q ≡ Some Dir = known_above q name (subst (λ (path : Path). IsSome (get s path)) is row.1) in
            ap (option_and_then (get (prune s k))) (ap parent_of is ∙ parent_of-push q name)
            ∙ get_reached q (first_so _ _ open_here)
            ∙ (λ i. option_map (seen (second_so (is_reached k q) _ open_here i)) (known i))
      ];
    }

    -- and its rows are those of a tree
    pub pruned_rows : AreTreeRows (cut_rows k (entries s))
    pruned_rows = record { rising = rising; tree = pruned_tree }

    far_push : (q : Path) (name : List ℕ) → (is_far_above (prune s k) q ≡ true) ⊎ (is_far_dir (get (prune s k) q) ≡ true)
        → is_far_above (prune s k) (q ++ name ∷ []) ≡ true
    far_push q name far_here = any_push (λ above. is_far_dir (get (prune s k) above)) q name ∙ either _ _ far_here
      where
        either : (a b : Bool) → (a ≡ true) ⊎ (b ≡ true) → (a || b) ≡ true
        either true b is = refl
        either false b (inl is) = absurd cc
        either false b (inr is) = is

    -- a row of s that is not left has a far directory above
    far_above_hidden : (p : Path) → IsSome (get s p) → is_reached k p ≡ false → is_far_above (prune s k) p ≡ true
    far_above_hidden = by_names (λ p. IsSome (get s p) → is_reached k p ≡ false → is_far_above (prune s k) p ≡ true)
        (λ mapped hidden. absurd cc)
        (λ q name above mapped hidden.
        let known = known_above q name mapped in
        far_push q name (by q known (is_reached k q) refl (k q) refl (above (rw known refl)) (sym (all_push k q name) ∙ hidden)))
      where
        by : (q : Path) → get s q ≡ Some Dir → (b : Bool) → is_reached k q ≡ b → (here : Bool) → k q ≡ here
            → (is_reached k q ≡ false → is_far_above (prune s k) q ≡ true) → (is_reached k q && k q) ≡ false
            → (is_far_above (prune s k) q ≡ true) ⊎ (is_far_dir (get (prune s k) q) ≡ true)
        by q known false is here knows above hidden = inl (above is)
        by q known true is true knows above hidden = let never : true ≡ false = sym (λ i. is i && knows i) ∙ hidden in absurd cc
        by q known true is false knows above hidden = inr (rw (get_reached q is, known, knows) refl)

    -- what has a far directory above in s has one in what is left
    far_above_stays : (p : Path) → is_far_above s p ≡ true → is_far_above (prune s k) p ≡ true
    far_above_stays = by_names (λ p. is_far_above s p ≡ true → is_far_above (prune s k) p ≡ true)
        (λ far_here. absurd cc)
        (λ q name above far_here.
        far_push q name
        (by q (is_far_above s q) refl above (get s q) refl (sym (any_push (λ path. is_far_dir (get s path)) q name) ∙ far_here)))
      where
        at_far : (q : Path) → get s q ≡ Some FarDir → (b : Bool) → is_reached k q ≡ b
            → (is_far_above (prune s k) q ≡ true) ⊎ (is_far_dir (get (prune s k) q) ≡ true)
        at_far q here true is = inr (rw (get_reached q is, here) (still (k q)))
          where
            still : (b : Bool) → is_far_dir (Some (seen b FarDir)) ≡ true
            still true = refl
            still false = refl
        at_far q here false is = inl (far_above_hidden q (rw here refl) is)

        far_row : (o : Option Node) → is_far_dir o ≡ true → o ≡ Some FarDir
        far_row None is = absurd cc
        far_row (Some Dir) is = absurd cc
        far_row (Some (File bytes mode)) is = absurd cc
        far_row (Some FarDir) is = refl
        far_row (Some (FarFile mode)) is = absurd cc

        by : (q : Path) (b : Bool) → is_far_above s q ≡ b → (is_far_above s q ≡ true → is_far_above (prune s k) q ≡ true)
            → (o : Option Node) → get s q ≡ o
            → (is_far_above s q || is_far_dir (get s q)) ≡ true
            → (is_far_above (prune s k) q ≡ true) ⊎ (is_far_dir (get (prune s k) q) ≡ true)
        by q true is above o here either = inl (above is)
        by q false is above o here either =
            at_far q (far_row (get s q) (sym (ap (λ b. b || is_far_dir (get s q)) is) ∙ either)) (is_reached k q) refl

-- ---- what it answers

-- an object has its kind, whether its inside is seen or not
pub seen_kind : (b : Bool) (node : Node) → node_kind (seen b node) ≡ node_kind node
seen_kind true node = refl
seen_kind false Dir = refl
seen_kind false (File bytes mode) = refl
seen_kind false FarDir = refl
seen_kind false (FarFile mode) = refl

-- and a file its mode
seen_mode : (b : Bool) (node : Node) → mode_answer (Some (seen b node)) false ≡ mode_answer (Some node) false
seen_mode true node = refl
seen_mode false Dir = refl
seen_mode false (File bytes mode) = refl
seen_mode false FarDir = refl
seen_mode false (FarFile mode) = refl

one_name : (p rest path : Path) → path ≡ p ++ rest → length path ≡ length p + 1 → (name : List ℕ) × (path ≡ p ++ name ∷ [])
one_name p [] path is long = absurd (omega (arith, ap length is, length-append p []))
one_name p (name ∷ []) path is long = (name, is)
one_name p (name ∷ next ∷ rest) path is long = absurd (omega (arith, ap length is, length-append p (name ∷ next ∷ rest)))

-- a child of a path has a name more
pub child_is : (p path : Path) → is_child p path ≡ true → (name : List ℕ) × (path ≡ p ++ name ∷ [])
child_is p path is =
    one_name p (drop (length p) path) path ((test_is p path).0 (second_so (length path == length p + 1) _ is))
    (eqb-true (length path) (length p + 1) (first_so (length path == length p + 1) _ is))

-- the children of a known path that is reached
module _ (k : Path → Bool) (p : Path) (open_here : (is_reached k p && k p) ≡ true) where
  same_child : (row : Row) → option_and_then (child_of p) (left k (is_reached k row.0) row) ≡ child_of p row
  same_child row = by (is_child p row.0) refl (is_reached k row.0) refl
    where
      by : (child : Bool) → is_child p row.0 ≡ child → (b : Bool) → is_reached k row.0 ≡ b
          → option_and_then (child_of p) (left k (is_reached k row.0) row) ≡ child_of p row
      by child is true reached = rw (reached, seen_kind (k row.0) row.1) refl
      by false is false hidden = rw (hidden, is) refl
      by true is false hidden =
          let found = child_is p row.0 is in
          let never : true ≡ false = sym open_here ∙ sym (all_push k p found.0) ∙ ap (is_reached k) (sym found.1) ∙ hidden in
          absurd cc

  children_cut : (rows : List Row) → filter_map (child_of p) (cut_rows k rows) ≡ filter_map (child_of p) rows
  children_cut [] = refl
  children_cut (row ∷ rows) = by (left k (is_reached k row.0) row) (same_child row) (children_cut rows)
    where
      by : (o : Option Row) → option_and_then (child_of p) o ≡ child_of p row
          → filter_map (child_of p) (cut_rows k rows) ≡ filter_map (child_of p) rows
          → filter_map (child_of p) (cons_option o (cut_rows k rows)) ≡ cons_option (child_of p row) (filter_map (child_of p) rows)
      by None is rest = λ i. cons_option (is i) (rest i)
      by (Some other) is rest = λ i. cons_option (is i) (rest i)

  children_kept : (s : Nodes) → children_of (prune s k) p ≡ children_of s p
  children_kept s = ap (filter_map (child_of p)) (entries_pruned s k) ∙ children_cut (entries s)

module _ (s : Nodes) (k : Path → Bool) (tree : IsTree s) where
  -- a path shows nothing of either tree, is away, or shows its object
  data Shows (p : Path) : Type 0 where
    neither : get s p ≡ None → get (prune s k) p ≡ None → is_far_above s p ≡ false → is_far_above (prune s k) p ≡ false → Shows p
    away : get (prune s k) p ≡ None → is_far_above (prune s k) p ≡ true → Shows p
    shown : (node : Node) → get s p ≡ Some node → is_reached k p ≡ true → get (prune s k) p ≡ Some (seen (k p) node)
        → is_far_above s p ≡ false → is_far_above (prune s k) p ≡ false → Shows p

  shows : (p : Path) → Shows p
  shows p = by (get s p) refl (is_reached k p) refl
    where
      none_left : (b : Bool) → is_reached k p ≡ b → get s p ≡ None → get (prune s k) p ≡ None
      none_left true reached is = get_reached s k p reached ∙ ap (option_map (seen (k p))) is
      none_left false hidden is = get_hidden s k p hidden

      nothing : get s p ≡ None → (a b : Bool) → is_far_above s p ≡ a → is_far_above (prune s k) p ≡ b → Shows p
      nothing is a true above below = away (none_left (is_reached k p) refl is) below
      nothing is false false above below = neither is (none_left (is_reached k p) refl is) above below
      nothing is true false above below = let never : true ≡ false = sym (far_above_stays s k tree p above) ∙ below in absurd cc

      by : (o : Option Node) → get s p ≡ o → (b : Bool) → is_reached k p ≡ b → Shows p
      by None is b reached = nothing is (is_far_above s p) (is_far_above (prune s k) p) refl refl
      by (Some node) is false hidden = away (get_hidden s k p hidden) (far_above_hidden s k tree p (rw is refl) hidden)
      by (Some node) is true reached =
          let left_here : get (prune s k) p ≡ Some (seen (k p) node) = get_reached s k p reached ∙ ap (option_map (seen (k p))) is in
          shown node is reached left_here (no_far_above s tree p (rw is refl))
          (no_far_above (prune s k) (pruned_tree s k tree) p (rw left_here refl))

  -- it answers each question as the tree does, or away
  pub answers_or_away : AnswersOrAway s (prune s k)
  answers_or_away (asks.Kind p) = elim (shows p) [
    | neither is left_is above below ↦ inl (rw (is, left_is, above, below) refl)
    | away is below ↦ inr (rw (is, below) refl)
    | shown node is reached left_is above below ↦ inl (rw (is, left_is) (ap kind_answer (seen_kind (k p) node)))
  ]
  answers_or_away (asks.Content p) = elim (shows p) [
    | neither is left_is above below ↦ inl (rw (is, left_is, above, below) refl)
    | away is below ↦ inr (rw (is, below) refl)
    | shown node is reached left_is above below ↦ rw (is, left_is, above, below) (by (k p) node)
  ]
    where
      by : (b : Bool) (node : Node)
          → (content_answer (Some (seen b node)) false ≡ content_answer (Some node) false)
          ⊎ (content_answer (Some (seen b node)) false ≡ Away)
      by true node = inl refl
      by false Dir = inl refl
      by false (File bytes mode) = inr refl
      by false FarDir = inl refl
      by false (FarFile mode) = inr refl
  answers_or_away (asks.Names p) = elim (shows p) [
    | neither is left_is above below ↦ inl (rw (is, left_is, above, below) refl)
    | away is below ↦ inr (rw (is, below) refl)
    | shown node is reached left_is above below ↦ rw (is, left_is, above, below) (by (k p) refl node reached)
  ]
    where
      by : (b : Bool) → k p ≡ b → (node : Node) → is_reached k p ≡ true
          → (names_answer (Some (seen b node)) false (children_of (prune s k) p) ≡ names_answer (Some node) false (children_of s p))
          ⊎ (names_answer (Some (seen b node)) false (children_of (prune s k) p) ≡ Away)
      by true knows Dir reached = inl (ap Names (children_kept k p (λ i. both_here i) s))
        where
          both_here : (is_reached k p && k p) ≡ true
          both_here = λ i. reached i && knows i
      by true knows (File bytes mode) reached = inl refl
      by true knows FarDir reached = inl refl
      by true knows (FarFile mode) reached = inl refl
      by false knows Dir reached = inr refl
      by false knows (File bytes mode) reached = inl refl
      by false knows FarDir reached = inr refl
      by false knows (FarFile mode) reached = inl refl
  answers_or_away (asks.Mode p) = elim (shows p) [
    | neither is left_is above below ↦ inl (rw (is, left_is, above, below) refl)
    | away is below ↦ inr (rw (is, below) refl)
    | shown node is reached left_is above below ↦ inl (rw (is, left_is, above, below) (seen_mode (k p) node))
  ]
