-- Trees and their rows.
use Rattle.std.proofs.Common.{◌≡◌, ℕ, List, [], ◌∷◌, ◌++◌, refl, sym, ap, ◌∙◌, ◌+◌, Bool, true, false, IsTrue, Some, None, length, take}
use Rattle.std.proofs.Common.{drop, get_or, ◌≢◌, ◌⊎◌, IsSome, Option, Result, subst, inl, inr, set}
use Rattle.std.proofs.lemmas.List.{drop_more, take-append-drop, take-set, drop-set}
use Rattle.std.specs.FinMap.{find, get, insert, entries, get-from_sorted, entries-from_sorted, entries-insert, same_entries_map, empty}
use Rattle.std.specs.FinMap.{empty_of_len, len-entries}
use Rattle.std.specs.FinMap.Entries.{put, is_sorted-put}
use lib.Dec.{T}
use Rattle.iot_text.specs.Paths.{path_cmp}
use Rattle.iot_text.proofs.PathsLaws.{path_total}
use Rattle.iot_tree.specs.Place.{IsRowAt, IsGap, IsPlace}
use Rattle.iot_tree.specs.Questions.{is_dir}
use Rattle.iot_tree.specs.Rows.{Rising, map_of, AreTreeRows}
use Rattle.iot_tree.specs.Tree.{Path, Row, Nodes, root_alone, parent_node, IsTree}
use Rattle.iot_tree.specs.declared.nodes.Node.{Node}
use Rattle.iot_tree.specs.declared.nodes.Node.TheVariants.{Dir, File, FarDir, FarFile}
use Rattle.iot_tree.proofs.PlaceLaws.{find_gap, find_at, put_gap, put_at, find_middle}
use Rattle.iot_tree.proofs.TreeLaws.{tree_insert}

-- a test that is true, in the form that the map's lemmas take
pub tested : (b : Bool) → IsTrue b → T b
tested true h = tt
tested false h = absurd cc

-- and back
pub is_tested : (b : Bool) → T b → IsTrue b
is_tested true h = refl
is_tested false h = absurd h

module _ (rows : List Row) (rising : Rising rows) where
  -- what the map of rows in order has at a path
  pub get_rows : (q : Path) → get (map_of rows) q ≡ find path_cmp q rows
  get_rows q = get-from_sorted path_cmp rows q (tested _ rising)

  -- its rows are these
  pub entries_rows : entries (map_of rows) ≡ rows
  entries_rows = entries-from_sorted path_cmp rows (tested _ rising)

  -- a place among them is one among the rows of their tree, and the other way round
  pub place_in_tree : (t : Nodes) → map_of rows ≡ t → (p : Path) (place : Result ℕ ℕ) → IsPlace rows p place → IsPlace (entries t) p place
  place_in_tree t is p place = subst (λ (rows : List Row). IsPlace rows p place) (sym (ap entries (sym is) ∙ entries_rows))

  pub place_in_rows : (t : Nodes) → map_of rows ≡ t → (p : Path) (place : Result ℕ ℕ) → IsPlace (entries t) p place → IsPlace rows p place
  place_in_rows t is p place = subst (λ (rows : List Row). IsPlace rows p place) (ap entries (sym is) ∙ entries_rows)

  -- a row put among rows in order leaves them in order
  pub put_rising : (p : Path) (node : Node) → Rising (put path_cmp p node rows)
  put_rising p node = is_tested _ (is_sorted-put path_cmp path_total p node rows (tested _ rising))

  -- and is an insert into their map
  pub put_inserts : (p : Path) (node : Node) → map_of (put path_cmp p node rows) ≡ insert (map_of rows) p node
  put_inserts p node = same_entries_map _ _ (
      entries-from_sorted path_cmp (put path_cmp p node rows) (tested _ (put_rising p node))
      ∙ sym (entries-insert path_total (map_of rows) p node ∙ ap (put path_cmp p node) entries_rows))

-- a row's path has its node in the map
pub get_middle : (front : List Row) (row : Row) (back : List Row) → Rising (front ++ row ∷ back)
    → get (map_of (front ++ row ∷ back)) row.0 ≡ Some row.1
get_middle front row back rising = get_rows (front ++ row ∷ back) rising row.0 ∙ find_middle front row back rising

same_node : (a b : Node) → Some a ≡ Some b → a ≡ b
same_node a b is = cc

pub one_of_two : (o : Option Node) (a b : Node) → o ≡ Some a → o ≡ Some b → a ≡ b
one_of_two o a b first second = same_node a b (sym first ∙ second)

-- What the map of rows has at a path that has a row, and at one that has none.
module _ (rows : List Row) (rising : Rising rows) (p : Path) (at : ℕ) where
  pub find_in_gap : IsGap rows p at → find path_cmp p rows ≡ None
  find_in_gap gap = ap (find path_cmp p) (sym (take-append-drop at rows)) ∙ find_gap p (take at rows) (drop at rows) gap.before gap.after

  pub find_here : IsRowAt rows p at → (d : Row) → find path_cmp p rows ≡ Some (get_or rows at d).1
  find_here stands d =
      let whole : rows ≡ take at rows ++ get_or rows at d ∷ drop (at + 1) rows =
      sym (take-append-drop at rows) ∙ ap (λ (back : List Row). take at rows ++ back) (drop_more rows at d stands.in_range) in
      ap (find path_cmp p) whole ∙ find_at p (take at rows) (get_or rows at d) (drop (at + 1) rows) stands.before (stands.here d)

  pub get_in_gap : IsGap rows p at → get (map_of rows) p ≡ None
  get_in_gap gap = get_rows rows rising p ∙ find_in_gap gap

  pub get_here : IsRowAt rows p at → (d : Row) → get (map_of rows) p ≡ Some (get_or rows at d).1
  get_here stands d = get_rows rows rising p ∙ find_here stands d

-- Putting a row among the rows of a tree.
module _ (rows : List Row) (all : AreTreeRows rows) (p : Path) (node : Node) where
  -- the new rows are those of a tree
  pub put_tree : parent_node (map_of rows) p ≡ Some Dir → get (map_of rows) p ≢ Some Dir → AreTreeRows (put path_cmp p node rows)
  put_tree parent no_dir = record {
    rising = put_rising rows all.rising p node;
    tree = subst IsTree (sym (put_inserts rows all.rising p node)) (tree_insert (map_of rows) all.tree p node parent no_dir);
  }

  -- a row that is there gets the node
  pub put_here : (at : ℕ) → IsRowAt rows p at → (d : Row) → set rows at ((get_or rows at d).0, node) ≡ put path_cmp p node rows
  put_here at stands d =
      let written : set rows at ((get_or rows at d).0, node) ≡ take at rows ++ ((get_or rows at d).0, node) ∷ drop (at + 1) rows =
      sym (take-append-drop at (set rows at ((get_or rows at d).0, node)))
      ∙ rw (take-set rows at ((get_or rows at d).0, node), drop-set rows at ((get_or rows at d).0, node) stands.in_range) refl in
      let whole : rows ≡ take at rows ++ get_or rows at d ∷ drop (at + 1) rows =
      sym (take-append-drop at rows) ∙ ap (λ (back : List Row). take at rows ++ back) (drop_more rows at d stands.in_range) in
      written
      ∙ sym
      (ap (put path_cmp p node) whole
      ∙ put_at p node (take at rows) (get_or rows at d) (drop (at + 1) rows) stands.before (stands.here d))

  -- a new row goes into the gap
  pub put_in_gap : (gap : ℕ) → IsGap rows p gap → take gap rows ++ (p, node) ∷ drop gap rows ≡ put path_cmp p node rows
  put_in_gap gap is_gap =
      sym
      (ap (put path_cmp p node) (sym (take-append-drop gap rows))
      ∙ put_gap p node (take gap rows) (drop gap rows) is_gap.before is_gap.after)

root_is_dir : (node : Node) → IsTrue (is_dir node) → (Some node ≡ Some Dir) ⊎ (Some node ≡ Some FarDir)
root_is_dir Dir is = inl refl
root_is_dir (File bytes mode) is = absurd cc
root_is_dir FarDir is = inr refl
root_is_dir (FarFile mode) is = absurd cc

root_parents : (node : Node) (p : Path) → p ≢ [] → IsSome (find path_cmp p (([], node) ∷ []))
    → parent_node (map_of (([], node) ∷ [])) p ≡ Some Dir
root_parents node [] below mapped = absurd (below refl)
root_parents node (name ∷ rest) below mapped = absurd cc

-- a root alone is a tree
pub root_rows : (node : Node) → IsTrue (is_dir node) → AreTreeRows (([], node) ∷ [])
root_rows node is = record {
  rising = refl;
  tree = record {
    root = rw (get_rows (([], node) ∷ []) refl []) (root_is_dir node is);
    parents = λ p below mapped. root_parents node p below (subst IsSome (get_rows (([], node) ∷ []) refl p) mapped);
  };
}

-- and it is the map that has only a root
pub root_map : (node : Node) → map_of (([], node) ∷ []) ≡ root_alone node
root_map node =
    let none : map_of [] ≡ empty = empty_of_len _ (len-entries _ ∙ ap length (entries_rows [] refl)) in
    put_inserts [] refl [] node ∙ ap (λ (t : Nodes). insert t [] node) none
