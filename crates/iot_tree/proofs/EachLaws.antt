-- What holds of each row of a tree: of the rows of its list, and of what it has at a path.
use Rattle.std.proofs.Common.{◌≡◌, Bool, true, false, cond, List, [], ◌∷◌, map, Option, Some, None, refl, sym, ap, subst, ◌∙◌}
use Rattle.std.proofs.lemmas.Option.{same_Some, none-some}
use Rattle.std.specs.List.{AllByRecursion}
use Rattle.std.specs.Cmp.{tied_itself, first_so, second_so}
use Rattle.std.specs.Ordering.{is_eq, eq_by_cmp}
use Rattle.std.specs.FinMap.{get, find, insert, remove, entries, entries_sorted, get-entries, get-insert, get-remove, get-from_entries}
use Rattle.std.specs.FinMap.{is_sorted}
use Rattle.std.specs.FinMap.Entries.{below_all}
use Rattle.iot_text.specs.Paths.{path_cmp}
use Rattle.iot_text.proofs.PathsLaws.{path_total}
use Rattle.iot_tree.specs.Tree.{Path, Row, Nodes}
use Rattle.iot_tree.specs.Rows.{Rising}
use Rattle.iot_tree.specs.Place.{AllAfter}
use Rattle.iot_tree.specs.Updates.{renamed, renamed_row, moved, with_mode, mode_set}
use Rattle.iot_tree.specs.declared.nodes.Mode.{Mode}
use Rattle.iot_tree.specs.declared.nodes.Node.{Node}
use Rattle.iot_tree.proofs.PathLaws.{tied}
use Rattle.iot_tree.proofs.PlaceLaws.{find_after}
use Rattle.iot_tree.proofs.RowLaws.{is_tested}

-- the rows of a tree are in order
pub sorted_rows : (t : Nodes) → Rising (entries t)
sorted_rows t = is_tested _ (entries_sorted t)

module _ (Q : Path → Node → Type 0) where
  -- of each row of the list
  abbrev pub EachRow : List Row → Type 0
  EachRow rows = AllByRecursion (λ (row : Row). Q row.0 row.1) rows

  -- of each row of the tree
  abbrev pub EachNode : Nodes → Type 0
  EachNode t = (path : Path) (node : Node) → get t path ≡ Some node → Q path node

  at_key : (key path : Path) (node found : Node) → eq_by_cmp path_cmp key path ≡ true → Q path node → Some node ≡ Some found → Q key found
  at_key key path node found tie here is =
      subst (λ (node : Node). Q key node) (same_Some _ _ is) (subst (λ (path : Path). Q path node) (sym (tied key path tie)) here)

  found_by : (key path : Path) (test : Bool) (node found : Node) (later : Option Node) → eq_by_cmp path_cmp key path ≡ test → Q path node →
      (later ≡ Some found → Q key found) → cond test (Some node) later ≡ Some found → Q key found
  found_by key path true node found later tie here rest is = at_key key path node found tie here is
  found_by key path false node found later tie here rest is = rest is

  -- what is found is a row of the list
  pub found_row : (rows : List Row) → EachRow rows → (key : Path) (found : Node) → find path_cmp key rows ≡ Some found → Q key found
  found_row [] each key found is = absurd (none-some _ is)
  found_row (row ∷ rows) each key found is =
      found_by key row.0 (eq_by_cmp path_cmp key row.0) row.1 found (find path_cmp key rows) refl each.0 (found_row rows each.1 key found)
      is

  -- what is found after a row in order is found with it
  found_after : (row : Row) (rows : List Row) → AllAfter row.0 rows → (key : Path) (test : Bool) (node : Node) →
      eq_by_cmp path_cmp key row.0 ≡ test → find path_cmp key rows ≡ Some node → cond test (Some row.1) (find path_cmp key rows) ≡ Some node
  found_after row rows below key true node tie found =
      absurd
      (none-some _
      (sym (find_after row.0 rows below) ∙ ap (λ (path : Path). find path_cmp path rows) (sym (tied key row.0 tie)) ∙ found))
  found_after row rows below key false node tie found = found

  -- rows in order, each of which is found
  pub rows_found : (rows : List Row) → Rising rows →
      ((path : Path) (node : Node) → find path_cmp path rows ≡ Some node → Q path node) → EachRow rows
  rows_found [] rising each = tt
  rows_found (row ∷ rows) rising each =
      let below : AllAfter row.0 rows = first_so (below_all path_cmp row.0 rows) (is_sorted path_cmp rows) rising in (
        each row.0 row.1 (ap (λ c. cond (is_eq c) (Some row.1) (find path_cmp row.0 rows)) (tied_itself path_total row.0)),
        rows_found rows (second_so (below_all path_cmp row.0 rows) (is_sorted path_cmp rows) rising) (λ path node found.
            each path node (found_after row rows below path (eq_by_cmp path_cmp path row.0) node refl found)),
      )

  pub each_entry : (t : Nodes) → EachNode t → EachRow (entries t)
  each_entry t each = rows_found (entries t) (sorted_rows t) (λ path node found. each path node (get-entries t path ∙ found))

  -- ---- after an update

  pub each_inserted : (t : Nodes) (path : Path) (node : Node) → EachNode t → Q path node → EachNode (insert t path node)
  each_inserted t path node each here key found is =
      found_by key path (eq_by_cmp path_cmp key path) node found (get t key) refl here (each key found)
      (sym (get-insert path_total t path node key) ∙ is)

  -- a file gets another mode
  pub each_moded : (mode : Mode) → ((path : Path) (node : Node) → Q path node → Q path (with_mode mode node)) → (t : Nodes) (p : Path)
      → EachNode t → EachNode (mode_set t p mode (get t p))
  each_moded mode keeps t p each = by (get t p) refl
    where
      by : (o : Option Node) → get t p ≡ o → EachNode (mode_set t p mode o)
      by None none = each
      by (Some node) some = each_inserted t p (with_mode mode node) each (keeps p node (each p node some))

  rest_by : (key : Path) (test : Bool) (found : Node) (o : Option Node) → (o ≡ Some found → Q key found) → cond test None o ≡ Some found
      → Q key found
  rest_by key true found o each is = absurd (none-some _ is)
  rest_by key false found o each is = each is

  pub each_removed : (t : Nodes) (path : Path) → EachNode t → EachNode (remove t path)
  each_removed t path each key found is =
      rest_by key (eq_by_cmp path_cmp key path) found (get t key) (each key found) (sym (get-remove path_total t path key) ∙ is)

  module _ (from to : Path) (renames : (path : Path) (node : Node) → Q path node → Q (renamed from to path) node) where
    rows_renamed : (rows : List Row) → EachRow rows → EachRow (map (renamed_row from to) rows)
    rows_renamed [] each = tt
    rows_renamed (row ∷ rows) each = (renames row.0 row.1 each.0, rows_renamed rows each.1)

    pub each_moved : (t : Nodes) → EachNode t → EachNode (moved t from to)
    each_moved t each key found is =
        let others : List Row = entries (remove t to) in
        found_row (map (renamed_row from to) others) (rows_renamed others (each_entry (remove t to) (each_removed t to each))) key found
        (sym (get-from_entries path_total (map (renamed_row from to) others) key) ∙ is)
