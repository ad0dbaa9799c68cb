-- Rows without one of them.
use Rattle.std.proofs.Common.{◌≡◌, List, [], ◌∷◌, ◌++◌, refl, sym, ap, ◌∙◌, Bool, true, false, None, ◌≢◌, cond, Option, subst, not}
use Rattle.std.proofs.lemmas.List.Elements.{filter-append}
use Rattle.std.specs.Cmp.{tied_itself, eq_by_cmp_equiv, first_so, second_so}
use Rattle.std.specs.FinMap.{find, entries, same_entries_map, entries_sorted, remove, get-remove, get-entries}
use Rattle.std.specs.FinMap.Entries.{is_sorted-where_key, find-where_key, same_entries}
use Rattle.std.specs.Ordering.{is_lt, eq_by_cmp, is_eq}
use Rattle.std.specs.declared.cmp.Ordering.TheVariants.{Less}
use Rattle.iot_text.specs.Paths.{path_cmp}
use Rattle.iot_text.proofs.PathsLaws.{path_same, path_total}
use Rattle.iot_tree.specs.Place.{AllBefore, AllAfter, without}
use Rattle.iot_tree.specs.Rows.{Rising, map_of}
use Rattle.iot_tree.specs.Tree.{Path, Row}
use Rattle.iot_tree.specs.declared.nodes.Node.{Node}
use Rattle.iot_tree.proofs.PlaceLaws.{is_less}
use Rattle.iot_tree.proofs.RowLaws.{tested, is_tested, get_rows, entries_rows}
use Rattle.iot_tree.proofs.TreeLaws.{apart}
use Rattle.iot_tree.proofs.WithinLaws.{IsOutside, Inside, Outside, not_less}

module _ (q : Path) where
  keep : (row : Row) (rows : List Row) → row.0 ≢ q → without q (row ∷ rows) ≡ row ∷ without q rows
  keep row rows differ = ap (λ b. cond (not b) (row ∷ without q rows) (without q rows)) (apart q row.0 (λ is. differ (sym is)))

  leave : (row : Row) (rows : List Row) → row.0 ≡ q → without q (row ∷ rows) ≡ without q rows
  leave row rows is =
      ap (λ b. cond (not b) (row ∷ without q rows) (without q rows)) (ap is_eq (ap (path_cmp q) is ∙ tied_itself path_total q))

  pub without_before : (rows : List Row) → AllBefore q rows → without q rows ≡ rows
  without_before [] before = refl
  without_before (row ∷ rows) before =
      keep row rows (λ is. not_less q (subst (λ (path : Path). path_cmp path q ≡ Less) is before.0))
      ∙ ap (λ (rest : List Row). row ∷ rest) (without_before rows before.1)

  pub without_behind : (rows : List Row) → AllAfter q rows → without q rows ≡ rows
  without_behind [] below = refl
  without_behind (row ∷ rows) below =
      keep row rows (λ is. not_less q (subst (λ (path : Path). path_cmp q path ≡ Less) is (is_less _ (first_so _ _ below))))
      ∙ ap (λ (rest : List Row). row ∷ rest) (without_behind rows (second_so (is_lt (path_cmp q row.0)) _ below))

  pub without_inside : (p : Path) (rows : List Row) → IsOutside p q → Inside p rows → without q rows ≡ rows
  without_inside p [] out ins = refl
  without_inside p (row ∷ rows) out ins =
      keep row rows (λ is. out ins.0.0 (sym is ∙ ins.0.1)) ∙ ap (λ (rest : List Row). row ∷ rest) (without_inside p rows out ins.1)

  pub without_join : (a b : List Row) → without q (a ++ b) ≡ without q a ++ without q b
  without_join a b = filter-append (λ (row : Row). not (eq_by_cmp path_cmp q row.0)) a b

  pub without_gap : (a b : List Row) → AllBefore q a → AllAfter q b → without q (a ++ b) ≡ a ++ b
  without_gap a b before below = without_join a b ∙ (λ i. without_before a before i ++ without_behind b below i)

  pub without_at : (a : List Row) (row : Row) (b : List Row) → AllBefore q a → row.0 ≡ q → AllAfter q b → without q (a ++ row ∷ b) ≡ a ++ b
  without_at a row b before is below =
      without_join a (row ∷ b) ∙ (λ i. without_before a before i ++ (leave row b is ∙ without_behind b below) i)

  outside_by : (p : Path) (c : Bool) (row : Row) (rows : List Row) → IsOutside p row.0 → Outside p rows
      → Outside p (cond c (row ∷ rows) rows)
  outside_by p true row rows here rest = (here, rest)
  outside_by p false row rows here rest = rest

  pub outside_without : (p : Path) (rows : List Row) → Outside p rows → Outside p (without q rows)
  outside_without p [] out = tt
  outside_without p (row ∷ rows) out =
      outside_by p (not (eq_by_cmp path_cmp q row.0)) row (without q rows) out.0 (outside_without p rows out.1)

  turned : (c : Bool) (o : Option Node) → cond (not c) o None ≡ cond c None o
  turned true o = refl
  turned false o = refl

  pub find_without : (k : Path) (rows : List Row)
      → find path_cmp k (without q rows) ≡ cond (eq_by_cmp path_cmp k q) None (find path_cmp k rows)
  find_without k rows =
      find-where_key path_cmp (λ (path : Path). not (eq_by_cmp path_cmp q path)) k
      (λ x tied. ap (λ (path : Path). not (eq_by_cmp path_cmp q path)) (sym (path_same k x tied))) rows
      ∙ turned (eq_by_cmp path_cmp q k) (find path_cmp k rows)
      ∙ ap (λ b. cond b None (find path_cmp k rows)) ((eq_by_cmp_equiv path_total).symm q k)

  pub find_other : (k : Path) (rows : List Row) → k ≢ q → find path_cmp k (without q rows) ≡ find path_cmp k rows
  find_other k rows differ = find_without k rows ∙ ap (λ b. cond b None (find path_cmp k rows)) (apart k q differ)

  pub find_left_out : (rows : List Row) → find path_cmp q (without q rows) ≡ None
  find_left_out rows = find_without q rows ∙ ap (λ b. cond b None (find path_cmp q rows)) (ap is_eq (tied_itself path_total q))

  module _ (rows : List Row) (rising : Rising rows) where
    pub sorted_without : Rising (without q rows)
    sorted_without = is_tested _ (is_sorted-where_key path_cmp (λ (path : Path). not (eq_by_cmp path_cmp q path)) rows (tested _ rising))

    -- the rows of the map without q
    pub entries_without : entries (remove (map_of rows) q) ≡ without q rows
    entries_without =
        same_entries path_cmp path_total path_same _ _ (entries_sorted (remove (map_of rows) q)) (tested _ sorted_without) (λ k.
        sym (get-entries (remove (map_of rows) q) k) ∙ get-remove path_total (map_of rows) q k
        ∙ ap (cond (eq_by_cmp path_cmp k q) None) (get_rows rows rising k) ∙ sym (find_without k rows))

    -- and their map
    pub remove_is : map_of (without q rows) ≡ remove (map_of rows) q
    remove_is = same_entries_map _ _ (entries_rows (without q rows) sorted_without ∙ sym entries_without)
