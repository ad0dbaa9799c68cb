-- A path without a row has a far directory above it only in the last row before its gap.
use Rattle.std.proofs.Common.{◌≡◌, ℕ, List, [], ◌∷◌, ◌++◌, refl, sym, ap, ◌∙◌, ◌+◌, ◌<◌, Bool, true, false, Some, None, length, take, drop}
use Rattle.std.proofs.Common.{get_or, arith, IsSome, Option, append_assoc, subst, ◌-◌, nat_eq}
use Rattle.std.proofs.lemmas.List.{append-nil, take_more, take-append-drop}
use Rattle.std.proofs.lemmas.Slice.Eq.{starts_is}
use Rattle.std.specs.Cmp.{tied_itself}
use Rattle.std.specs.Cmp.Lexicographic.{pointwise, bytes_decides}
use Rattle.std.specs.FinMap.{find, get}
use Rattle.std.specs.List.{starts_with}
use Rattle.std.specs.declared.cmp.Ordering.TheVariants.{Less, Equal}
use Rattle.iot_text.specs.Paths.{path_cmp}
use Rattle.iot_text.proofs.PathsLaws.{above_first, between, path_total}
use Rattle.iot_tree.specs.Place.{AllBefore, AllAfter, IsGap}
use Rattle.iot_tree.specs.Questions.{is_far_dir, is_far_above}
use Rattle.iot_tree.specs.Rows.{map_of, AreTreeRows}
use Rattle.iot_tree.specs.Tree.{Path, Row}
use Rattle.iot_tree.specs.declared.nodes.Node.{Node}
use Rattle.iot_tree.specs.declared.nodes.Node.TheVariants.{Dir, File, FarDir, FarFile}
use Rattle.iot_tree.proofs.AncestorLaws.{any_above, none_above}
use Rattle.iot_tree.proofs.PathLaws.{order, lower, same, higher}
use Rattle.iot_tree.proofs.PlaceLaws.{find_gap, below_lower, before_higher, front_before, before_push, last_before}
use Rattle.iot_tree.proofs.RowLaws.{get_rows, get_middle, one_of_two}
use Rattle.iot_tree.proofs.TreeLaws.{none_not_some, ancestors}

dir_not_far : Dir ≡ FarDir → ⊥
dir_not_far is = cc

not_far : (o : Option Node) → (o ≡ Some FarDir → ⊥) → is_far_dir o ≡ false
not_far None no_far = refl
not_far (Some Dir) no_far = refl
not_far (Some (File bytes mode)) no_far = refl
not_far (Some FarDir) no_far = absurd (no_far refl)
not_far (Some (FarFile mode)) no_far = refl

far_node : (node : Node) → is_far_dir (Some node) ≡ true → node ≡ FarDir
far_node Dir is = absurd cc
far_node (File bytes mode) is = absurd cc
far_node FarDir is = refl
far_node (FarFile mode) is = absurd cc

-- A path without a row, and the rows before and after its gap. A far directory above it is the last row before the gap.
module _ (front : List Row) (row : Row) (back : List Row) (rows : AreTreeRows (front ++ row ∷ back)) (p : Path)
    (before : path_cmp row.0 p ≡ Less) (after : AllAfter p back) where
  higher_not_found : (q : Path) → path_cmp q p ≡ Less → path_cmp row.0 q ≡ Less → find path_cmp q (front ++ row ∷ back) ≡ None
  higher_not_found q below lt =
      let all = before_push q front row (before_higher row.0 q front lt (front_before front row back rows.rising)) lt in
      ap (find path_cmp q) (sym (append_assoc front (row ∷ []) back))
      ∙ find_gap q (front ++ row ∷ []) back all (below_lower q p back below after)

  far_is_last : (q : Path) (name : List ℕ) (rest : Path) → p ≡ q ++ name ∷ rest → get (map_of (front ++ row ∷ back)) q ≡ Some FarDir
      → (row.0 ≡ q) × (row.1 ≡ FarDir)
  far_is_last q name rest is far = elim (order q row.0) [
    | lower lt ↦
        let found = between q row.0 (name ∷ rest) lt (subst (λ (path : Path). path_cmp row.0 path ≡ Less) is before) in
        let here = get_middle front row back rows.rising in
        let mapped : IsSome (get (map_of (front ++ row ∷ back)) (q ++ found.0 ∷ found.1)) =
        subst (λ (path : Path). IsSome (get (map_of (front ++ row ∷ back)) path)) found.2 (rw here refl) in
        absurd (dir_not_far (one_of_two _ Dir FarDir (ancestors (map_of (front ++ row ∷ back)) rows.tree q found.0 found.1 mapped) far))
    | same here ↦ (
      sym here,
      one_of_two _ row.1 FarDir (get_middle front row back rows.rising)
          (subst (λ (path : Path). get (map_of (front ++ row ∷ back)) path ≡ Some FarDir) here far),
    )
    | higher lt ↦
        let below : path_cmp q p ≡ Less = subst (λ (path : Path). path_cmp q path ≡ Less) (sym is) (above_first q name rest) in
        absurd (none_not_some _ FarDir (get_rows (front ++ row ∷ back) rows.rising q ∙ higher_not_found q below lt) far)
  ]

  -- without a far directory before the gap there is none above
  pub no_far_last : is_far_dir (Some row.1) ≡ false → is_far_above (map_of (front ++ row ∷ back)) p ≡ false
  no_far_last no_far = none_above _ p (λ q name rest is. not_far _ (λ far.
      let last = far_is_last q name rest is far in
      let never : is_far_dir (Some FarDir) ≡ false = subst (λ (node : Node). is_far_dir (Some node) ≡ false) last.1 no_far in cc))

  far_begins : get (map_of (front ++ row ∷ back)) row.0 ≡ Some FarDir → (rest : Path) → p ≡ row.0 ++ rest
      → is_far_above (map_of (front ++ row ∷ back)) p ≡ true
  far_begins here [] is =
      let never : Less ≡ Equal = sym before ∙ ap (path_cmp row.0) (is ∙ append-nil row.0) ∙ tied_itself path_total row.0 in cc
  far_begins here (name ∷ rest) is =
      subst (λ (path : Path). is_far_above (map_of (front ++ row ∷ back)) path ≡ true) (sym is)
      (any_above (λ above. is_far_dir (get (map_of (front ++ row ∷ back)) above)) row.0 name rest (ap is_far_dir here))

  -- with one, the answer is whether it is above
  pub far_last : is_far_dir (Some row.1) ≡ true → (b : Bool) → (b ≡ true → p ≡ row.0 ++ drop (length row.0) p)
      → ((rest : Path) → p ≡ row.0 ++ rest → b ≡ true) → is_far_above (map_of (front ++ row ∷ back)) p ≡ b
  far_last far true begins begun =
      far_begins (get_middle front row back rows.rising ∙ ap (λ (node : Node). Some node) (far_node row.1 far)) (drop (length row.0) p)
      (begins refl)
  far_last far false begins begun = none_above _ p (λ q name rest is. not_far _ (λ found.
      let last = far_is_last q name rest is found in
      let never : false ≡ true = begun (name ∷ rest) (subst (λ (path : Path). p ≡ path ++ name ∷ rest) (sym last.0) is) in cc))

-- The same of rows that are cut by a place.
module _ (rows : List Row) (all : AreTreeRows rows) (p : Path) (gap : ℕ) (is_gap : IsGap rows p gap) where
  -- before the first row there is none
  pub no_far_first : gap ≡ 0 → is_far_above (map_of rows) p ≡ false
  no_far_first first = none_above _ p (λ q name rest is. not_far _ (λ far.
      let after : AllAfter p rows = subst (λ (n : ℕ). AllAfter p (drop n rows)) first is_gap.after in
      let below : path_cmp q p ≡ Less = subst (λ (path : Path). path_cmp q path ≡ Less) (sym is) (above_first q name rest) in
      none_not_some _ FarDir (get_rows rows all.rising q ∙ find_gap q [] rows tt (below_lower q p rows below after)) far))

  module _ (later : 0 < gap) (row : Row) (here : row ≡ get_or rows (gap - 1) row) where
    front_is : take gap rows ≡ take (gap - 1) rows ++ row ∷ []
    front_is = subst (λ (n : ℕ). take n rows ≡ take (gap - 1) rows ++ row ∷ []) {x = gap - 1 + 1} {y = gap} (omega arith)
        (take_more rows (gap - 1) row (omega (arith, is_gap.in_range)) ∙ ap (λ (r : Row). take (gap - 1) rows ++ r ∷ []) (sym here))

    rows_are : take (gap - 1) rows ++ row ∷ drop gap rows ≡ rows
    rows_are =
        sym (append_assoc (take (gap - 1) rows) (row ∷ []) (drop gap rows))
        ∙ ap (λ (front : List Row). front ++ drop gap rows) (sym front_is) ∙ take-append-drop gap rows

    row_before : path_cmp row.0 p ≡ Less
    row_before = last_before p (take (gap - 1) rows) row (subst (AllBefore p) front_is is_gap.before)

    parts : AreTreeRows (take (gap - 1) rows ++ row ∷ drop gap rows)
    parts = subst AreTreeRows (sym rows_are) all

    -- if the last row before the gap is no far directory, none is above
    pub no_far_before : is_far_dir (Some row.1) ≡ false → is_far_above (map_of rows) p ≡ false
    no_far_before no_far = subst (λ (rows : List Row). is_far_above (map_of rows) p ≡ false) rows_are
        (no_far_last (take (gap - 1) rows) row (drop gap rows) parts p row_before is_gap.after no_far)

    -- if it is one, a far directory is above exactly if it is
    pub far_before : is_far_dir (Some row.1) ≡ true → (b : Bool) → b ≡ starts_with (pointwise nat_eq) p row.0
        → is_far_above (map_of rows) p ≡ b
    far_before far b tests =
        let both = starts_is bytes_decides p row.0 b tests in
        subst (λ (rows : List Row). is_far_above (map_of rows) p ≡ b) rows_are
        (far_last (take (gap - 1) rows) row (drop gap rows) parts p row_before is_gap.after far b both.0 both.1)
