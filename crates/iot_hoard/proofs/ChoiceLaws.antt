-- Marks beside the rows of a tree.
use Rattle.std.proofs.Common.{◌≡◌, ℕ, ◌+◌, ◌-◌, ◌<◌, ◌≤◌, Bool, true, false, ◌||◌, List, [], ◌∷◌, ◌++◌, Option, Some, length, take, drop}
use Rattle.std.proofs.Common.{get_or, set, map, sym, ap, subst, ◌∙◌, arith, inl, inr}
use Rattle.std.proofs.lemmas.Bool.{cases_lt, cases_eq, cond-true, cond-false, or_left}
use Rattle.std.proofs.lemmas.List.{append-nil, drop_more, get_or-set_same, get_or-set_other, get_or_default, map_more, take-append-drop}
use Rattle.std.proofs.lemmas.List.Elements.{filter-append}
use Rattle.std.specs.FinMap.{get}
use Rattle.std.specs.List.{filter}
use Rattle.std.specs.Ordering.{eq_by_cmp, is_eq}
use Rattle.std.specs.declared.cmp.Ordering.TheVariants.{Less}
use Rattle.iot_text.specs.Paths.{path_cmp}
use Rattle.iot_tree.specs.Rows.{AreTreeRows, Rising, map_of}
use Rattle.iot_tree.specs.Snapshots.{has}
use Rattle.iot_tree.specs.Tree.{Path, Row}
use Rattle.iot_tree.specs.declared.nodes.Node.{Node}
use Rattle.iot_tree.proofs.PlaceLaws.{rows_rise, tied}
use Rattle.iot_tree.proofs.RowLaws.{get_middle}
use Rattle.iot_tree.proofs.TreeLaws.{apart}
use Rattle.iot_tree.proofs.WithinLaws.{not_less}
use Rattle.iot_hoard.specs.Choosing.{Taken, IsChoice, take_path}
use Rattle.iot_hoard.specs.Sizes.{bytes_in, weight}
use Rattle.iot_hoard.specs.declared.choosing.Choice.{Choice}
use Rattle.iot_hoard.proofs.TakingLaws.{path_passed, path_fits, path_ends}

-- A row of a tree.
module _ (rows : List Row) (all : AreTreeRows rows) (at : ℕ) (lt : at < length rows) (d : Row) where
  abbrev path : Path
  path = (get_or rows at d).0

  here : get (map_of rows) path ≡ Some (get_or rows at d).1
  here =
      let whole : rows ≡ take at rows ++ get_or rows at d ∷ drop (at + 1) rows =
      sym (take-append-drop at rows) ∙ ap (λ (back : List Row). take at rows ++ back) (drop_more rows at d lt) in
      subst (λ (list : List Row). get (map_of list) path ≡ Some (get_or rows at d).1) (sym whole)
      (get_middle (take at rows) (get_or rows at d) (drop (at + 1) rows) (subst Rising whole all.rising))

  -- another row has another path
  differs : (k : ℕ) → k < length rows → (k ≡ at → ⊥) → eq_by_cmp path_cmp (get_or rows k d).0 path ≡ false
  differs k in_range other = elim (cases_lt k at) [
    | inl before ↦ ap is_eq (rows_rise rows all.rising k at d before lt)
    | inr after ↦
        apart (get_or rows k d).0 path
        (λ is. not_less path
        (subst (λ (p : Path). path_cmp path p ≡ Less) is (rows_rise rows all.rising at k d (omega (arith, other, after)) in_range)))
  ]

  -- its mark is set
  set_mark : (marks : List Bool) (paths : List Path) → length marks ≡ length rows
      → ((k : ℕ) (e : Row) → k < length rows → get_or marks k false ≡ has paths (get_or rows k e).0)
      → (k : ℕ) (e : Row) → k < length rows → get_or (set marks at true) k false ≡ has (path ∷ paths) (get_or rows k e).0
  set_mark marks paths long same k e in_range = elim (cases_eq k at) [
    | inl is ↦
        let row : get_or rows at d ≡ get_or rows k e = get_or_default rows at d e lt ∙ ap (λ n. get_or rows n e) (sym is) in
        ap (λ n. get_or (set marks at true) n false) is
        ∙ get_or-set_same marks at true false (omega (arith, lt, long))
        ∙ sym
        (or_left (eq_by_cmp path_cmp (get_or rows k e).0 path) (has paths (get_or rows k e).0)
        (ap is_eq (tied (get_or rows k e).0 path (ap (λ (row : Row). row.0) row))))
    | inr other ↦
        let apart_is : eq_by_cmp path_cmp (get_or rows k e).0 path ≡ false =
        ap (λ (row : Row). eq_by_cmp path_cmp row.0 path) (get_or_default rows k e d in_range) ∙ differs k in_range other in
        get_or-set_other marks at k true false other ∙ same k e in_range
        ∙ ap (λ b. b || has paths (get_or rows k e).0) (sym apart_is)
  ]

  module _ (so_far : Taken) (old : Choice) (is : IsChoice rows so_far old) where
    -- it is taken already
    pub row_passed : get_or old.taken.items at false ≡ true → IsChoice rows (take_path (map_of rows) path so_far) old
    row_passed marked =
        subst (λ (taken : Taken). IsChoice rows taken old)
        (sym (path_passed (map_of rows) path so_far (sym (is.marks at d lt) ∙ marked))) is

    module _ (fresh : get_or old.taken.items at false ≡ false) (w : ℕ) (weighs : w ≡ 64 + bytes_in (Some (get_or rows at d).1))
        (new : Choice) where
      new_path : has so_far.paths path ≡ false
      new_path = sym (is.marks at d lt) ∙ fresh

      weight_is : weight (map_of rows) path ≡ w
      weight_is = ap (λ (o : Option Node). 64 + bytes_in o) here ∙ sym weighs

      -- it is taken
      pub row_taken : length old.taken.items ≡ length rows → w ≤ old.left → new.taken.items ≡ set old.taken.items at true
          → new.left ≡ old.left - w → IsChoice rows (take_path (map_of rows) path so_far) new
      row_taken long fits marks left =
          let next : Taken = record { paths = path ∷ so_far.paths; left = so_far.left - weight (map_of rows) path } in
          let after : IsChoice rows next new = record {
            marks = λ k e in_range. ap (λ (m : List Bool). get_or m k false) marks
                ∙ set_mark old.taken.items so_far.paths long is.marks k e in_range;
            left = left ∙ (λ i. is.left i - sym weight_is i);
          } in
          subst (λ (taken : Taken). IsChoice rows taken new)
          (sym
          (path_fits (map_of rows) path so_far (get_or rows at d).1 here new_path (omega (arith, fits, weight_is, is.left))))
          after

      -- it does not fit
      pub row_ends : old.left < w → new.taken.items ≡ old.taken.items → new.left ≡ 0
          → IsChoice rows (take_path (map_of rows) path so_far) new
      row_ends heavy marks left =
          let next : Taken = record { paths = so_far.paths; left = 0 } in
          let after : IsChoice rows next new = record {
            marks = λ k e in_range. ap (λ (m : List Bool). get_or m k false) marks ∙ is.marks k e in_range;
            left = left;
          } in
          subst (λ (taken : Taken). IsChoice rows taken new)
          (sym
          (path_ends (map_of rows) path so_far (get_or rows at d).1 here new_path (omega (arith, heavy, weight_is, is.left))))
          after

-- ---- the paths of the rows that are marked

-- a mark as it is read
pub mark_read : (marks : List Bool) (at : ℕ) (b : Bool) → at < length marks → b ≡ get_or marks at b → get_or marks at false ≡ b
mark_read marks at b lt is = get_or_default marks at false b lt ∙ sym is

-- it tells whether the path of its row is taken
pub row_marked : (rows : List Row) (so_far : Taken) (choice : Choice) → IsChoice rows so_far choice → (i : ℕ) (row : Row) → i < length rows
    → row ≡ get_or rows i row → (b : Bool) → length choice.taken.items ≡ length rows → b ≡ get_or choice.taken.items i b
    → has so_far.paths row.0 ≡ b
row_marked rows so_far choice stands i row lt is b long read =
    ap (λ (row : Row). has so_far.paths row.0) is ∙ sym (stands.marks i row lt)
    ∙ mark_read choice.taken.items i b (omega (arith, lt, long)) read

module _ (rows : List Row) (test : Path → Bool) (i : ℕ) (row : Row) (lt : i < length rows) (is : row ≡ get_or rows i row) (out : List Path)
    (so_far : out ≡ filter test (map (λ (row : Row). row.0) (take i rows))) where
  more : filter test (map (λ (row : Row). row.0) (take (i + 1) rows)) ≡ out ++ filter test (row.0 ∷ [])
  more =
      ap (filter test) (map_more (λ (row : Row). row.0) rows i row lt)
      ∙ filter-append test (map (λ (row : Row). row.0) (take i rows)) ((get_or rows i row).0 ∷ [])
      ∙ (λ j. sym so_far j ++ filter test ((sym is j).0 ∷ []))

  pub path_out : (put : Path) (new : List Path) → test row.0 ≡ true → put ≡ row.0 → new ≡ out ++ put ∷ []
      → new ≡ filter test (map (λ (row : Row). row.0) (take (i + 1) rows))
  path_out put new here same pushed =
      pushed ∙ ap (λ (p : Path). out ++ p ∷ []) same
      ∙ ap (λ (list : List Path). out ++ list) (sym (cond-true (test row.0) (row.0 ∷ []) [] here)) ∙ sym more

  pub path_left : test row.0 ≡ false → out ≡ filter test (map (λ (row : Row). row.0) (take (i + 1) rows))
  path_left here =
      sym (append-nil out) ∙ ap (λ (list : List Path). out ++ list) (sym (cond-false (test row.0) (row.0 ∷ []) [] here)) ∙ sym more
