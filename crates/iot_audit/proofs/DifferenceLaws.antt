-- Rows in order, of which the first are the same in both lists: where what is found in them first differs.
use Rattle.std.proofs.Common.{◌≡◌, ◌≢◌, ℕ, zero, suc, List, [], ◌∷◌, ◌++◌, take, Option, Some, None, Ordering, cond}
use Rattle.std.proofs.Common.{refl, sym, ap, subst, ◌∙◌, ◌<◌, ◌≤◌, length, Bor}
use Rattle.std.specs.Prelude.{slice_get, if◌then◌else◌, MatchOption}
use Rattle.std.specs.List.{HoldsAt}
use Rattle.std.specs.Option.{option_copied}
use Rattle.std.proofs.lemmas.Option.{same_Some, slice_get_past, slice_get_read}
use Rattle.std.specs.Cmp.Derive.{both_true}
use Rattle.std.specs.FinMap.{find, get, get-entries, entries, entries_sorted, same_entries_map}
use Rattle.std.specs.Ordering.{eq_by_cmp, is_lt, is_gt}
use Rattle.std.specs.declared.cmp.Ordering.TheVariants.{Less, Equal, Greater}
use Rattle.iot_text.specs.Paths.{path_cmp}
use Rattle.iot_text.proofs.PathsLaws.{path_same}
use Rattle.iot_tree.specs.Place.{AllAfter}
use Rattle.iot_tree.specs.Rows.{Rising}
use Rattle.iot_tree.specs.Tree.{Nodes, Path, Row}
use Rattle.iot_tree.proofs.PlaceLaws.{find_after, find_gap, find_middle, front_before, back_after, below_lower, turned}
use Rattle.iot_tree.proofs.RowLaws.{is_tested}
use Rattle.iot_audit.specs.Differences.{DifferFirst, SameLen, earlier}

-- what is found in the rows differs at the path, and at none before it
record FindFirst (rows others : List Row) (path : Path) : Type 0 where
  pub differ : find path_cmp path rows ≢ find path_cmp path others
  pub before : (q : Path) → path_cmp q path ≡ Less → find path_cmp q rows ≡ find path_cmp q others

-- so it does the other way round
flipped : (rows others : List Row) (path : Path) → FindFirst rows others path → FindFirst others rows path
flipped rows others path first = record { differ = λ e. first.differ (sym e); before = λ q lt. sym (first.before q lt) }

-- what comes before the last rows is found among the first alone
find_front : (q : Path) (front back : List Row) → AllAfter q back → find path_cmp q (front ++ back) ≡ find path_cmp q front
find_front q [] back after = find_after q back after
find_front q (row ∷ front) back after = ap (cond (eq_by_cmp path_cmp q row.0) (Some row.1)) (find_front q front back after)

-- what comes before a row comes before those after it too
all_after : (q : Path) (row : Row) (back : List Row) → path_cmp q row.0 ≡ Less → AllAfter row.0 back → AllAfter q (row ∷ back)
all_after q row back lt after = both_true (ap is_lt lt) (below_lower q row.0 back lt after)

-- a row with those after it, in rows in order
module _ (front : List Row) (row : Row) (back : List Row) (rising : Rising (front ++ row ∷ back)) where
  -- what comes before it is found among the rows before it alone
  found_before : (q : Path) → path_cmp q row.0 ≡ Less → find path_cmp q (front ++ row ∷ back) ≡ find path_cmp q front
  found_before q lt = find_front q front (row ∷ back) (all_after q row back lt (back_after front row back rising))

  -- if the others go on after it, it is the first difference
  lacking : (more : List Row) → AllAfter row.0 more → FindFirst (front ++ row ∷ back) (front ++ more) row.0
  lacking more after = record {
    differ = λ e.
        let clash : Some row.1 ≡ None =
        sym (find_middle front row back rising) ∙ e ∙ find_gap row.0 front more (front_before front row back rising) after in
        cc;
    before = λ q lt. found_before q lt ∙ sym (find_front q front more (below_lower q row.0 more lt after));
  }

-- two rows of one path with other nodes are the first difference
changed : (front : List Row) (row other : Row) (back more : List Row) → Rising (front ++ row ∷ back) → Rising (front ++ other ∷ more)
    → row.0 ≡ other.0 → row ≢ other → FindFirst (front ++ row ∷ back) (front ++ other ∷ more) row.0
changed front row other back more rise others_rise same apart = record {
  differ = λ e.
      let nodes : Some row.1 ≡ Some other.1 =
      sym (find_middle front row back rise) ∙ e ∙ ap (λ (q : Path). find path_cmp q (front ++ other ∷ more)) same
      ∙ find_middle front other more others_rise in
      let node : row.1 ≡ other.1 = same_Some row.1 other.1 nodes in
      apart (λ i. (same i, node i));
  before = λ q lt.
      found_before front row back rise q lt
      ∙ sym (found_before front other more others_rise q (subst (λ (p : Path). path_cmp q p ≡ Less) same lt));
}

-- of two rows that are not the same, the lesser path is the first difference
module _ (front : List Row) (row other : Row) (back more : List Row) (rise : Rising (front ++ row ∷ back))
    (others_rise : Rising (front ++ other ∷ more)) (apart : row ≢ other) where
  unlike : (c : Ordering) → path_cmp row.0 other.0 ≡ c
      → FindFirst (front ++ row ∷ back) (front ++ other ∷ more) (if is_gt c then other.0 else row.0)
  unlike Less is = lacking front row back rise (other ∷ more) (all_after row.0 other more is (back_after front other more others_rise))
  unlike Equal is = changed front row other back more rise others_rise (path_same row.0 other.0 is) apart
  unlike Greater is =
      flipped _ _ other.0
      (lacking front other more others_rise (row ∷ back)
      (all_after other.0 row back (turned other.0 row.0 Greater is) (back_after front row back rise)))

-- the rows begin with these, and go on with this row, if there is one
abbrev Next : List Row → List Row → Option Row → Type 0
Next front rows None = rows ≡ front ++ []
Next front rows (Some row) = (back : List Row) × (rows ≡ front ++ row ∷ back)

-- so they do with a row more in front
one_more : (row : Row) (front rows : List Row) (next : Option Row) → Next front rows next → Next (row ∷ front) (row ∷ rows) next
one_more row front rows None whole = ap (λ (all : List Row). row ∷ all) whole
one_more row front rows (Some at) whole = (whole.0, ap (λ (all : List Row). row ∷ all) whole.1)

-- rows go on, after the first of them, with the row at that place
next_of : (rows : List Row) (len : ℕ) → Next (take len rows) rows (slice_get rows len)
next_of [] zero = refl
next_of [] (suc len) = refl
next_of (row ∷ rows) zero = (rows, refl)
next_of (row ∷ rows) (suc len) = one_more row (take len rows) rows (slice_get rows len) (next_of rows len)

-- what a look-up by place gives is the row there, if there is one
pub looked_up : (rows : List Row) (at : ℕ) (found : Option (Bor Row))
    → MatchOption found (length rows ≤ at) (λ row. (at < length rows) × HoldsAt (λ here. row.now ≡ here) rows at)
    → option_copied found ≡ slice_get rows at
looked_up rows at None past = sym (slice_get_past rows at past)
looked_up rows at (Some row) is = sym (slice_get_read rows (length rows) at row.now refl is.0 (is.1 row.now))

-- the first difference of lists that are these
of_these : (rows a others b : List Row) (path p : Path) → rows ≡ a → others ≡ b → p ≡ path → FindFirst a b p → FindFirst rows others path
of_these rows a others b path p is others_are same first =
    subst (λ (x : List Row). FindFirst x others path) (sym is)
    (subst (λ (y : List Row). FindFirst a y path) (sym others_are) (subst (λ (q : Path). FindFirst a b q) same first))

-- two lists that begin with the same rows, and how each goes on
module _ (front rows others : List Row) where
  -- where the one list ends and the other does not, or both go on with rows that are not the same
  first_by : Rising rows → Rising others → (next after : Option Row) → (next ≡ after → next ≡ None) → Next front rows next
      → Next front others after → (path : Path) → earlier next after ≡ Some path → FindFirst rows others path
  first_by rise others_rise None None apart here there path is = absurd cc
  first_by rise others_rise None (Some other) apart here there path is =
      of_these rows (front ++ []) others (front ++ other ∷ there.0) path other.0 here there.1 (same_Some other.0 path is)
      (flipped _ _ other.0 (lacking front other there.0 (subst Rising there.1 others_rise) [] refl))
  first_by rise others_rise (Some row) None apart here there path is =
      of_these rows (front ++ row ∷ here.0) others (front ++ []) path row.0 here.1 there (same_Some row.0 path is)
      (lacking front row here.0 (subst Rising here.1 rise) [] refl)
  first_by rise others_rise (Some row) (Some other) apart here there path is =
      of_these rows (front ++ row ∷ here.0) others (front ++ other ∷ there.0) path _ here.1 there.1 (same_Some _ path is)
      (unlike front row other here.0 there.0 (subst Rising here.1 rise) (subst Rising there.1 others_rise)
      (λ same. let clash : Some row ≡ None = apart (ap Some same) in cc) (path_cmp row.0 other.0) refl)

  -- where both end
  same_by : (next after : Option Row) → Next front rows next → Next front others after → earlier next after ≡ None → rows ≡ others
  same_by None None here there is = here ∙ sym there
  same_by None (Some other) here there is = absurd cc
  same_by (Some row) None here there is = absurd cc
  same_by (Some row) (Some other) here there is = absurd cc

-- two trees, whose first rows are the same
module _ (t u : Nodes) (rows others : List Row) (len : ℕ) (is : rows ≡ entries t) (others_are : others ≡ entries u)
    (same : SameLen rows others len) where
  -- both are in order
  rise : Rising rows
  rise = subst Rising (sym is) (is_tested _ (entries_sorted t))

  others_rise : Rising others
  others_rise = subst Rising (sym others_are) (is_tested _ (entries_sorted u))

  -- the others go on after the same rows
  next_too : Next (take len rows) others (slice_get others len)
  next_too = subst (λ (front : List Row). Next front others (slice_get others len)) (sym same.same) (next_of others len)

  -- what is found in the rows is what the tree has
  finds : (q : Path) → get t q ≡ find path_cmp q rows
  finds q = get-entries t q ∙ ap (find path_cmp q) (sym is)

  others_find : (q : Path) → get u q ≡ find path_cmp q others
  others_find q = get-entries u q ∙ ap (find path_cmp q) (sym others_are)

  module _ (next after : Option Row) (next_is : next ≡ slice_get rows len) (after_is : after ≡ slice_get others len) where
    -- the earlier path is that of the rows at this place
    earlier_is : (first : Option Path) → first ≡ earlier next after → earlier (slice_get rows len) (slice_get others len) ≡ first
    earlier_is first is = (λ i. earlier (sym next_is i) (sym after_is i)) ∙ sym is

    -- the earlier of the next rows' paths is where they differ first
    pub differ_first : (path : Path) → Some path ≡ earlier next after → DifferFirst t u path
    differ_first path is =
        let first : FindFirst rows others path =
        first_by (take len rows) rows others rise others_rise (slice_get rows len) (slice_get others len) same.apart (next_of rows len)
        next_too path (earlier_is (Some path) is) in
        record {
          differ = λ e. first.differ (sym (finds path) ∙ e ∙ others_find path);
          before = λ q lt. finds q ∙ first.before q lt ∙ sym (others_find q);
        }

    -- if there are no next rows, they are the same tree
    pub same_tree : None ≡ earlier next after → t ≡ u
    same_tree none =
        let same_rows : rows ≡ others =
        same_by (take len rows) rows others (slice_get rows len) (slice_get others len) (next_of rows len) next_too
        (earlier_is None none) in
        same_entries_map t u (sym is ∙ same_rows ∙ others_are)
