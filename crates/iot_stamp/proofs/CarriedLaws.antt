-- Stamps that move with their rows.
use Rattle.std.proofs.Common.{◌≡◌, ℕ, zero, suc, ◌+◌, ◌<◌, ◌≤◌, Bool, false, cond, ◌||◌, List, [], ◌∷◌, ◌++◌, map, Some, None, length}
use Rattle.std.proofs.Common.{Option, Result, Ok, Err, is_ok, is_some, take, drop, get_or, set}
use Rattle.std.proofs.Common.{◌-◌, bytes_eq, append_assoc, length-append, refl, sym, ap, subst, ◌∙◌, arith}
use Rattle.std.proofs.Math.Seq.{take-append_seam, drop-append_seam, take-length}
use Rattle.std.proofs.lemmas.List.{append-nil, length-map, length-take-le, take-append-drop, drop_more, take_more}
use Rattle.std.proofs.lemmas.List.Sums.{prefix_len-le-length}
use Rattle.std.specs.Cmp.{first_so, second_so}
use Rattle.std.specs.Cmp.Derive.{both_true}
use Rattle.std.specs.FinMap.{get, find, entries}
use Rattle.std.specs.FinMap.Entries.{below_all}
use Rattle.std.specs.List.{starts_with, prefix_len}
use Rattle.std.specs.Option.{option_or}
use Rattle.std.specs.Ordering.{is_lt, eq_by_cmp}
use Rattle.std.specs.declared.cmp.Ordering.TheVariants.{Less}
use Rattle.iot_text.specs.Paths.{path_cmp}
use Rattle.iot_text.proofs.PathsLaws.{path_total}
use Rattle.iot_tree.specs.Place.{AllBefore, AllAfter, IsRowAt, IsGap, IsPlace, without}
use Rattle.iot_tree.specs.Questions.{is_within}
use Rattle.iot_tree.specs.Rows.{Rising, map_of, AreTreeRows}
use Rattle.iot_tree.specs.Snapshots.{is_known}
use Rattle.iot_tree.specs.Tree.{Path, Row, Nodes}
use Rattle.iot_tree.specs.Updates.{FitsMove, renamed_row, moved}
use Rattle.iot_tree.specs.declared.nodes.Node.{Node}
use Rattle.iot_tree.specs.declared.nodes.Node.TheVariants.{Dir}
use Rattle.iot_tree.proofs.MovedLaws.{moved_map, moved_rising, sorted_skip}
use Rattle.iot_tree.proofs.PathLaws.{order, Order, lower, same, higher}
use Rattle.iot_tree.proofs.PlaceLaws.{find_after, find_gap, find_at, below_lower, is_less}
use Rattle.iot_tree.proofs.RenamedLaws.{moved_inside}
use Rattle.iot_tree.proofs.RowLaws.{get_rows, entries_rows, get_here, get_in_gap}
use Rattle.iot_tree.proofs.TreeLaws.{none_some, apart}
use Rattle.iot_tree.proofs.UpdateLaws.{to_outside}
use Rattle.iot_tree.proofs.WithinLaws.{Inside, Outside, side, inside, outside}
use Rattle.iot_tree.proofs.WithinLaws.{test_is, at_itself, outside_before, outside_join, outside_found}
use Rattle.iot_tree.proofs.WithinLaws.{sorted_back, within_more, Parted, parts, find_join, before_outside, not_less, find_last, find_inside}
use Rattle.iot_tree.proofs.WithoutLaws.{without_gap, without_at, outside_without}
use Rattle.iot_stamp.specs.Carried.{in_either, IsCarried}
use Rattle.iot_stamp.specs.Lining.{stamps_by}
use Rattle.iot_stamp.proofs.LiningLaws.{Untested, marks, unmarked, join_by, whole_row, row_after, map_back}
use Rattle.iot_stamp.proofs.StampingLaws.{moved_at}

-- ---- rows, cut at the place of a path

-- the rows before q, its own row if there is one, and those after it
pub record Cut (q : Path) (rows : List Row) : Type 0 where
  pub front : List Row
  pub own : List Row
  pub back : List Row
  pub whole : rows ≡ front ++ (own ++ back)
  pub left : front ++ back ≡ without q rows
  pub before : AllBefore q front
  pub after : AllAfter q back
  pub own_len : length own ≡ cond (is_some (find path_cmp q rows)) 1 0

module _ (q : Path) where
  -- a row more in front
  push : (row : Row) (rows : List Row) → path_cmp row.0 q ≡ Less → Cut q rows → Cut q (row ∷ rows)
  push row rows less c =
      let away : eq_by_cmp path_cmp q row.0 ≡ false =
      apart q row.0 (λ is. not_less q (subst (λ (p : Path). path_cmp p q ≡ Less) (sym is) less)) in
      record {
        front = row ∷ c.front;
        own = c.own;
        back = c.back;
        whole = ap (λ (rest : List Row). row ∷ rest) c.whole;
        left = rw away (ap (λ (rest : List Row). row ∷ rest) c.left);
        before = (less, c.before);
        after = c.after;
        own_len = rw away c.own_len;
      }

  pub cut : (rows : List Row) → Rising rows → Cut q rows
  cut [] rising = record { front = []; own = []; back = []; whole = refl; left = refl; before = tt; after = refl; own_len = refl }
  cut (row ∷ rows) rising = by (cut rows (second_so (below_all path_cmp row.0 rows) _ rising)) (order row.0 q)
    where
      below : AllAfter row.0 rows
      below = first_so (below_all path_cmp row.0 rows) _ rising

      by : Cut q rows → Order row.0 q → Cut q (row ∷ rows)
      by rest (lower less) = push row rows less rest
      by rest (same is) =
          let after : AllAfter q rows = subst (λ (path : Path). AllAfter path rows) is below in
          record {
            front = [];
            own = row ∷ [];
            back = rows;
            whole = refl;
            left = sym (without_at q [] row rows tt is after);
            before = tt;
            after = after;
            own_len = sym (ap (λ (o : Option Node). cond (is_some o) 1 0) (find_at q [] row rows tt is));
          }
      by rest (higher less) =
          let after : AllAfter q (row ∷ rows) = both_true (ap is_lt less) (below_lower q row.0 rows less below) in
          record {
            front = [];
            own = [];
            back = row ∷ rows;
            whole = refl;
            left = sym (without_gap q [] (row ∷ rows) tt after);
            before = tt;
            after = after;
            own_len = sym (ap (λ (o : Option Node). cond (is_some o) 1 0) (find_gap q [] (row ∷ rows) tt after));
          }

-- ---- the place of rows at or below a path

-- the place of a path that comes after the rows in front
pub place_is : (q : Path) (front rest : List Row) (at : ℕ) → AllBefore q front
    → ((row : Row) (rows : List Row) → rest ≡ row ∷ rows → path_cmp row.0 q ≡ Less → ⊥) → IsRowAt (front ++ rest) q at → at ≡ length front
place_is q (row ∷ front) rest zero before starts stands =
    absurd (not_less q (subst (λ (path : Path). path_cmp path q ≡ Less) (stands.here row) before.0))
place_is q (row ∷ front) rest (suc at) before starts stands =
    ap suc
    (place_is q front rest at before.1 starts
    (record { in_range = omega (arith, stands.in_range); before = stands.before.1; here = stands.here }))
place_is q [] rest zero before starts stands = refl
place_is q [] [] (suc at) before starts stands = absurd (omega (arith, stands.in_range))
place_is q [] (row ∷ rest) (suc at) before starts stands = absurd (starts row rest refl stands.before.0)

-- ---- what is found nowhere

or_none : (a b : Option Node) → option_or a b ≡ None → (a ≡ None) × (b ≡ None)
or_none None b is = (refl, is)
or_none (Some a) b is = absurd cc

none_parts : (k : Path) (a b : List Row) → find path_cmp k (a ++ b) ≡ None → (find path_cmp k a ≡ None) × (find path_cmp k b ≡ None)
none_parts k a b none = or_none _ _ (sym (find_join k a b) ∙ none)

none_join : (k : Path) (a b : List Row) → find path_cmp k a ≡ None → find path_cmp k b ≡ None → find path_cmp k (a ++ b) ≡ None
none_join k a b first second = find_join k a b ∙ (λ i. option_or (first i) (second i))

-- ---- the mark of a move

module _ (p q : Path) where
  untested_outside : (rows : List Row) → Outside q rows → Outside p rows → Untested (in_either p q) rows
  untested_outside [] out away = tt
  untested_outside (row ∷ rows) out away = (
    elim (side q row.0) [
      | inside rest is test ↦ absurd (out.0 rest is)
      | outside out_here test ↦ elim (side p row.0) [
        | inside rest is other ↦ absurd (away.0 rest is)
        | outside gone other ↦ rw (test, other) refl
      ]
    ],
    untested_outside rows out.1 away.1,
  )

  -- rows that come get the new stamp
  come_by : (stamp : ℕ) (f : Path → ℕ) (rows : List Row) → Inside q rows
      → stamps_by (marks (in_either p q) stamp f) rows ≡ stamps_by (λ k. stamp) rows
  come_by stamp f [] ins = refl
  come_by stamp f (row ∷ rows) ins =
      λ i. cond (is_known row.1) (cond ((test_is q row.0).1 ins.0.0 ins.0.1 i || starts_with bytes_eq row.0 p) stamp (f row.0)) 0
      ∷ come_by stamp f rows ins.1 i

outside_parts : (p : Path) (a b : List Row) → Outside p (a ++ b) → Outside p a × Outside p b
outside_parts p [] b out = (tt, out)
outside_parts p (row ∷ a) b out = let rest = outside_parts p a b out.1 in ((out.0, rest.0), rest.1)

pub stamps_len : (g : Path → ℕ) (rows : List Row) → length (stamps_by g rows) ≡ length rows
stamps_len g rows = length-map rows (λ (row : Row). cond (is_known row.1) (g row.0) 0)

-- what the steps of a move need, and leave
pub record Carries (rows new : List Row) (p q : Path) (at count to : ℕ) (goes : Bool) : Type 0 where
  pub taken : at + count ≤ length rows
  pub room : to + count ≤ length new
  pub others : (to + cond goes 1 0) + count ≤ length rows
  pub done : (f : Path → ℕ) (stamp : ℕ) (stamps : List ℕ)
      → IsCarried (stamps_by f rows) at to goes (stamps_by (λ k. stamp) (take count (drop to new))) stamps
      → stamps ≡ stamps_by (marks (in_either p q) stamp f) new

module _ (rows : List Row) (all : AreTreeRows rows) (p q : Path) (fits : FitsMove (map_of rows) p q) (at : ℕ) (stands : IsRowAt rows p at)
    (count : ℕ) (is_count : count ≡ prefix_len (is_within p) (drop at rows)) (new : List Row)
    (new_is : new ≡ entries (moved (map_of rows) p q)) (to : ℕ) (comes : IsRowAt new q to) (goes : Bool)
    (goes_by : goes ≡ is_some (get (map_of rows) q)) where
  -- the rows before, those that move, those after, and the moved ones with their new paths
  abbrev first : List Row
  first = take at rows

  abbrev moving : List Row
  moving = take count (drop at rows)

  abbrev rest : List Row
  rest = drop count (drop at rows)

  abbrev come : List Row
  come = map (renamed_row p q) moving

  abbrev row : Row
  row = get_or rows at ([], Dir)

  whole : rows ≡ first ++ row ∷ drop (at + 1) rows
  whole = whole_row rows all.rising p at stands ([], Dir)

  begins : drop at rows ≡ row ∷ drop (at + 1) rows
  begins = drop_more rows at ([], Dir) stands.in_range

  split : Inside p moving × Outside p rest
  split =
      let here = stands.here ([], Dir) in
      let more = parts p (drop (at + 1) rows) (row_after rows all.rising p at stands)
      (second_so (below_all path_cmp row.0 (drop (at + 1) rows)) _
      (sorted_back first (row ∷ drop (at + 1) rows) (subst Rising whole all.rising))) in
      subst (λ n. Inside p (take n (drop at rows)) × Outside p (drop n (drop at rows))) (sym is_count)
      (subst (λ (back : List Row). Inside p (take (prefix_len (is_within p) back) back) × Outside p (drop (prefix_len (is_within
      p) back) back))
      (sym begins)
      (subst (Parted p (row ∷ drop (at + 1) rows))
      (sym (within_more p row (drop (at + 1) rows) ((test_is p row.0).1 [] (here ∙ at_itself p))))
      ((([], here ∙ at_itself p), more.0), more.1)))

  parted : rows ≡ first ++ (moving ++ rest)
  parted = sym (ap (λ (back : List Row). first ++ back) (take-append-drop count (drop at rows)) ∙ take-append-drop at rows)

  first_len : length first ≡ at
  first_len = length-take-le at rows (omega (arith, stands.in_range))

  moving_len : length moving ≡ count
  moving_len = length-take-le count (drop at rows)
      (subst (λ n. n ≤ length (drop at rows)) (sym is_count) (prefix_len-le-length (is_within p) (drop at rows)))

  -- the others, cut at the place where the rows come
  others_cut : Cut q (first ++ rest)
  others_cut = cut q (first ++ rest) (sorted_skip first moving rest (subst Rising parted all.rising))

  abbrev front : List Row
  front = others_cut.front

  abbrev back : List Row
  back = others_cut.back

  tree_parted : AreTreeRows (first ++ (moving ++ rest))
  tree_parted = subst AreTreeRows parted all

  fits_parted : FitsMove (map_of (first ++ (moving ++ rest))) p q
  fits_parted = subst (λ (rows : List Row). FitsMove (map_of rows) p q) parted fits

  new_parted : new ≡ front ++ (come ++ back)
  new_parted =
      new_is
      ∙ ap (λ (t : Nodes). entries t)
      (ap (λ (rows : List Row). moved (map_of rows) p q) parted
      ∙ sym
      (moved_map first moving rest p q tree_parted split.0 (outside_before p first stands.before) split.1 fits_parted front back
      others_cut.left others_cut.before others_cut.after))
      ∙ entries_rows (front ++ (come ++ back))
      (moved_rising first moving rest p q tree_parted split.0 (outside_before p first stands.before) split.1 fits_parted front back
      others_cut.left others_cut.before others_cut.after)

  come_inside : Inside q come
  come_inside = moved_inside p q moving split.0

  come_len : length come ≡ count
  come_len = length-map moving (renamed_row p q) ∙ moving_len

  -- no other row is at or below q, but for its own
  none_below : (k : Path) → find path_cmp k rows ≡ None → find path_cmp k back ≡ None
  none_below k none =
      let one = none_parts k first (moving ++ rest) (ap (find path_cmp k) (sym parted) ∙ none) in
      let two = none_parts k moving rest one.1 in
      let three = none_parts k front (others_cut.own ++ back)
      (ap (find path_cmp k) (sym others_cut.whole) ∙ none_join k first rest one.0 two.1) in
      (none_parts k others_cut.own back three.1).1

  back_out : Outside q back
  back_out = outside_found q back by
    where
      by : (rest : Path) → find path_cmp (q ++ rest) back ≡ None
      by [] = ap (λ (path : Path). find path_cmp path back) (append-nil q) ∙ find_after q back others_cut.after
      by (name ∷ rest) =
          none_below (q ++ name ∷ rest) (sym (get_rows rows all.rising (q ++ name ∷ rest))
          ∙ fits.leaf (q ++ name ∷ rest) (name, rest, refl))

  away : Outside p front × Outside p back
  away = outside_parts p front back
      (subst (Outside p) (sym others_cut.left)
      (outside_without q p (first ++ rest) (outside_join p first rest (outside_before p first stands.before) split.1)))

  starts : (r : Row) (others : List Row) → come ++ back ≡ r ∷ others → path_cmp r.0 q ≡ Less → ⊥
  starts r others is less = by come back come_inside others_cut.after is
    where
      by : (a b : List Row) → Inside q a → AllAfter q b → a ++ b ≡ r ∷ others → ⊥
      by [] [] ins after is_all = cc
      by [] (x ∷ b) ins after is_all =
          let one : x ≡ r = cc in
          not_less q
          (path_total.trans q r.0 q (subst (λ (e : Row). path_cmp q e.0 ≡ Less) one (is_less _ (first_so (is_lt (path_cmp q x.0)) _ after)))
          less)
      by (x ∷ a) b ins after is_all =
          let one : x ≡ r = cc in
          before_outside r.0 q less ins.0.0 (ap (λ (e : Row). e.0) (sym one) ∙ ins.0.1)

  to_is : to ≡ length front
  to_is = place_is q front (come ++ back) to others_cut.before starts (subst (λ (rows : List Row). IsRowAt rows q to) new_parted comes)

  goes_is : goes ≡ is_some (find path_cmp q (first ++ rest))
  goes_is =
      goes_by
      ∙ ap (λ (o : Option Node). is_some o)
      (get_rows rows all.rising q ∙ ap (find path_cmp q) parted ∙ find_join q first (moving ++ rest)
      ∙ ap (option_or (find path_cmp q first)) (find_last q moving rest (find_inside p q moving (to_outside (map_of rows)
      all.tree p q fits) split.0))
      ∙ sym (find_join q first rest))

  own_long : length others_cut.own ≡ cond goes 1 0
  own_long = others_cut.own_len ∙ ap (λ b. cond b 1 0) (sym goes_is)

  come_there : take count (drop to new) ≡ come
  come_there =
      (λ i. take (sym come_len i) (drop (to_is i) (new_parted i)))
      ∙ ap (take (length come)) (drop-append_seam front (come ++ back)) ∙ take-append_seam come back

  others_len : length first + length rest ≡ length front + (length others_cut.own + length back)
  others_len =
      sym (length-append first rest) ∙ ap length others_cut.whole ∙ length-append front (others_cut.own ++ back)
      ∙ ap (λ n. length front + n) (length-append others_cut.own back)

  rows_len : length rows ≡ length first + (length moving + length rest)
  rows_len = ap length parted ∙ length-append first (moving ++ rest) ∙ ap (λ n. length first + n) (length-append moving rest)

  new_len : length new ≡ length front + (length come + length back)
  new_len = ap length new_parted ∙ length-append front (come ++ back) ∙ ap (λ n. length front + n) (length-append come back)

  module _ (f : Path → ℕ) (stamp : ℕ) (stamps : List ℕ)
      (is : IsCarried (stamps_by f rows) at to goes (stamps_by (λ k. stamp) (take count (drop to new))) stamps) where
    stamps_are : stamps ≡ stamps_by f front ++ (stamps_by (λ k. stamp) (take count (drop to new)) ++ stamps_by f back)
    stamps_are =
        is.by (stamps_by f first) (stamps_by f moving) (stamps_by f rest) (stamps_by f front) (stamps_by f others_cut.own)
        (stamps_by f back)
        (ap (stamps_by f) parted ∙ join_by f first (moving ++ rest)
        ∙ ap (λ (back : List ℕ). stamps_by f first ++ back) (join_by f moving rest))
        (stamps_len f first ∙ first_len)
        (stamps_len f moving ∙ moving_len ∙ sym (stamps_len (λ k. stamp) (take count (drop to new)) ∙ ap length come_there ∙ come_len))
        (sym (join_by f first rest) ∙ ap (stamps_by f) others_cut.whole ∙ join_by f front (others_cut.own ++ back)
        ∙ ap (λ (rest : List ℕ). stamps_by f front ++ rest) (join_by f others_cut.own back))
        (stamps_len f front ∙ sym to_is) (stamps_len f others_cut.own ∙ own_long)

    stamps_done : stamps ≡ stamps_by (marks (in_either p q) stamp f) new
    stamps_done =
        stamps_are
        ∙ (λ i. sym (unmarked (in_either p q) stamp f front (untested_outside p q front (outside_before q front
        others_cut.before) away.0)) i
        ++ ((ap (stamps_by (λ k. stamp)) come_there ∙ sym (come_by p q stamp f come come_inside)) i
        ++ sym (unmarked (in_either p q) stamp f back (untested_outside p q back back_out away.1)) i))
        ∙ sym
        (ap (stamps_by (marks (in_either p q) stamp f)) new_parted ∙ join_by (marks (in_either p q) stamp f) front (come ++ back)
        ∙ ap (λ (rest : List ℕ). stamps_by (marks (in_either p q) stamp f) front ++ rest)
        (join_by (marks (in_either p q) stamp f) come back))

  pub carries : Carries rows new p q at count to goes
  carries = record {
    taken = omega (arith, rows_len, first_len, moving_len);
    room = omega (arith, new_len, to_is, come_len);
    others = omega (arith, rows_len, moving_len, others_len, own_long, to_is);
    done = stamps_done;
  }

-- ---- a move of a tree's rows

module _ (t new : Nodes) (tree : AreTreeRows (entries t)) (p q : Path) (fits : FitsMove t p q) (new_is : new ≡ moved t p q) where
  pub carries_tree : (at : ℕ) → IsRowAt (entries t) p at → (count : ℕ) → count ≡ prefix_len (is_within p) (drop at (entries t))
      → (to : ℕ) → IsRowAt (entries new) q to → (goes : Bool) → goes ≡ is_some (get (map_of (entries t)) q)
      → Carries (entries t) (entries new) p q at count to goes
  carries_tree at stands count is_count to comes goes goes_by =
      carries (entries t) tree p q (subst (λ (n : Nodes). FitsMove n p q) (sym (map_back t)) fits) at stands count is_count (entries new)
      (ap (λ (n : Nodes). entries n) (new_is ∙ ap (λ (n : Nodes). moved n p q) (sym (map_back t)))) to comes goes goes_by

  -- what moves is there before and after
  pub from_there : (gap : ℕ) → IsGap (entries t) p gap → ⊥
  from_there gap is_gap =
      none_some (get t p) (ap (λ (n : Nodes). get n p) (sym (map_back t)) ∙ get_in_gap (entries t) tree.rising p gap is_gap) fits.mapped

  pub to_there : Rising (entries new) → (gap : ℕ) → IsGap (entries new) q gap → ⊥
  to_there rising gap is_gap =
      none_some (get t p)
      (sym (moved_at p q t fits) ∙ ap (λ (n : Nodes). get n q) (sym new_is ∙ sym (map_back new))
      ∙ get_in_gap (entries new) rising q gap is_gap)
      fits.mapped

-- whether a search finds a row
pub found_is : (rows : List Row) → Rising rows → (q : Path) (r : Result ℕ ℕ) → IsPlace rows q r → is_ok r ≡ is_some (get (map_of rows) q)
found_is rows rising q (Ok at) stands = sym (ap (λ (o : Option Node). is_some o) (get_here rows rising q at stands ([], Dir)))
found_is rows rising q (Err gap) is_gap = sym (ap (λ (o : Option Node). is_some o) (get_in_gap rows rising q gap is_gap))

-- ---- the steps of the code

set_middle : (x : List ℕ) (e new : ℕ) (y : List ℕ) → set (x ++ e ∷ y) (length x) new ≡ x ++ new ∷ y
set_middle [] e new y = refl
set_middle (a ∷ x) e new y = ap (λ (rest : List ℕ). a ∷ rest) (set_middle x e new y)

-- the stamps of the first rows stand in the place of those that were there
pub record Placed (at stamp : ℕ) (rows : List Row) (old new : List ℕ) (i : ℕ) : Type 0 where
  pub is : new ≡ take at old ++ (stamps_by (λ k. stamp) (take i rows) ++ drop (at + i) old)

pub place_none : (at stamp : ℕ) (rows : List Row) (old : List ℕ) → Placed at stamp rows old old 0
place_none at stamp rows old = record { is = sym (ap (λ n. take at old ++ drop n old) (add_zero at) ∙ take-append-drop at old) }
  where
    add_zero : (n : ℕ) → n + 0 ≡ n
    add_zero n = omega arith

module _ (at stamp : ℕ) (rows : List Row) (old new : List ℕ) (i : ℕ) (enough : at + length rows ≤ length old)
    (so_far : Placed at stamp rows old new i) where
  pub place_more : i < length rows → (row : Row) → row ≡ get_or rows i row → (n : ℕ) → n ≡ cond (is_known row.1) stamp 0
      → Placed at stamp rows old (set new (at + i) n) (i + 1)
  place_more lt row is n n_is = record {
    is =
        (λ j. set (new_is j) (sym long j) n) ∙ set_middle (take at old ++ done) (get_or old (at + i) 0) n (drop (at + i + 1) old)
        ∙ append_assoc (take at old) done (n ∷ drop (at + i + 1) old)
        ∙ ap (λ (rest : List ℕ). take at old ++ rest)
        (sym (append_assoc done (n ∷ []) (drop (at + i + 1) old)) ∙ (λ j. one_more j ++ drop (next j) old));
  }
    where
      done : List ℕ
      done = stamps_by (λ k. stamp) (take i rows)

      next : at + i + 1 ≡ at + (i + 1)
      next = omega arith

      long : length (take at old ++ done) ≡ at + i
      long =
          length-append (take at old) done
          ∙ (λ j. length-take-le at old (omega (arith, enough)) j
          + (stamps_len (λ k. stamp) (take i rows) ∙ length-take-le i rows (omega (arith, lt))) j)

      new_is : new ≡ (take at old ++ done) ++ get_or old (at + i) 0 ∷ drop (at + i + 1) old
      new_is =
          so_far.is ∙ sym (append_assoc (take at old) done (drop (at + i) old))
          ∙ ap (λ (rest : List ℕ). (take at old ++ done) ++ rest) (drop_more old (at + i) 0 (omega (arith, enough, lt)))

      one_more : done ++ n ∷ [] ≡ stamps_by (λ k. stamp) (take (i + 1) rows)
      one_more =
          ap (λ (m : ℕ). done ++ m ∷ []) n_is ∙ sym (join_by (λ k. stamp) (take i rows) (row ∷ []))
          ∙ ap (stamps_by (λ k. stamp)) (sym (take_more rows i row lt ∙ ap (λ (r : Row). take i rows ++ r ∷ []) (sym is)))

  pub place_all : length rows ≤ i → i ≤ length rows
      → new ≡ take at old ++ (stamps_by (λ k. stamp) rows ++ drop (at + length rows) old)
  place_all long short =
      let end : i ≡ length rows = omega (arith, long, short) in
      so_far.is
      ∙ (λ j. take at old ++ (stamps_by (λ k. stamp) ((ap (λ (n : ℕ). take n rows) end ∙ take-length rows) j) ++ drop (at + end j) old))

-- the steps of a carry
abbrev IsRotated : List ℕ → List ℕ → ℕ → ℕ → Type 0
IsRotated old new at count = (a b c : List ℕ) → old ≡ a ++ (b ++ c) → length a ≡ at → length b ≡ count → new ≡ a ++ (c ++ b)

abbrev IsTakenOut : List ℕ → List ℕ → ℕ → Bool → Type 0
IsTakenOut old new at goes =
    (front own back : List ℕ) → old ≡ front ++ (own ++ back) → length front ≡ at → length own ≡ cond goes 1 0 → new ≡ front ++ back

pub carried : (old one two three new come : List ℕ) (at to count : ℕ) (goes : Bool) → length come ≡ count → IsRotated old one at count
    → IsTakenOut one two to goes → IsRotated two three to (length two - count - to)
    → new ≡ take to three ++ (come ++ drop (to + count) three) → IsCarried old at to goes come new
carried old one two three new come at to count goes many one_by two_by three_by new_by = record {
  by = λ a b c front own back whole from long rest place one_or_none.
      let enough : length b ≡ count = long ∙ many in
      let one_is : one ≡ front ++ (own ++ (back ++ b)) =
      one_by a b c whole from enough ∙ sym (append_assoc a c b) ∙ ap (λ (list : List ℕ). list ++ b) rest
      ∙ append_assoc front (own ++ back) b ∙ ap (λ (list : List ℕ). front ++ list) (append_assoc own back b) in
      let two_is : two ≡ front ++ (back ++ b) = two_by front own (back ++ b) one_is place one_or_none in
      let two_long : length two ≡ length front + (length back + length b) =
      ap length two_is ∙ length-append front (back ++ b) ∙ ap (λ n. length front + n) (length-append back b) in
      let three_is : three ≡ front ++ (b ++ back) =
      three_by front back b two_is place (omega (arith, two_long, enough, place)) in
      let end : to + count ≡ length (front ++ b) = omega (arith, place, enough, length-append front b) in
      new_by
      ∙ (λ i. (ap (take to) three_is ∙ ap (λ n. take n (front ++ (b ++ back))) (sym place) ∙ take-append_seam front (b ++ back)) i
      ++ (come ++ (ap (drop (to + count)) (three_is ∙ sym (append_assoc front b back)) ∙ ap (λ n. drop n ((front ++ b) ++ back)) end
      ∙ drop-append_seam (front ++ b) back) i));
}

-- the same said of equal parts
pub carried_alike : {old list come alike new : List ℕ} {at to : ℕ} {goes : Bool} → old ≡ list → come ≡ alike
    → IsCarried old at to goes come new → IsCarried list at to goes alike new
carried_alike {list = list} {come = come} {new = new} {at = at} {to = to} {goes = goes} one two is =
    subst (λ (stamps : List ℕ). IsCarried list at to goes stamps new) two
    (subst (λ (stamps : List ℕ). IsCarried stamps at to goes come new) one is)
