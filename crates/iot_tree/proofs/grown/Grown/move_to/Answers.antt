-- How rows move: after all others, and from there into their place.
use Rattle.std.proofs.Common.{◌≡◌, ℕ, List, [], ◌∷◌, ◌++◌, sym, ap, ◌∙◌, ◌+◌, ◌≤◌, length, take, drop, get_or, arith, length-append}
use Rattle.std.proofs.Common.{append_assoc, subst, ◌-◌, map}
use Rattle.std.proofs.Math.Seq.{take-append_seam, drop-append_seam}
use Rattle.std.proofs.lemmas.List.{drop_more, take-append-drop, length-take-le, length-map}
use Rattle.std.proofs.lemmas.List.Sums.{prefix_len-le-length}
use Rattle.std.specs.Cmp.{second_so}
use Rattle.std.specs.FinMap.Entries.{put, below_all}
use Rattle.std.specs.List.{prefix_len}
use Rattle.iot_text.specs.Paths.{path_cmp}
use Rattle.iot_tree.specs.Place.{AllAfter, IsRowAt, IsGap, IsPutAt}
use Rattle.iot_tree.specs.Questions.{is_within}
use Rattle.iot_tree.specs.Rows.{Rising, map_of, AreTreeRows}
use Rattle.iot_tree.specs.Tree.{Path, Row}
use Rattle.iot_tree.specs.Updates.{FitsMove, renamed, renamed_row, moved}
use Rattle.iot_tree.specs.declared.nodes.Node.TheVariants.{Dir}
use Rattle.iot_tree.proofs.CountLaws.{block_len}
use Rattle.iot_tree.proofs.LeafLaws.{whole_at}
use Rattle.iot_tree.proofs.MovedLaws.{sorted_skip, moved_map, moved_tree}
use Rattle.iot_tree.proofs.PlaceLaws.{back_after}
use Rattle.iot_tree.proofs.RowLaws.{get_in_gap}
use Rattle.iot_tree.proofs.TreeLaws.{none_some}
use Rattle.iot_tree.proofs.WithinLaws.{Inside, Outside, test_is, at_itself, outside_before, sorted_back, within_more, Parted, parts}
use Rattle.iot_tree.proofs.grown.Grown.move_to.Goals as goal

-- the items from a place on have new keys, one for each path
abbrev IsKeyed : List Row → ℕ → List Path → List Row → Type 0
IsKeyed rows at paths one = (f : Path → Path) (a b c : List Row) → rows ≡ a ++ (b ++ c) → length a ≡ at →
    paths ≡ map (λ (item : Row). f item.0) b → one ≡ a ++ (map (λ (item : Row). (f item.0, item.1)) b ++ c)

-- the items from a place on are after all others
abbrev IsRotated : List Row → ℕ → ℕ → List Row → Type 0
IsRotated one at count two = (a b c : List Row) → one ≡ a ++ (b ++ c) → length a ≡ at → length b ≡ count → two ≡ a ++ (c ++ b)

-- the last rows of `two` are put at q's place among the others
abbrev IsPutLast : List Row → ℕ → Path → List Row → Type 0
IsPutLast two count q new = IsPutAt (take (length two - count) two) (drop (length two - count) two) q new

-- a path's row with those after it
own_parts : (p : Path) (row : Row) (back : List Row) → row.0 ≡ p → AllAfter p back → Rising back
    → Inside p (take (prefix_len (is_within p) (row ∷ back)) (row ∷ back))
    × Outside p (drop (prefix_len (is_within p) (row ∷ back)) (row ∷ back))
own_parts p row back here below rising =
    let more = parts p back below rising in
    subst (Parted p (row ∷ back)) (sym (within_more p row back ((test_is p row.0).1 [] (here ∙ at_itself p))))
    ((([], here ∙ at_itself p), more.0), more.1)

-- A move of the rows at or below p, which begin at a place.
module _ (rows : List Row) (all : AreTreeRows rows) (p q : Path) (fits : FitsMove (map_of rows) p q) (at : ℕ) (stands : IsRowAt rows p at)
    (count : ℕ) (is_count : count ≡ prefix_len (is_within p) (drop at rows)) where
  -- the rows before, those that move, those after, and the moved ones with their new paths
  abbrev first : List Row
  first = take at rows

  abbrev moving : List Row
  moving = take count (drop at rows)

  abbrev rest : List Row
  rest = drop count (drop at rows)

  abbrev come : List Row
  come = map (renamed_row p q) moving

  -- p's own row, and those after it
  abbrev row : Row
  row = get_or rows at ([], Dir)

  abbrev back : List Row
  back = drop (at + 1) rows

  begins : drop at rows ≡ row ∷ back
  begins = drop_more rows at ([], Dir) stands.in_range

  split : Inside p moving × Outside p rest
  split =
      let whole = whole_at rows all p at stands ([], Dir) in
      let rising : Rising (first ++ row ∷ back) = subst Rising whole all.rising in
      let here = stands.here ([], Dir) in
      let below = subst (λ (path : Path). AllAfter path back) here (back_after first row back rising) in
      let own = own_parts p row back here below
      (second_so (below_all path_cmp row.0 back) _ (sorted_back first (row ∷ back) rising)) in
      subst (λ n. Inside p (take n (drop at rows)) × Outside p (drop n (drop at rows))) (sym is_count)
      (subst
      (λ (back : List Row). Inside p (take (prefix_len (is_within p) back) back)
      × Outside p (drop (prefix_len (is_within p) back) back))
      (sym begins) own)

  parted : rows ≡ first ++ (moving ++ rest)
  parted = sym (ap (λ (back : List Row). first ++ back) (take-append-drop count (drop at rows)) ∙ take-append-drop at rows)

  first_len : length first ≡ at
  first_len = length-take-le at rows (omega (arith, stands.in_range))

  others_rising : Rising (first ++ rest)
  others_rising = sorted_skip first moving rest (subst Rising parted all.rising)

  module _ (new : List Row) (put : IsPutAt (first ++ rest) come q new) where
    tree_put : AreTreeRows new
    tree_put = subst AreTreeRows (sym put.whole)
        (moved_tree first moving rest p q (subst AreTreeRows parted all) split.0 (outside_before p first stands.before) split.1
        (subst (λ (rows : List Row). FitsMove (map_of rows) p q) parted fits) put.front put.back put.rest put.before put.after)

    map_put : map_of new ≡ moved (map_of rows) p q
    map_put = ap map_of put.whole
        ∙ moved_map first moving rest p q (subst AreTreeRows parted all) split.0 (outside_before p first stands.before) split.1
        (subst (λ (rows : List Row). FitsMove (map_of rows) p q) parted fits) put.front put.back put.rest put.before put.after
        ∙ ap (λ (rows : List Row). moved (map_of rows) p q) (sym parted)

  -- the steps of the code: the moved rows get their new paths, and go after all others
  fits_behind : count ≤ length (drop at rows)
  fits_behind = subst (λ n. n ≤ length (drop at rows)) (sym is_count) (prefix_len-le-length (is_within p) (drop at rows))

  moved_len : length come ≡ count
  moved_len = length-map moving (renamed_row p q) ∙ length-take-le count (drop at rows) fits_behind

  keyed_is : (paths : List Path) → paths ≡ map (λ (row : Row). renamed p q row.0) moving → (one : List Row) → IsKeyed rows at paths one
      → one ≡ first ++ (come ++ rest)
  keyed_is paths are one keyed = keyed (renamed p q) first moving rest parted first_len are

  module _ (one : List Row) (one_is : one ≡ first ++ (come ++ rest)) where
    one_len : at + count ≤ length one
    one_len = omega (arith, ap length one_is, length-append first (come ++ rest), length-append come rest, first_len, moved_len)

    module _ (two : List Row) (rotated : IsRotated one at count two) where
      two_is : two ≡ (first ++ rest) ++ come
      two_is = rotated first come rest one_is first_len moved_len
          ∙ sym (append_assoc first rest come)

      two_length : length two ≡ length (first ++ rest) + count
      two_length = ap length two_is ∙ length-append (first ++ rest) come ∙ ap (λ n. length (first ++ rest) + n) moved_len

      two_len : count ≤ length two
      two_len = omega (arith, two_length)

      others_len : length two - count ≡ length (first ++ rest)
      others_len = omega (arith, two_length)

      others_are : take (length two - count) two ≡ first ++ rest
      others_are = ap (λ n. take n two) others_len ∙ ap (take (length (first ++ rest))) two_is ∙ take-append_seam (first ++ rest) come

      moved_are : drop (length two - count) two ≡ come
      moved_are = ap (λ n. drop n two) others_len ∙ ap (drop (length (first ++ rest))) two_is ∙ drop-append_seam (first ++ rest) come

      two_rising : Rising (take (length two - count) two)
      two_rising = subst Rising (sym others_are) others_rising

      put_is : (new : List Row) → IsPutLast two count q new → IsPutAt (first ++ rest) come q new
      put_is new put =
          subst (λ (others : List Row). IsPutAt others come q new) others_are
          (subst (λ (moved : List Row). IsPutAt (take (length two - count) two) moved q new) moved_are put)

      new_tree : (new : List Row) → IsPutLast two count q new → AreTreeRows new
      new_tree new put = tree_put new (put_is new put)

      new_map : (new : List Row) → IsPutLast two count q new → map_of new ≡ moved (map_of rows) p q
      new_map new put = map_put new (put_is new put)

-- what the last step needs, and leaves
record Puts (rows : List Row) (p q : Path) (count : ℕ) (two : List Row) : Type 0 where
  len : count ≤ length two
  rising : Rising (take (length two - count) two)
  tree : (new : List Row) → IsPutLast two count q new → AreTreeRows new
  map : (new : List Row) → IsPutLast two count q new → map_of new ≡ moved (map_of rows) p q

-- what the steps need, and leave
record Moves (rows : List Row) (p q : Path) (at count : ℕ) (one : List Row) : Type 0 where
  len : at + count ≤ length one
  puts : (two : List Row) → IsRotated one at count two → Puts rows p q count two

moves : (rows : List Row) → AreTreeRows rows → (p q : Path) → FitsMove (map_of rows) p q → (at : ℕ) → IsRowAt rows p at →
    (count : ℕ) → count ≡ prefix_len (is_within p) (drop at rows) →
    (paths : List Path) → paths ≡ map (λ (row : Row). renamed p q row.0) (take count (drop at rows)) →
    (one : List Row) → IsKeyed rows at paths one → Moves rows p q at count one
moves rows all p q fits at stands count is_count paths are one keyed =
    let one_is = keyed_is rows all p q fits at stands count is_count paths are one keyed in
    record {
      len = one_len rows all p q fits at stands count is_count one one_is;
      puts = λ two rotated. record {
        len = two_len rows all p q fits at stands count is_count one one_is two rotated;
        rising = two_rising rows all p q fits at stands count is_count one one_is two rotated;
        tree = new_tree rows all p q fits at stands count is_count one one_is two rotated;
        map = new_map rows all p q fits at stands count is_count one one_is two rotated;
      };
    }

pub returns-in_default-clause-ok : goal.returns-in_default-clause-ok
returns-in_default-clause-ok c =
    let gap : IsGap c.self.inside.rows c.args.from.now c.in_default.field-0 =
    rw (c.as_slice-rows.ensures, c.names.ensures.value) at c.in_default.ensures in
    absurd (none_some _ (get_in_gap c.self.inside.rows c.self.invariant.rising c.args.from.now c.in_default.field-0 gap)
    (rw c.self.view_is c.requires.mapped))

pub rotate-requires : goal.rotate-requires
rotate-requires c =
    let m = moves c.self.inside.rows c.self.invariant c.args.from.now c.args.to.now (rw c.self.view_is c.requires) c.in-Ok.at
    (rw (c.in-Ok.is, c.as_slice-rows.ensures, c.names.ensures.value) at c.place_of.ensures) c.count_within-count.result
    (rw (c.as_slice-rows.ensures, c.names-2.ensures.value) at c.count_within-count.ensures.count)
    c.in_ok-paths.paths.items (rw (c.as_slice-rows.ensures, block_len c.in-Ok.at c.count_within-count.result) at c.in_ok-paths.ensures)
    c.set_keys.new.self c.set_keys.ensures in
    m.len

pub put_last-requires-clause-count : goal.put_last-requires-clause-count
put_last-requires-clause-count c =
    let m = moves c.self.inside.rows c.self.invariant c.args.from.now c.args.to.now (rw c.self.view_is c.requires) c.in-Ok.at
    (rw (c.in-Ok.is, c.as_slice-rows.ensures, c.names.ensures.value) at c.place_of.ensures) c.count_within-count.result
    (rw (c.as_slice-rows.ensures, c.names-2.ensures.value) at c.count_within-count.ensures.count)
    c.in_ok-paths.paths.items (rw (c.as_slice-rows.ensures, block_len c.in-Ok.at c.count_within-count.result) at c.in_ok-paths.ensures)
    c.set_keys.new.self c.set_keys.ensures in
    (m.puts c.rotate.new.self c.rotate.ensures).len

pub put_last-requires-clause-rising : goal.put_last-requires-clause-rising
put_last-requires-clause-rising c =
    let m = moves c.self.inside.rows c.self.invariant c.args.from.now c.args.to.now (rw c.self.view_is c.requires) c.in-Ok.at
    (rw (c.in-Ok.is, c.as_slice-rows.ensures, c.names.ensures.value) at c.place_of.ensures) c.count_within-count.result
    (rw (c.as_slice-rows.ensures, c.names-2.ensures.value) at c.count_within-count.ensures.count)
    c.in_ok-paths.paths.items (rw (c.as_slice-rows.ensures, block_len c.in-Ok.at c.count_within-count.result) at c.in_ok-paths.ensures)
    c.set_keys.new.self c.set_keys.ensures in
    (m.puts c.rotate.new.self c.rotate.ensures).rising

pub invariant_of-self : goal.invariant_of-self
invariant_of-self c =
    let m = moves c.self.inside.rows c.self.invariant c.args.from.now c.args.to.now (rw c.self.view_is c.requires) c.in-Ok.at
    (rw (c.in-Ok.is, c.as_slice-rows.ensures, c.names.ensures.value) at c.place_of.ensures) c.count_within-count.result
    (rw (c.as_slice-rows.ensures, c.names-2.ensures.value) at c.count_within-count.ensures.count)
    c.in_ok-paths.paths.items (rw (c.as_slice-rows.ensures, block_len c.in-Ok.at c.count_within-count.result) at c.in_ok-paths.ensures)
    c.set_keys.new.self c.set_keys.ensures in
    (m.puts c.rotate.new.self c.rotate.ensures).tree c.put_last.new.rows (rw c.names-3.ensures.value at c.put_last.ensures)

pub returns-clause-ok : goal.returns-clause-ok
returns-clause-ok c =
    let m = moves c.self.inside.rows c.self.invariant c.args.from.now c.args.to.now (rw c.self.view_is c.requires) c.in-Ok.at
    (rw (c.in-Ok.is, c.as_slice-rows.ensures, c.names.ensures.value) at c.place_of.ensures) c.count_within-count.result
    (rw (c.as_slice-rows.ensures, c.names-2.ensures.value) at c.count_within-count.ensures.count)
    c.in_ok-paths.paths.items (rw (c.as_slice-rows.ensures, block_len c.in-Ok.at c.count_within-count.result) at c.in_ok-paths.ensures)
    c.set_keys.new.self c.set_keys.ensures in
    rw (← c.self.view_is)
    ((m.puts c.rotate.new.self c.rotate.ensures).map c.put_last.new.rows (rw c.names-3.ensures.value at c.put_last.ensures))
