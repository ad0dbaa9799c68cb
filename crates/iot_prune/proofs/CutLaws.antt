-- The rows of a pruned tree, by one pass over rows and paths.
use Rattle.std.proofs.Common.{◌≡◌, ℕ, ◌+◌, ◌-◌, ◌<◌, Bool, true, false, cond, not, ◌&&◌, List, [], ◌∷◌, ◌++◌, Option, Some, None}
use Rattle.std.proofs.Common.{length, length-append, drop, get_or, slice_get, append_assoc, refl, sym, ap, subst, ◌∙◌, inl}
use Rattle.std.proofs.Common.{inr, arith}
use Rattle.std.specs.Cmp.{first_so}
use Rattle.std.specs.Cmp.Derive.{both_true}
use Rattle.std.specs.declared.cmp.Ordering.TheVariants.{Less}
use Rattle.iot_text.specs.Paths.{path_cmp, parent_of, IsBelow}
use Rattle.iot_text.proofs.PathsLaws.{parent_of-push, path_total}
use Rattle.iot_tree.specs.Follows.{HasDir, Follows}
use Rattle.iot_tree.specs.Rows.{AreTreeRows}
use Rattle.iot_tree.specs.Snapshots.{ArePathsRising, has, seen, is_reached, cut_rows}
use Rattle.iot_tree.specs.Tree.{Path, Row}
use Rattle.iot_tree.specs.declared.nodes.Node.{Node}
use Rattle.iot_tree.specs.declared.nodes.Node.TheVariants.{Dir, FarDir}
use Rattle.iot_tree.proofs.AncestorLaws.{ends, at_root, in_name}
use Rattle.iot_tree.proofs.ChainLaws.{Chained, chained}
use Rattle.iot_tree.proofs.PlaceLaws.{below_lower, find_after}
use Rattle.iot_tree.proofs.RowLaws.{get_rows}
use Rattle.iot_tree.proofs.SnapshotLaws.{all_push, reached_above}
use Rattle.iot_tree.proofs.TreeLaws.{none_not_some}
use Rattle.iot_tree.proofs.UpdateLaws.{same_front_of}
use Rattle.iot_tree.proofs.WithinLaws.{at_itself, test_is}
use Rattle.iot_prune.specs.Walks.{from, begins, last_row, hides, is_hidden}
use Rattle.iot_prune.proofs.PassLaws.{passed_over, put_out}
use Rattle.iot_prune.proofs.WalkLaws.{has_from, rising_from, begins_from, hides_below, hides_none_above}

-- what is left of a row that the paths begin with or not
abbrev pub left_row : List Path → Row → Row
left_row paths row = (row.0, seen (begins row.0 paths) row.1)

-- the pass, from the last row that is out on
abbrev pub walk : List Path → Option Row → List Row → List Row
walk paths last [] = []
walk paths last (row ∷ rows) =
    cond (is_hidden last (parent_of row.0)) (walk paths last rows)
    (left_row (from row.0 paths) row ∷ walk (from row.0 paths) (Some (left_row (from row.0 paths) row)) rows)

-- ---- the pass is right

module _ (k : Path → Bool) where
  -- whether the names in q are known
  abbrev is_open : Path → Bool
  is_open q = is_reached k q && k q

  -- the pass stands after the row `now`: the last row that is out hides what lies in its unknown directories, and the
  -- paths that are left are those that come after it
  record Stands (paths : List Path) (last : Option Row) (now : Row) : Type 0 where
    hiding : (q : Path) → HasDir now q → hides last q ≡ not (is_open q)
    rising : ArePathsRising paths
    left : (q : Path) → path_cmp now.0 q ≡ Less → has paths q ≡ k q

  -- a directory above the next row is at or above the row before it
  dir_above : (now next : Row) (q r : Path) (name : List ℕ) → next.0 ≡ q ++ name ∷ [] → HasDir now q → IsBelow next.0 r → HasDir now r
  dir_above now next q r name is here below = elim (ends below.1) [
    | at_root none ↦
        let one : next.0 ≡ r ++ below.0 ∷ [] = below.2 ∙ ap (λ (rest : Path). r ++ below.0 ∷ rest) none in
        subst (HasDir now) (same_front_of q r name below.0 (sym is ∙ one)) here
    | in_name front last some ↦
        let whole : q ++ name ∷ [] ≡ (r ++ below.0 ∷ front) ++ last ∷ [] =
        sym is ∙ below.2 ∙ ap (λ (rest : Path). r ++ below.0 ∷ rest) some ∙ sym (append_assoc r (below.0 ∷ front) (last ∷ [])) in
        higher front (same_front_of q (r ++ below.0 ∷ front) name last whole) here
  ]
    where
      higher : (front : Path) → q ≡ r ++ below.0 ∷ front → HasDir now q → HasDir now r
      higher front at (inl own) = inr (below.0, front, own.0 ∙ at)
      higher front at (inr under) =
          inr (
            below.0,
            front ++ under.0 ∷ under.1,
            under.2 ∙ ap (λ (path : Path). path ++ under.0 ∷ under.1) at
                ∙ append_assoc r (below.0 ∷ front) (under.0 ∷ under.1),
          )

  -- after a row that is out
  out_hiding : (next : Row) (known : Bool) → is_reached k next.0 ≡ true → known ≡ k next.0
      → (q : Path) → HasDir next q → hides (Some (next.0, seen known next.1)) q ≡ not (is_open q)
  out_hiding next known reached is q (inl own) = rw (own.1, is, ← own.0, reached) (by (k next.0))
    where
      by : (b : Bool) → hides (Some (next.0, seen b Dir)) next.0 ≡ not b
      by true = refl
      by false = (test_is next.0 next.0).1 [] (at_itself next.0)
  out_hiding next known reached is q (inr below) =
      hides_none_above (next.0, seen known next.1) q below.0 below.1 below.2
      ∙ ap not (sym (reached_above k q below.0 below.1 (ap (is_reached k) (sym below.2) ∙ reached)))

  module _ (paths : List Path) (last : Option Row) (now next : Row) (follows : Follows now next) (stands : Stands paths last now) where
    later : (q : Path) → path_cmp next.0 q ≡ Less → path_cmp now.0 q ≡ Less
    later q late = path_total.trans now.0 next.0 q follows.rises late

    -- the last row hides the next exactly if a path above it is not known
    hidden_is : is_hidden last (parent_of next.0) ≡ not (is_reached k next.0)
    hidden_is = elim (ends next.0) [
      | at_root is ↦ absurd (rw is at follows.parent)
      | in_name q name is ↦
          let above : parent_of next.0 ≡ Some q = ap parent_of is ∙ parent_of-push q name in
          let here : HasDir now q = rw above at follows.parent in
          ap (is_hidden last) above ∙ stands.hiding q here ∙ ap not (sym (all_push k q name) ∙ ap (is_reached k) (sym is))
    ]

    known_is : begins next.0 (from next.0 paths) ≡ k next.0
    known_is = begins_from next.0 paths stands.rising ∙ stands.left next.0 follows.rises

    -- after a row that is hidden
    still : is_reached k next.0 ≡ false → Stands paths last next
    still hidden = record {
      hiding = λ q here. elim (ends next.0) [
        | at_root is ↦ absurd (rw is at follows.parent)
        | in_name above name is ↦
            let parent : parent_of next.0 ≡ Some above = ap parent_of is ∙ parent_of-push above name in
            by above name is (rw parent at follows.parent) q here
      ];
      rising = stands.rising;
      left = λ q late. stands.left q (later q late);
    }
      where
        by : (above : Path) (name : List ℕ) → next.0 ≡ above ++ name ∷ [] → HasDir now above → (q : Path) → HasDir next q
            → hides last q ≡ not (is_open q)
        by above name is dir q (inl own) =
            let closed : is_open above ≡ false = sym (all_push k above name) ∙ ap (is_reached k) (sym is) ∙ hidden in
            let hides_it : hides last (above ++ name ∷ [])
            ≡ true = hides_below last above (name ∷ []) (stands.hiding above dir ∙ ap not closed) in
            ap (hides last) (sym own.0 ∙ is) ∙ hides_it ∙ ap (λ b. not (b && k q)) (sym hidden ∙ ap (is_reached k) own.0)
        by above name is dir q (inr below) = stands.hiding q (dir_above now next above q name is dir below)

    -- after a row that is out
    gone_on : is_reached k next.0 ≡ true → Stands (from next.0 paths) (Some (left_row (from next.0 paths) next)) next
    gone_on reached = record {
      hiding = out_hiding next (begins next.0 (from next.0 paths)) reached known_is;
      rising = rising_from next.0 paths stands.rising;
      left = λ q late. has_from next.0 q late paths ∙ stands.left q (later q late);
    }

  walk_is : (rows : List Row) (paths : List Path) (last : Option Row) (now : Row) → Chained now rows → Stands paths last now
      → walk paths last rows ≡ cut_rows k rows
  walk_is [] paths last now chain stands = refl
  walk_is (next ∷ rows) paths last now chain stands =
      by (is_reached k next.0) refl (λ hidden. walk_is rows paths last next chain.1 (still paths last now next chain.0 stands hidden))
      (λ reached. walk_is rows (from next.0 paths) (Some (left_row (from next.0 paths) next)) next chain.1
      (gone_on paths last now next chain.0 stands reached))
    where
      by : (b : Bool) → is_reached k next.0 ≡ b → (is_reached k next.0 ≡ false → walk paths last rows ≡ cut_rows k rows)
          → (is_reached k next.0 ≡ true → walk (from next.0 paths) (Some (left_row (from next.0 paths) next)) rows ≡ cut_rows k rows)
          → walk paths last (next ∷ rows) ≡ cut_rows k (next ∷ rows)
      by true is if_hidden if_out =
          rw (hidden_is paths last now next chain.0 stands, is, known_is paths last now next chain.0 stands)
          (λ i. (next.0, seen (k next.0) next.1) ∷ rest i)
        where
          rest : walk (from next.0 paths) (Some (next.0, seen (k next.0) next.1)) rows ≡ cut_rows k rows
          rest =
              ap (λ b. walk (from next.0 paths) (Some (next.0, seen b next.1)) rows) (sym (known_is paths last now next chain.0 stands))
              ∙ if_out is
      by false is if_hidden if_out = rw (hidden_is paths last now next chain.0 stands, is) (if_hidden is)

  -- the pass over the rows of a tree, from its root on
  root_walk : (paths : List Path) → ArePathsRising paths → ((q : Path) → has paths q ≡ k q) → (node : Node) (rows : List Row)
      → AreTreeRows (([], node) ∷ rows)
      → walk paths None (([], node) ∷ rows) ≡ cut_rows k (([], node) ∷ rows)
  root_walk paths rising same node rows all =
      let known : begins [] (from [] paths) ≡ k [] = begins_from [] paths rising ∙ same [] in
      let stands : Stands (from [] paths) (Some (left_row (from [] paths) ([], node))) ([], node) = record {
        hiding = out_hiding ([], node) (begins [] (from [] paths)) refl known;
        rising = rising_from [] paths rising;
        left = λ q late. has_from [] q late paths ∙ same q;
      } in
      let rest =
      walk_is rows (from [] paths) (Some (left_row (from [] paths) ([], node))) ([], node) (chained [] ([], node) rows all) stands in
      λ i. ([], seen (known i) node) ∷ rest i

-- the first row of a tree is the root's
first_root : (p : Path) (node : Node) (rows : List Row) → AreTreeRows ((p, node) ∷ rows) → p ≡ []
first_root [] node rows all = refl
first_root (name ∷ rest) node rows all =
    let none = get_rows _ all.rising []
    ∙ find_after [] ((name ∷ rest, node) ∷ rows) (both_true refl (below_lower [] (name ∷ rest) rows refl (first_so _ _ all.rising))) in
    elim all.tree.root [ inl is ↦ absurd (none_not_some _ Dir none is) | inr is ↦ absurd (none_not_some _ FarDir none is) ]

-- the whole pass gives the rows of the pruned tree
pub walk_cuts : (paths : List Path) → ArePathsRising paths → (rows : List Row) → AreTreeRows rows
    → walk paths None rows ≡ cut_rows (has paths) rows
walk_cuts paths rising [] all = refl
walk_cuts paths rising (row ∷ rows) all =
    subst (λ (p : Path). AreTreeRows ((p, row.1) ∷ rows) → walk paths None ((p, row.1) ∷ rows) ≡ cut_rows (has paths) ((p, row.1) ∷ rows))
    (sym (first_root row.0 row.1 rows all))
    (root_walk (has paths) paths rising (λ q. refl) row.1 rows) all

-- ---- a step of the pass

at_front : (front : List Row) (row : Row) → slice_get (front ++ row ∷ []) (length front) ≡ Some row
at_front [] row = refl
at_front (first ∷ front) row = at_front front row

last_pushed : (rows : List Row) (row : Row) → last_row (rows ++ row ∷ []) ≡ Some row
last_pushed rows row =
    let at : length (rows ++ row ∷ []) - 1 ≡ length rows = omega (arith, length-append rows (row ∷ [])) in
    ap (slice_get (rows ++ row ∷ [])) at ∙ at_front rows row

-- what is out, and then what the rest of the rows gives, is what the rows give
abbrev pub IsWalked : List Path → List Path → List Row → List Row → ℕ → Type 0
IsWalked paths rest rows out i = out ++ walk rest (last_row out) (drop i rows) ≡ walk paths None rows

module _ (paths rest : List Path) (rows out : List Row) (i : ℕ) (row : Row) (lt : i < length rows) (is : row ≡ get_or rows i row)
    (so_far : IsWalked paths rest rows out i) where
  choice : (b : Bool) → is_hidden (last_row out) (parent_of row.0) ≡ b → walk rest (last_row out) (row ∷ drop (i + 1) rows)
      ≡ cond b (walk rest (last_row out) (drop (i + 1) rows))
      (left_row (from row.0 rest) row ∷ walk (from row.0 rest) (Some (left_row (from row.0 rest) row)) (drop (i + 1) rows))
  choice b here =
      ap
      (λ c. cond c (walk rest (last_row out) (drop (i + 1) rows))
      (left_row (from row.0 rest) row ∷ walk (from row.0 rest) (Some (left_row (from row.0 rest) row)) (drop (i + 1) rows)))
      here

  pub walked_over : is_hidden (last_row out) (parent_of row.0) ≡ true → IsWalked paths rest rows out (i + 1)
  walked_over hidden = passed_over (walk rest (last_row out)) (walk paths None rows) rows i out row lt is (choice true hidden) so_far

  out_next : is_hidden (last_row out) (parent_of row.0) ≡ false
      → IsWalked paths (from row.0 rest) rows (out ++ left_row (from row.0 rest) row ∷ []) (i + 1)
  out_next shown =
      ap (λ (last : Option Row). (out ++ left_row (from row.0 rest) row ∷ []) ++ walk (from row.0 rest) last (drop (i + 1) rows))
      (last_pushed out (left_row (from row.0 rest) row))
      ∙ put_out (walk rest (last_row out)) (walk paths None rows) rows i out row (left_row (from row.0 rest) row)
      (walk (from row.0 rest) (Some (left_row (from row.0 rest) row)) (drop (i + 1) rows)) lt is (choice false shown) so_far

  -- the same by the values that the code has
  pub walked_out : (known : Bool) (path : Path) (node : Node) (left : List Path) (new : List Row)
      → is_hidden (last_row out) (parent_of row.0) ≡ false → left ≡ from row.0 rest
      → known ≡ begins row.0 left → path ≡ row.0 → node ≡ seen known row.1 → new ≡ out ++ (path, node) ∷ []
      → IsWalked paths left rows new (i + 1)
  walked_out known path node left new shown left_is known_is path_is node_is new_is =
      rw (new_is, path_is, node_is, known_is, left_is) (out_next shown)
