-- Rows of a tree, and one row more.
use Rattle.std.proofs.Common.{◌≡◌, ℕ, List, [], ◌∷◌, ◌++◌, refl, sym, ap, ◌∙◌, ◌+◌, ◌<◌, ◌≤◌, Bool, true, false, IsTrue, Some, None}
use Rattle.std.proofs.Common.{length, take, drop, get_or, arith, ◌≢◌, length-append, ◌⊎◌, IsSome, Option, option_and_then, append_assoc}
use Rattle.std.proofs.Common.{subst, inl, inr, ◌-◌, nat_eq, slice_get, MatchOption, ◌==◌, ◌↔◌}
use Rattle.std.proofs.lemmas.Bool.{both_ways}
use Rattle.std.proofs.lemmas.List.{append-nil, take_more}
use Rattle.std.proofs.lemmas.Slice.Eq.{starts_is}
use Rattle.std.specs.Cmp.Lexicographic.{pointwise, bytes_decides}
use Rattle.std.specs.FinMap.{find, get}
use Rattle.std.specs.FinMap.Entries.{put}
use Rattle.std.specs.List.{starts_with}
use Rattle.std.specs.declared.cmp.Ordering.TheVariants.{Less}
use borrow.Author.Tests.{eqb-true}
use Rattle.iot_text.specs.Paths.{path_cmp, parent_of, IsBelow}
use Rattle.iot_tree.specs.Follows.{HasDir, Follows}
use Rattle.iot_tree.specs.Place.{AllBefore}
use Rattle.iot_tree.specs.Questions.{is_dir, is_known_dir}
use Rattle.iot_tree.specs.Rows.{map_of, AreTreeRows, IsFirstBadRow}
use Rattle.iot_tree.specs.Tree.{Path, Row, Nodes}
use Rattle.iot_tree.specs.declared.nodes.Node.{Node}
use Rattle.iot_tree.specs.declared.nodes.Node.TheVariants.{Dir, File, FarDir, FarFile}
use Rattle.iot_tree.proofs.ChainLaws.{follows}
use Rattle.iot_tree.proofs.PlaceLaws.{find_gap, put_gap, before_higher, front_before, before_push}
use Rattle.iot_tree.proofs.RowLaws.{get_rows, get_middle, put_tree}
use Rattle.iot_tree.proofs.TreeLaws.{none_not_some, ancestors}

is_mapped : (t : Nodes) (p : Path) (node : Node) → get t p ≡ Some node → IsSome (get t p)
is_mapped t p node is = rw is refl

module _ (front : List Row) (last row : Row) (all : AreTreeRows (front ++ last ∷ [])) where
  -- all rows come before a path that the last one comes before
  rows_before : (p : Path) → path_cmp last.0 p ≡ Less → AllBefore p (front ++ last ∷ [])
  rows_before p lt = before_push p front last (before_higher last.0 p front lt (front_before front last [] all.rising)) lt

  known_dir : (path : Path) → HasDir last path → get (map_of (front ++ last ∷ [])) path ≡ Some Dir
  known_dir path (inl here) =
      subst (λ (p : Path). get (map_of (front ++ last ∷ [])) p ≡ Some Dir) here.0
      (get_middle front last [] all.rising ∙ ap (λ (node : Node). Some node) here.1)
  known_dir path (inr below) =
      ancestors (map_of (front ++ last ∷ [])) all.tree path below.0 below.1
      (subst (λ (p : Path). IsSome (get (map_of (front ++ last ∷ [])) p)) below.2
      (is_mapped (map_of (front ++ last ∷ [])) last.0 last.1 (get_middle front last [] all.rising)))

  parent_by : (above : Option Path) → MatchOption above ⊥ (HasDir last)
      → option_and_then (get (map_of (front ++ last ∷ []))) above ≡ Some Dir
  parent_by None has = absurd has
  parent_by (Some parent) has = known_dir parent has

  -- a row that may follow makes a tree with the rows before it
  pub grown : Follows last row → AreTreeRows ((front ++ last ∷ []) ++ row ∷ [])
  grown next =
      let before = rows_before row.0 next.rises in
      let absent : get (map_of (front ++ last ∷ [])) row.0 ≢ Some Dir = λ is.
      none_not_some _ Dir
      (get_rows (front ++ last ∷ []) all.rising row.0 ∙ ap (find path_cmp row.0) (sym (append-nil (front ++ last ∷ [])))
      ∙ find_gap row.0 (front ++ last ∷ []) [] before refl)
      is in
      let new : put path_cmp row.0 row.1 (front ++ last ∷ []) ≡ (front ++ last ∷ []) ++ row ∷ [] =
      ap (put path_cmp row.0 row.1) (sym (append-nil (front ++ last ∷ []))) ∙ put_gap row.0 row.1 (front ++ last ∷ []) [] before refl in
      subst AreTreeRows new (put_tree (front ++ last ∷ []) all row.0 row.1 (parent_by (parent_of row.0) next.parent) absent)

  -- and a row that makes a tree with the rows before it may follow
  pub may_follow : AreTreeRows ((front ++ last ∷ []) ++ row ∷ []) → Follows last row
  may_follow more = follows front last row [] (subst AreTreeRows (append_assoc front (last ∷ []) (row ∷ [])) more)

-- ---- the tests of the code

known_dir_is : (node : Node) → is_known_dir node ≡ true → node ≡ Dir
known_dir_is Dir is = refl
known_dir_is (File bytes mode) is = absurd cc
known_dir_is FarDir is = absurd cc
known_dir_is (FarFile mode) is = absurd cc

nonempty : (path rest : Path) (p : Path) → p ≡ path ++ rest → length path < length p → IsBelow p path
nonempty path [] p is longer = absurd (omega (arith, ap length is, ap length (append-nil path)))
nonempty path (name ∷ rest) p is longer = (name, rest, is)

whole_is : (path rest : Path) (p : Path) → p ≡ path ++ rest → length p ≤ length path → p ≡ path
whole_is path [] p is short = is ∙ append-nil path
whole_is path (name ∷ rest) p is short = absurd (omega (arith, ap length is, length-append path (name ∷ rest)))

module _ (last : Row) (path : Path) (begins : Bool) (tests : begins ≡ starts_with (pointwise nat_eq) last.0 path) where
  both : (begins ≡ true → last.0 ≡ path ++ drop (length path) last.0) × ((rest : Path) → last.0 ≡ path ++ rest → begins ≡ true)
  both = starts_is bytes_decides last.0 path begins tests

  -- a row whose path does not begin with a path has no directory there
  pub not_begun : begins ≡ false → HasDir last path → ⊥
  not_begun no_front (inl here) = both_ways _ no_front (both.1 [] (here.0 ∙ sym (append-nil path)))
  not_begun no_front (inr below) = both_ways _ no_front (both.1 (below.0 ∷ below.1) below.2)

  -- one whose path is longer has one there
  pub longer_has : begins ≡ true → length path < length last.0 → HasDir last path
  longer_has front longer = inr (nonempty path (drop (length path) last.0) last.0 (both.0 front) longer)

  -- and one whose path is the same has one there exactly if it is one
  pub same_has : begins ≡ true → length last.0 ≤ length path → (is_known_dir last.1 ≡ true) ↔ HasDir last path
  same_has front short = (λ known. inl (whole_is path _ last.0 (both.0 front) short, known_dir_is last.1 known), back)
    where
      back : HasDir last path → is_known_dir last.1 ≡ true
      back (inl here) = ap is_known_dir here.1
      back (inr below) = absurd (omega (arith, ap length below.2, length-append path (below.0 ∷ below.1)))

some_dir : (node : Node) → (Some node ≡ Some Dir) ⊎ (Some node ≡ Some FarDir) → IsTrue (is_dir node)
some_dir Dir is = refl
some_dir (File bytes mode) (inl is) = absurd cc
some_dir (File bytes mode) (inr is) = absurd cc
some_dir FarDir is = refl
some_dir (FarFile mode) (inl is) = absurd cc
some_dir (FarFile mode) (inr is) = absurd cc

no_dir : (◌≡◌ {A = Option Node} None (Some Dir)) ⊎ (◌≡◌ {A = Option Node} None (Some FarDir)) → ⊥
no_dir (inl is) = cc
no_dir (inr is) = cc

-- a row that makes a tree alone is a root
pub root_only : (p : Path) (node : Node) → AreTreeRows ((p, node) ∷ []) → (p ≡ []) × IsTrue (is_dir node)
root_only [] node all = (refl, some_dir node (rw (get_rows (([], node) ∷ []) all.rising []) at all.tree.root))
root_only (name ∷ rest) node all = absurd (no_dir (rw (get_rows ((name ∷ rest, node) ∷ []) all.rising []) at all.tree.root))

-- no row makes no tree
pub no_rows : AreTreeRows [] → ⊥
no_rows all = no_dir (rw (get_rows [] all.rising []) at all.tree.root)

-- if there is no row, the first bad one is the one that is missing
pub first_missing : (rows : List Row) → slice_get rows 0 ≡ None → IsFirstBadRow rows 0
first_missing [] none = record { before = λ lt. absurd (omega arith); bad = no_rows }
first_missing (row ∷ rows) none = absurd cc

-- a path without a name is the root
pub empty_is : (p : Path) → (length p == 0) ≡ true → p ≡ []
empty_is [] is = refl
empty_is (name ∷ rest) is = absurd (omega (arith, eqb-true (length (name ∷ rest)) 0 is))

-- A step of the pass over the rows.
module _ (rows : List Row) (at : ℕ) (later : 0 < at) (in_range : at < length rows) (last row : Row)
    (is_last : last ≡ get_or rows (at - 1) last) (is_row : row ≡ get_or rows at row) (so_far : AreTreeRows (take at rows)) where
  cut : take at rows ≡ take (at - 1) rows ++ last ∷ []
  cut = subst (λ (n : ℕ). take n rows ≡ take (at - 1) rows ++ last ∷ []) {x = at - 1 + 1} {y = at} (omega arith)
      (take_more rows (at - 1) last (omega arith) ∙ ap (λ (r : Row). take (at - 1) rows ++ r ∷ []) (sym is_last))

  cut_more : take (at + 1) rows ≡ (take (at - 1) rows ++ last ∷ []) ++ row ∷ []
  cut_more =
      take_more rows at row in_range ∙ ap (λ (r : Row). take at rows ++ r ∷ []) (sym is_row)
      ∙ ap (λ (front : List Row). front ++ row ∷ []) cut

  pub grow_at : Follows last row → AreTreeRows (take (at + 1) rows)
  grow_at follows = subst AreTreeRows (sym cut_more) (grown (take (at - 1) rows) last row (subst AreTreeRows cut so_far) follows)

  pub follow_at : AreTreeRows (take (at + 1) rows) → Follows last row
  follow_at more = may_follow (take (at - 1) rows) last row (subst AreTreeRows cut so_far) (subst AreTreeRows cut_more more)
