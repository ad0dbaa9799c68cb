-- The first rows of a tree make a tree.
use Rattle.std.proofs.Common.{◌≡◌, ◌≢◌, ℕ, zero, suc, ◌+◌, Some, IsSome, List, [], ◌∷◌, ◌++◌, take, append_assoc, refl, sym, subst}
use Rattle.std.proofs.Common.{arith}
use Rattle.std.specs.FinMap.{get}
use Rattle.iot_tree.specs.Rows.{map_of, AreTreeRows}
use Rattle.iot_tree.specs.Tree.{Path, Row, parent_node}
use Rattle.iot_tree.specs.declared.nodes.Node.{Node}
use Rattle.iot_tree.specs.declared.nodes.Node.TheVariants.{Dir}
use Rattle.iot_tree.proofs.ChainLaws.{Chained, chained}
use Rattle.iot_tree.proofs.FollowLaws.{grown, no_rows}
use Rattle.iot_tree.proofs.RowLaws.{get_rows}
use Rattle.iot_tree.proofs.TreeLaws.{none_some}
use Rattle.iot_stamp.proofs.StackLaws.{first_root}

-- rows of a tree, and the first of those that follow
front_tree : (front : List Row) (last : Row) (rows : List Row) (n : ℕ) → AreTreeRows (front ++ last ∷ []) → Chained last rows
    → AreTreeRows (front ++ last ∷ take n rows)
front_tree front last rows zero all chain = all
front_tree front last [] (suc n) all chain = all
front_tree front last (row ∷ rows) (suc n) all chain =
    subst AreTreeRows (append_assoc front (last ∷ []) (row ∷ take n rows))
    (front_tree (front ++ last ∷ []) row rows n (grown front last row all chain.0) chain.1)

-- the first row of a tree is one
root_tree : (node : Node) (rows : List Row) → AreTreeRows (([], node) ∷ rows) → AreTreeRows (([], node) ∷ [])
root_tree node rows all = record {
  rising = refl;
  tree = record {
    root = rw (get_rows (([], node) ∷ []) refl []) (rw (get_rows (([], node) ∷ rows) all.rising []) at all.tree.root);
    parents = lacks;
  };
}
  where
    lacks : (p : Path) → p ≢ [] → IsSome (get (map_of (([], node) ∷ [])) p) → parent_node (map_of (([], node) ∷ [])) p ≡ Some Dir
    lacks [] below mapped = absurd (below refl)
    lacks (name ∷ p) below mapped = absurd (none_some _ (get_rows (([], node) ∷ []) refl (name ∷ p)) mapped)

first_tree : (row : Row) (rows : List Row) → AreTreeRows (row ∷ rows) → AreTreeRows (row ∷ [])
first_tree row rows all =
    let root = first_root row rows all in
    subst (λ (p : Path). AreTreeRows ((p, row.1) ∷ [])) (sym root)
    (root_tree row.1 rows (subst (λ (p : Path). AreTreeRows ((p, row.1) ∷ rows)) root all))

-- rows of a tree, cut after the first or later
pub take_tree : (rows : List Row) → AreTreeRows rows → (n : ℕ) → AreTreeRows (take (n + 1) rows)
take_tree [] all n = absurd (no_rows all)
take_tree (row ∷ rows) all n =
    let on : suc n ≡ n + 1 = omega arith in
    subst (λ (m : ℕ). AreTreeRows (take m (row ∷ rows))) on
    (front_tree [] row rows n (first_tree row rows all) (chained [] row rows all))
