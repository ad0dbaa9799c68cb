-- What a stamped tree has at a path.
use Rattle.std.proofs.Common.{◌≡◌, ℕ, Bool, cond, Option, Some, None, option_map, refl, sym, ap, ◌∙◌}
use Rattle.std.specs.FinMap.{get, same_map}
use Rattle.iot_tree.specs.Tree.{Path, Nodes}
use Rattle.iot_tree.specs.declared.nodes.Node.{Node}
use Rattle.iot_stamp.proofs.MappedLaws.{get_mapped}
use Rattle.iot_text.proofs.PathsLaws.{path_total, path_same}
use Rattle.iot_tree.specs.Snapshots.{is_known}
use Rattle.iot_stamp.specs.Stamps.{Stamps, nodes_of, stamp_at, stamp_in, stamped_node, with_stamps, FarZero}

pub get_nodes : (t : Stamps) (p : Path) → get (nodes_of t) p ≡ option_map (λ (row : Node × ℕ). row.0) (get t p)
get_nodes t p = get_mapped (λ path (row : Node × ℕ). row.0) t p

pub get_with : (f : Path → ℕ) (t : Nodes) (p : Path) → get (with_stamps f t) p ≡ option_map (λ node. stamped_node node (f p)) (get t p)
get_with f t p = get_mapped (λ path node. stamped_node node (f path)) t p

-- the nodes of a tree with stamps are its nodes
pub nodes_with : (f : Path → ℕ) (t : Nodes) → nodes_of (with_stamps f t) ≡ t
nodes_with f t = same_map path_total path_same _ _ (λ p.
    get_nodes (with_stamps f t) p ∙ ap (option_map (λ (row : Node × ℕ). row.0)) (get_with f t p) ∙ back (get t p) (f p))
  where
    back : (o : Option Node) (n : ℕ) → option_map (λ (row : Node × ℕ). row.0) (option_map (λ node. stamped_node node n) o) ≡ o
    back None n = refl
    back (Some node) n = refl

-- a row of a tree with stamps
pub record WithRow (f : Path → ℕ) (t : Nodes) (p : Path) (a : Node) (n : ℕ) : Type 0 where
  pub node : get t p ≡ Some a
  pub stamp : n ≡ cond (is_known a) (f p) 0

pub with_row : (f : Path → ℕ) (t : Nodes) (p : Path) (a : Node) (n : ℕ) → get (with_stamps f t) p ≡ Some (a, n) → WithRow f t p a n
with_row f t p a n is = by (get t p) refl (sym (get_with f t p) ∙ is)
  where
    by : (o : Option Node) → get t p ≡ o → option_map (λ node. stamped_node node (f p)) o ≡ Some (a, n) → WithRow f t p a n
    by None here is = let never : None ≡ Some (a, n) = is in absurd cc
    by (Some node) here is =
        let both : stamped_node node (f p) ≡ (a, n) = cc in
        let one : node ≡ a = ap (λ (row : Node × ℕ). row.0) both in
        record {
          node = here ∙ ap (λ (x : Node). Some x) one;
          stamp = sym (ap (λ (row : Node × ℕ). row.1) both) ∙ ap (λ (x : Node). cond (is_known x) (f p) 0) one;
        }

pub with_far_zero : (f : Path → ℕ) (t : Nodes) → FarZero (with_stamps f t)
with_far_zero f t p a n is far = let row = with_row f t p a n is in row.stamp ∙ ap (λ (b : Bool). cond b (f p) 0) far

pub node_some : (t : Stamps) (p : Path) (a : Node) (n : ℕ) → get t p ≡ Some (a, n) → get (nodes_of t) p ≡ Some a
node_some t p a n is = get_nodes t p ∙ ap (option_map (λ (row : Node × ℕ). row.0)) is

pub stamp_some : (t : Stamps) (p : Path) (a : Node) (n : ℕ) → get t p ≡ Some (a, n) → stamp_at t p ≡ n
stamp_some t p a n is = ap stamp_in is

-- a row from its node and its stamp
pub row_back : (t : Stamps) (p : Path) (a : Node) → get (nodes_of t) p ≡ Some a → get t p ≡ Some (a, stamp_at t p)
row_back t p a is = by (get t p) (sym (get_nodes t p) ∙ is)
  where
    by : (o : Option (Node × ℕ)) → option_map (λ (row : Node × ℕ). row.0) o ≡ Some a → o ≡ Some (a, stamp_in o)
    by None is = let never : ◌≡◌ {A = Option Node} None (Some a) = is in absurd cc
    by (Some (b, n)) is = let one : b ≡ a = cc in ap (λ (x : Node). Some (x, n)) one
