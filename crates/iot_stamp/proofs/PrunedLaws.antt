-- What is at a path of a tree that is cut down to known paths.
use Rattle.std.proofs.Common.{◌≡◌, ℕ, Bool, true, false, cond, ◌||◌, ◌&&◌, IsSome, List, [], ◌∷◌, ◌++◌, Option, Some, None}
use Rattle.std.proofs.Common.{option_map, refl, ap, ◌∙◌, inl, inr}
use Rattle.std.specs.Cmp.{second_so}
use Rattle.std.specs.FinMap.{get}
use Rattle.iot_tree.specs.Snapshots.{is_known, is_reached, far, seen, prune}
use Rattle.iot_tree.specs.Tree.{Path, Nodes, IsTree, IsWhole}
use Rattle.iot_tree.specs.declared.nodes.Node.{Node}
use Rattle.iot_tree.specs.declared.nodes.Node.TheVariants.{Dir, File, FarDir, FarFile}
use Rattle.iot_tree.proofs.PruneLaws.{get_pruned}
use Rattle.iot_tree.proofs.SnapshotLaws.{all_push, reached_above}
use Rattle.iot_tree.proofs.TreeLaws.{none_some}

pub or_first : (a b : Bool) → (a || b) ≡ false → a ≡ false
or_first true b is = absurd cc
or_first false b is = refl

pub or_second : (a b : Bool) → (a || b) ≡ false → b ≡ false
or_second true b is = absurd cc
or_second false b is = is

-- in a whole tree each row is known
pub whole_known : (t : Nodes) → IsWhole t → (p : Path) (node : Node) → get t p ≡ Some node → is_known node ≡ true
whole_known t whole p Dir is = refl
whole_known t whole p (File bytes mode) is = refl
whole_known t whole p FarDir is = absurd (whole.no_far_dir p is)
whole_known t whole p (FarFile mode) is = absurd (whole.no_far_file p mode is)

pub whole_root : (t : Nodes) → IsTree t → IsWhole t → get t [] ≡ Some Dir
whole_root t tree whole = elim tree.root [ inl is ↦ is | inr is ↦ absurd (whole.no_far_dir [] is) ]

module _ (k : Path → Bool) where
  -- what is above a path that is reached is reached, and among k
  pub known_above : (q : Path) (name : List ℕ) (rest : Path) → is_reached k (q ++ name ∷ rest) ≡ true → k q ≡ true
  known_above q name rest reached = second_so (is_reached k q) _ (reached_above k q name rest reached)

  pub reached_push : (q : Path) (name : List ℕ) → is_reached k q ≡ true → k q ≡ true → is_reached k (q ++ name ∷ []) ≡ true
  reached_push q name reached here = all_push k q name ∙ (λ i. reached i && here i)

module _ (s : Nodes) (k : Path → Bool) where
  pub get_reached : (p : Path) → is_reached k p ≡ true → get (prune s k) p ≡ option_map (seen (k p)) (get s p)
  get_reached p is = get_pruned s k p ∙ ap (λ b. cond b (option_map (seen (k p)) (get s p)) None) is

  pub get_hidden : (p : Path) → is_reached k p ≡ false → get (prune s k) p ≡ None
  get_hidden p is = get_pruned s k p ∙ ap (λ b. cond b (option_map (seen (k p)) (get s p)) None) is

  -- a path among k that is reached keeps its row
  pub get_kept : (p : Path) → is_reached k p ≡ true → k p ≡ true → get (prune s k) p ≡ get s p
  get_kept p reached here = get_reached p reached ∙ ap (λ b. option_map (seen b) (get s p)) here ∙ same (get s p)
    where
      same : (o : Option Node) → option_map (seen true) o ≡ o
      same None = refl
      same (Some node) = refl

  -- one that is not is far
  pub get_far : (p : Path) → is_reached k p ≡ true → k p ≡ false → get (prune s k) p ≡ option_map far (get s p)
  get_far p reached away = get_reached p reached ∙ ap (λ b. option_map (seen b) (get s p)) away

  -- a row is reached
  pub row_reached : (p : Path) → IsSome (get (prune s k) p) → is_reached k p ≡ true
  row_reached p there = by (is_reached k p) refl
    where
      by : (b : Bool) → is_reached k p ≡ b → is_reached k p ≡ true
      by true is = is
      by false is = absurd (none_some _ (get_hidden p is) there)
