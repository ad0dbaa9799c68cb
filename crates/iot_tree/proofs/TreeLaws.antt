-- What holds of every tree, and what keeps a tree a tree.
use Rattle.std.proofs.Common.{◌≡◌, ℕ, List, [], ◌∷◌, ◌++◌, Ordering, refl, sym, ap, ◌∙◌, zero, suc, ◌≤◌, false, Some, None, length, arith}
use Rattle.std.proofs.Common.{◌≢◌, length-append, ◌⊎◌, cond, IsSome, Option, option_and_then, append_assoc, subst, inl, inr}
use Rattle.std.specs.FinMap.{get, insert, get-insert}
use Rattle.std.specs.Ordering.{eq_by_cmp, is_eq}
use Rattle.std.specs.declared.cmp.Ordering.TheVariants.{Less, Equal, Greater}
use Rattle.iot_text.specs.Paths.{path_cmp, parent_of}
use Rattle.iot_text.proofs.PathsLaws.{parent_of-push, path_same, path_total}
use Rattle.iot_tree.specs.Questions.{is_far_dir, is_far_above}
use Rattle.iot_tree.specs.Tree.{Path, Nodes, parent_node, IsTree}
use Rattle.iot_tree.specs.declared.nodes.Node.{Node}
use Rattle.iot_tree.specs.declared.nodes.Node.TheVariants.{Dir}
use Rattle.iot_tree.proofs.AncestorLaws.{ends, below_not_root, none_above, at_root, in_name}

-- two paths are one, or they do not tie
by_cmp : (q p : Path) (c : Ordering) → path_cmp q p ≡ c → (q ≡ p) ⊎ (is_eq c ≡ false)
by_cmp q p Less is = inr refl
by_cmp q p Equal is = inl (path_same q p is)
by_cmp q p Greater is = inr refl

pub same_or_apart : (q p : Path) → (q ≡ p) ⊎ (eq_by_cmp path_cmp q p ≡ false)
same_or_apart q p = by_cmp q p (path_cmp q p) refl

-- paths that are not equal do not tie
pub apart : (q p : Path) → q ≢ p → eq_by_cmp path_cmp q p ≡ false
apart q p differ = elim (same_or_apart q p) [ inl same ↦ absurd (differ same) | inr is ↦ is ]

-- an insert leaves every other row
pub get-insert_other : (t : Nodes) (p : Path) (node : Node) (q : Path) → eq_by_cmp path_cmp q p ≡ false → get (insert t p node) q ≡ get t q
get-insert_other t p node q is = get-insert path_total t p node q ∙ ap (λ b. cond b (Some node) (get t q)) is

is_some : (t : Nodes) (p : Path) (node : Node) → get t p ≡ Some node → IsSome (get t p)
is_some t p node is = rw is refl

-- what is none is not some
pub none_some : (o : Option Node) → o ≡ None → IsSome o → ⊥
none_some None none mapped = cc
none_some (Some node) none mapped = cc

pub none_not_some : (o : Option Node) (a : Node) → o ≡ None → o ≡ Some a → ⊥
none_not_some o a none some = let never : None ≡ Some a = sym none ∙ some in cc

module _ (t : Nodes) (tree : IsTree t) where
  -- the parent of a row is a known directory
  parent_known : (front : Path) (name : List ℕ) → IsSome (get t (front ++ name ∷ [])) → get t front ≡ Some Dir
  parent_known front name mapped =
      ap (option_and_then (get t)) (sym (parent_of-push front name))
      ∙ tree.parents (front ++ name ∷ []) (below_not_root front name []) mapped

  ancestors_by : (q : Path) (k : ℕ) (name : List ℕ) (rest : Path) → length rest ≤ k → IsSome (get t (q ++ name ∷ rest)) → get t q ≡ Some Dir
  ancestors_by q k name [] short mapped = parent_known q name mapped
  ancestors_by q zero name (next ∷ rest) short mapped = absurd (omega arith)
  ancestors_by q (suc k) name (next ∷ rest) short mapped = elim (ends (next ∷ rest)) [
    | at_root is ↦ absurd cc
    | in_name front last is ↦
        let whole : q ++ name ∷ next ∷ rest ≡ (q ++ name ∷ front) ++ last ∷ [] = ap (λ (tail : Path). q ++ name ∷ tail) is
        ∙ sym (append_assoc q (name ∷ front) (last ∷ [])) in
        let known : get t (q ++ name ∷ front)
        ≡ Some Dir = parent_known (q ++ name ∷ front) last (subst (λ (path : Path). IsSome (get t path)) whole mapped) in
        ancestors_by q k name front (omega (arith, length-append front (last ∷ []), ap length is)) (is_some t _ Dir known)
  ]

  -- a path above a row is a known directory
  pub ancestors : (q : Path) (name : List ℕ) (rest : Path) → IsSome (get t (q ++ name ∷ rest)) → get t q ≡ Some Dir
  ancestors q name rest mapped = ancestors_by q (length rest) name rest (omega arith) mapped

  -- a row has no far directory above
  pub no_far_above : (p : Path) → IsSome (get t p) → is_far_above t p ≡ false
  no_far_above p mapped = none_above (λ above. is_far_dir (get t above)) p (λ q name rest is.
      let known : get t q ≡ Some Dir = ancestors q name rest (subst (λ (path : Path). IsSome (get t path)) is mapped) in
      ap is_far_dir known)

  -- a row's parent stays if another row is put, but not in place of a known directory
  parent_kept : (p : Path) (node : Node) → get t p ≢ Some Dir → (above : Option Path) → option_and_then (get t) above ≡ Some Dir
      → option_and_then (get (insert t p node)) above ≡ Some Dir
  parent_kept p node no_dir None known = known
  parent_kept p node no_dir (Some parent) known =
      get-insert_other t p node parent (apart parent p (λ here. no_dir (subst (λ (path : Path). get t path ≡ Some Dir) here known))) ∙ known

  -- a row put in a known directory, and not in place of one, leaves a tree
  pub tree_insert : (p : Path) (node : Node) → parent_node t p ≡ Some Dir → get t p ≢ Some Dir → IsTree (insert t p node)
  tree_insert p node parent no_dir =
      let below_root : [] ≢ p = λ is. none_not_some _ Dir refl (subst (λ (path : Path). parent_node t path ≡ Some Dir) (sym is) parent) in
      record {
        root = rw (get-insert_other t p node [] (apart [] p below_root)) tree.root;
        parents = λ q not_root mapped. parent_kept p node no_dir (parent_of q) (elim (same_or_apart q p) [
          | inl same ↦ subst (λ (path : Path). parent_node t path ≡ Some Dir) (sym same) parent
          | inr is ↦ tree.parents q not_root (subst IsSome (get-insert_other t p node q is) mapped)
        ]);
      }
