-- What is far above a path is far above where its row comes from.
use Rattle.std.proofs.Common.{◌≡◌, ℕ, Bool, false, ◌||◌, IsSome, List, [], ◌∷◌, ◌++◌, map, Some, refl, sym, ap, subst, ◌∙◌}
use Rattle.std.proofs.Common.{append_assoc}
use Rattle.std.proofs.lemmas.List.{append-nil}
use Rattle.std.specs.List.{list_any}
use Rattle.std.specs.FinMap.{get}
use Rattle.iot_tree.specs.Tree.{Nodes, IsTree, Path}
use Rattle.iot_tree.specs.Ancestors.{proper_prefixes}
use Rattle.iot_tree.specs.Questions.{is_far_above, is_far_dir}
use Rattle.iot_tree.proofs.AncestorLaws.{list_any-map}
use Rattle.iot_tree.proofs.TreeLaws.{ancestors}
use Rattle.iot_tree.proofs.WithinLaws.{IsOutside, side, inside, outside}
use Rattle.iot_access.specs.Sources.{hidden, carried}
use Rattle.iot_access.proofs.TiedLaws.{Sources, no_source, same_some, hidden_inside, hidden_outside, carried_inside, carried_outside}

-- tests that agree on all paths above
any_same : (f g : Path → Bool) (p : Path) → ((q : Path) (name : List ℕ) (rest : Path) → p ≡ q ++ name ∷ rest → f q ≡ g q)
    → list_any f (proper_prefixes p) ≡ list_any g (proper_prefixes p)
any_same f g [] same = refl
any_same f g (a ∷ p) same =
    let rest : list_any f (map (λ path. a ∷ path) (proper_prefixes p)) ≡ list_any g (map (λ path. a ∷ path) (proper_prefixes p)) =
    list_any-map f a (proper_prefixes p)
    ∙ any_same (λ path. f (a ∷ path)) (λ path. g (a ∷ path)) p
    (λ q name tail is. same (a ∷ q) name tail (ap (λ (path : Path). a ∷ path) is))
    ∙ sym (list_any-map g a (proper_prefixes p)) in
    λ i. same [] a p refl i || rest i

-- a test that no path above the first part meets
pub any_under : (f : Path → Bool) (a rest : Path) → ((q : Path) (name : List ℕ) (tail : Path) → a ≡ q ++ name ∷ tail → f q ≡ false)
    → list_any f (proper_prefixes (a ++ rest)) ≡ list_any (λ r. f (a ++ r)) (proper_prefixes rest)
any_under f [] rest none = refl
any_under f (n ∷ a) rest none =
    ap (λ b. b || list_any f (map (λ path. n ∷ path) (proper_prefixes (a ++ rest)))) (none [] n a refl)
    ∙ list_any-map f n (proper_prefixes (a ++ rest))
    ∙ any_under (λ path. f (n ∷ path)) a rest (λ q name tail is. none (n ∷ q) name tail (ap (λ (path : Path). n ∷ path) is))

pub far_same : (t u : Nodes) (k : Path) → ((q : Path) (name : List ℕ) (rest : Path) → k ≡ q ++ name ∷ rest → get t q ≡ get u q)
    → is_far_above t k ≡ is_far_above u k
far_same t u k same =
    any_same (λ above. is_far_dir (get t above)) (λ above. is_far_dir (get u above)) k
    (λ q name rest is. ap is_far_dir (same q name rest is))

-- below a row of a tree only what is at or below that row can be far
far_under : (t : Nodes) → IsTree t → (a rest : Path) → IsSome (get t a)
    → is_far_above t (a ++ rest) ≡ list_any (λ r. is_far_dir (get t (a ++ r))) (proper_prefixes rest)
far_under t tree a rest mapped =
    any_under (λ above. is_far_dir (get t above)) a rest (λ q name tail is.
    ap is_far_dir (ancestors t tree q name tail (subst (λ (path : Path). IsSome (get t path)) is mapped)))

pub above_outside : (p k q : Path) (name : List ℕ) (rest : Path) → IsOutside p k → k ≡ q ++ name ∷ rest → IsOutside p q
above_outside p k q name rest out is tail same =
    out (tail ++ name ∷ rest) (is ∙ ap (λ (path : Path). path ++ name ∷ rest) same ∙ append_assoc p tail (name ∷ rest))

-- what is far above a path is far above its source
abbrev pub FarTied : Sources → Nodes → Nodes → Type 0
FarTied s t u = (k o : Path) → s k ≡ Some o → is_far_above u k ≡ is_far_above t o

pub far_first : (t : Nodes) → FarTied (λ k. Some k) t t
far_first t k o is = ap (is_far_above t) (same_some k o is)

-- nothing is far above that was not, if no row becomes a far directory or ceases to be one
pub far_alike : (u v : Nodes) → ((k : Path) → is_far_dir (get v k) ≡ is_far_dir (get u k)) → (k : Path)
    → is_far_above v k ≡ is_far_above u k
far_alike u v same k =
    any_same (λ above. is_far_dir (get v above)) (λ above. is_far_dir (get u above)) k (λ q name rest is. same q)

pub far_hidden : (s : Sources) (t u v : Nodes) (p : Path) → FarTied s t u → ((k : Path) → IsOutside p k → get v k ≡ get u k)
    → FarTied (hidden p s) t v
far_hidden s t u v p old else k o is = elim (side p k) [
  | inside rest at test ↦ absurd (no_source o (sym (hidden_inside p s k rest at) ∙ is))
  | outside out test ↦
      far_same v u k (λ q name rest above. else q (above_outside p k q name rest out above))
      ∙ old k o (sym (hidden_outside p s k out) ∙ is)
]

pub far_moved : (u v : Nodes) (p q : Path) → IsTree u → IsTree v → IsSome (get u p)
    → ((rest : Path) → get v (q ++ rest) ≡ get u (p ++ rest)) → (rest : Path) → is_far_above v (q ++ rest) ≡ is_far_above u (p ++ rest)
far_moved u v p q tree_u tree_v mapped moved rest =
    let there : IsSome (get v q) = subst IsSome (sym (ap (get v) (sym (append-nil q)) ∙ moved [] ∙ ap (get u) (append-nil p))) mapped in
    far_under v tree_v q rest there ∙ (λ i. list_any (λ r. is_far_dir (moved r i)) (proper_prefixes rest))
    ∙ sym (far_under u tree_u p rest mapped)

pub far_carried : (s : Sources) (t u v : Nodes) (p q : Path) → FarTied s t u → IsTree u → IsTree v → IsSome (get u p)
    → ((rest : Path) → get v (q ++ rest) ≡ get u (p ++ rest)) → ((k : Path) → IsOutside p k → IsOutside q k → get v k ≡ get u k)
    → FarTied (carried p q s) t v
far_carried s t u v p q old tree_u tree_v mapped moved else k o is = elim (side q k) [
  | inside rest at test ↦
      ap (is_far_above v) at ∙ far_moved u v p q tree_u tree_v mapped moved rest
      ∙ old (p ++ rest) o (sym (carried_inside p q s k rest at) ∙ is)
  | outside out_q test ↦ elim (side p k) [
    | inside rest at test ↦ absurd (no_source o (sym (carried_outside p q s k out_q ∙ hidden_inside p s k rest at) ∙ is))
    | outside out_p test ↦
        far_same v u k (λ a name rest above. else a (above_outside p k a name rest out_p above) (above_outside q k a name rest out_q above))
        ∙ old k o (sym (carried_outside p q s k out_q ∙ hidden_outside p s k out_p) ∙ is)
  ]
]
