-- Rising lists of paths put together.
use Rattle.std.proofs.Common.{◌≡◌, Bool, true, false, ◌||◌, List, [], ◌∷◌, Ordering, refl, sym, ap, subst, ◌∙◌}
use Rattle.std.specs.FinMap.Entries.{by_order}
use Rattle.std.specs.List.{AllByRecursion}
use Rattle.std.specs.Ordering.{eq_by_cmp, ordering_reverse}
use Rattle.std.specs.declared.cmp.Ordering.TheVariants.{Less, Equal, Greater}
use Rattle.iot_text.specs.Paths.{path_cmp}
use Rattle.iot_text.proofs.PathsLaws.{path_same, path_total}
use Rattle.iot_tree.specs.Snapshots.{has, ArePathsRising}
use Rattle.iot_tree.specs.Tree.{Path}
use Rattle.iot_prune.specs.Joins.{joined_at, joined}
use Rattle.iot_prune.proofs.WalkLaws.{Before, before_later}

-- ---- what is in both lists together

or_assoc : (a b c : Bool) → (a || (b || c)) ≡ ((a || b) || c)
or_assoc true b c = refl
or_assoc false b c = refl

or_swap : (a b c : Bool) → (a || (b || c)) ≡ (b || (a || c))
or_swap true true c = refl
or_swap true false c = refl
or_swap false b c = refl

or_twice : (a b c : Bool) → (a || (b || c)) ≡ ((a || b) || (a || c))
or_twice true b c = refl
or_twice false b c = refl

module _ (p : Path) (rest : List Path → List Path) (q : Path) (found : Bool)
    (in_rest : (second : List Path) → has (rest second) q ≡ (found || has second q)) where
  has_joined_at : (second : List Path) → has (joined_at p rest second) q ≡ ((eq_by_cmp path_cmp q p || found) || has second q)
  has_joined_at [] = ap (λ b. eq_by_cmp path_cmp q p || b) (in_rest []) ∙ or_assoc (eq_by_cmp path_cmp q p) found false
  has_joined_at (x ∷ second) = by (path_cmp p x) refl (has_joined_at second)
    where
      by : (c : Ordering) → path_cmp p x ≡ c → has (joined_at p rest second) q ≡ ((eq_by_cmp path_cmp q p || found) || has second q)
          → has (by_order c (p ∷ rest (x ∷ second)) (p ∷ rest second) (x ∷ joined_at p rest second)) q
          ≡ ((eq_by_cmp path_cmp q p || found) || (eq_by_cmp path_cmp q x || has second q))
      by Less is more = ap (λ b. eq_by_cmp path_cmp q p || b) (in_rest (x ∷ second)) ∙ or_assoc (eq_by_cmp path_cmp q p) found _
      by Equal is more =
          ap (λ b. eq_by_cmp path_cmp q p || b) (in_rest second) ∙ or_twice (eq_by_cmp path_cmp q p) found (has second q)
          ∙ ap (λ (path : Path). (eq_by_cmp path_cmp q p || found) || (eq_by_cmp path_cmp q path || has second q)) (path_same p x is)
      by Greater is more =
          ap (λ b. eq_by_cmp path_cmp q x || b) more ∙ or_swap (eq_by_cmp path_cmp q x) (eq_by_cmp path_cmp q p || found) (has second q)

-- a path is among both together exactly if it is among one of them
pub has_joined : (first second : List Path) (q : Path) → has (joined first second) q ≡ (has first q || has second q)
has_joined [] second q = refl
has_joined (p ∷ first) second q = has_joined_at p (joined first) q (has first q) (λ other. has_joined first other q) second

-- ---- they rise

module _ (P : Path → Type 0) where
  all_joined_at : (p : Path) (rest : List Path → List Path)
      → ((second : List Path) → AllByRecursion P second → AllByRecursion P (rest second)) → P p
      → (second : List Path) → AllByRecursion P second → AllByRecursion P (joined_at p rest second)
  all_joined_at p rest each here [] all = (here, each [] tt)
  all_joined_at p rest each here (x ∷ second) all = by (path_cmp p x) (all_joined_at p rest each here second all.1)
    where
      by : (c : Ordering) → AllByRecursion P (joined_at p rest second)
          → AllByRecursion P (by_order c (p ∷ rest (x ∷ second)) (p ∷ rest second) (x ∷ joined_at p rest second))
      by Less more = (here, each (x ∷ second) all)
      by Equal more = (here, each second all.1)
      by Greater more = (all.0, more)

  all_joined : (first second : List Path) → AllByRecursion P first → AllByRecursion P second → AllByRecursion P (joined first second)
  all_joined [] second one two = two
  all_joined (p ∷ first) second one two = all_joined_at p (joined first) (λ other. all_joined first other one.1) one.0 second two

module _ (p : Path) (first : List Path) (before : Before p first)
    (more : (second : List Path) → ArePathsRising second → ArePathsRising (joined first second)) where
  rising_at : (second : List Path) → ArePathsRising second → ArePathsRising (joined_at p (joined first) second)
  rising_at [] rising = (all_joined (λ q. path_cmp p q ≡ Less) first [] before tt, more [] tt)
  rising_at (x ∷ second) rising = by (path_cmp p x) refl (rising_at second rising.1)
    where
      by : (c : Ordering) → path_cmp p x ≡ c → ArePathsRising (joined_at p (joined first) second)
          → ArePathsRising (by_order c (p ∷ joined first (x ∷ second)) (p ∷ joined first second) (x ∷ joined_at p (joined first) second))
      by Less is rest = (
        all_joined (λ q. path_cmp p q ≡ Less) first (x ∷ second) before (is, before_later p x is second rising.0),
        more (x ∷ second) rising,
      )
      by Equal is rest =
          let after : Before p second = subst (λ (path : Path). Before path second) (sym (path_same p x is)) rising.0 in
          (all_joined (λ q. path_cmp p q ≡ Less) first second before after, more second rising.1)
      by Greater is rest =
          let less : path_cmp x p ≡ Less = path_total.antisymm x p ∙ ap ordering_reverse is in
          let all : Before x (joined_at p (joined first) second) =
          all_joined_at (λ q. path_cmp x q ≡ Less) p (joined first)
          (λ other. all_joined (λ q. path_cmp x q ≡ Less) first other (before_later x p less first before)) less second rising.0 in
          (all, rest)

-- rising lists together rise
pub joined_rising : (first second : List Path) → ArePathsRising first → ArePathsRising second → ArePathsRising (joined first second)
joined_rising [] second one two = two
joined_rising (p ∷ first) second one two = rising_at p first one.0 (λ other. joined_rising first other one.1) second two
