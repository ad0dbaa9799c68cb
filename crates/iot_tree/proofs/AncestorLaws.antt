-- Parents and the paths above a path.
use Rattle.std.proofs.Common.{◌≡◌, ℕ, List, [], ◌∷◌, ◌++◌, refl, ap, ◌∙◌, Bool, true, false, ◌≢◌, ◌||◌, map}
use Rattle.std.specs.List.{list_any}
use Rattle.iot_tree.specs.Ancestors.{proper_prefixes}
use Rattle.iot_tree.specs.Tree.{Path}

-- a path is the root, or it ends in a name
pub data Ends (p : Path) : Type 0 where
  at_root : p ≡ [] → Ends p
  in_name : (front : Path) (name : List ℕ) → p ≡ front ++ name ∷ [] → Ends p

ends_cons : (a : List ℕ) (p : Path) → Ends p → Ends (a ∷ p)
ends_cons a p (at_root is) = in_name [] a (ap (λ path. a ∷ path) is)
ends_cons a p (in_name front name is) = in_name (a ∷ front) name (ap (λ path. a ∷ path) is)

pub ends : (p : Path) → Ends p
ends [] = at_root refl
ends (a ∷ p) = ends_cons a p (ends p)

-- a path with a name more is not the root
pub below_not_root : (q : Path) (name : List ℕ) (rest : Path) → q ++ name ∷ rest ≢ []
below_not_root [] name rest is = cc
below_not_root (a ∷ q) name rest is = cc

pub list_any-map : (f : Path → Bool) (name : List ℕ) (paths : List Path)
    → list_any f (map (λ path. name ∷ path) paths) ≡ list_any (λ path. f (name ∷ path)) paths
list_any-map f name [] = refl
list_any-map f name (path ∷ paths) = ap (λ rest. f (name ∷ path) || rest) (list_any-map f name paths)

pub or_true : (a b : Bool) → b ≡ true → (a || b) ≡ true
or_true true b is = refl
or_true false b is = is

pub or_false : (a b : Bool) → a ≡ false → b ≡ false → (a || b) ≡ false
or_false true b is rest = absurd cc
or_false false b is rest = rest

-- a test that holds of a path above is met
pub any_above : (f : Path → Bool) (q : Path) (name : List ℕ) (rest : Path) → f q ≡ true
    → list_any f (proper_prefixes (q ++ name ∷ rest)) ≡ true
any_above f [] name rest is = rw is refl
any_above f (a ∷ q) name rest is =
    or_true (f []) _ (list_any-map f a (proper_prefixes (q ++ name ∷ rest)) ∙ any_above (λ path. f (a ∷ path)) q name rest is)

-- a test that holds of no path above is not met
pub none_above : (f : Path → Bool) (p : Path) → ((q : Path) (name : List ℕ) (rest : Path) → p ≡ q ++ name ∷ rest → f q ≡ false)
    → list_any f (proper_prefixes p) ≡ false
none_above f [] none = refl
none_above f (a ∷ p) none =
    or_false (f []) _ (none [] a p refl)
    (list_any-map f a (proper_prefixes p)
    ∙ none_above (λ path. f (a ∷ path)) p (λ q name rest is. none (a ∷ q) name rest (ap (λ path. a ∷ path) is)))
