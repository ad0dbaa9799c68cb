-- Paths that begin with a path, and the paths that are wanted.
use Rattle.std.proofs.Common.{◌≡◌, ◌⊎◌, ℕ, Bool, true, false, ◌||◌, ◌&&◌, List, [], ◌∷◌, ◌++◌, is_some, length, drop, append_assoc}
use Rattle.std.proofs.Common.{bytes_eq, refl, sym, ap, ◌∙◌, inl, inr}
use Rattle.std.proofs.lemmas.Bool.{both_ways}
use Rattle.std.proofs.lemmas.List.{append-nil}
use Rattle.std.proofs.lemmas.List.Folds.{list_any-append}
use Rattle.std.specs.FinMap.{get}
use Rattle.std.specs.List.{starts_with}
use Rattle.std.specs.Ordering.{eq_by_cmp}
use Rattle.std.specs.Prelude.{nat_lt}
use Rattle.iot_text.specs.Paths.{path_cmp, prefixes, is_below}
use Rattle.iot_text.proofs.PathsLaws.{is_below-of}
use Rattle.iot_tree.specs.Snapshots.{has, wants}
use Rattle.iot_tree.specs.Tree.{Path, Nodes}
use Rattle.iot_tree.specs.declared.want.Want.{Want}
use Rattle.iot_tree.specs.declared.want.Want.TheVariants as wish
use Rattle.iot_tree.proofs.SnapshotLaws.{by_names}
use Rattle.iot_tree.proofs.TreeLaws.{same_or_apart, apart}
use Rattle.iot_tree.proofs.WithinLaws.{side, inside, outside, test_is}
use Rattle.iot_prune.proofs.WalkLaws.{tie}
use Rattle.iot_prune.proofs.WishLaws.{prefixes_more}
use Rattle.iot_stamp.specs.Passes.{wanted}
use Rattle.iot_stamp.proofs.StampingLaws.{child_side}

eq_same : (p g : Path) → eq_by_cmp path_cmp p g ≡ true → p ≡ g
eq_same p g is = elim (same_or_apart p g) [ inl same ↦ same | inr away ↦ absurd (both_ways _ away is) ]

bool_same : (a b : Bool) → (a ≡ true → b ≡ true) → (b ≡ true → a ≡ true) → a ≡ b
bool_same true b there back = sym (there refl)
bool_same false true there back = back refl
bool_same false false there back = refl

or_left : (a b : Bool) → a ≡ true → (a || b) ≡ true
or_left a b is = rw is refl

or_right : (a b : Bool) → b ≡ true → (a || b) ≡ true
or_right true b is = refl
or_right false b is = is

or_either : (a b : Bool) → (a || b) ≡ true → (a ≡ true) ⊎ (b ≡ true)
or_either true b is = inl refl
or_either false b is = inr is

-- a path begins with g if the path above it does, or if it is g
pub starts_push : (q : Path) (name : List ℕ) (g : Path)
    → starts_with bytes_eq (q ++ name ∷ []) g ≡ (starts_with bytes_eq q g || eq_by_cmp path_cmp (q ++ name ∷ []) g)
starts_push q name g = bool_same _ _ there back
  where
    there : starts_with bytes_eq (q ++ name ∷ []) g ≡ true → (starts_with bytes_eq q g || eq_by_cmp path_cmp (q ++ name ∷ []) g) ≡ true
    there is = elim (side g q) [
      | inside rest here test ↦ or_left _ _ test
      | outside away test ↦ elim (child_side g q name away) [
        | inl same ↦ or_right _ _ (tie (q ++ name ∷ []) g same)
        | inr out ↦ absurd (out _ ((test_is g (q ++ name ∷ [])).0 is))
      ]
    ]

    back : (starts_with bytes_eq q g || eq_by_cmp path_cmp (q ++ name ∷ []) g) ≡ true → starts_with bytes_eq (q ++ name ∷ []) g ≡ true
    back is = elim (or_either _ _ is) [
      | inl above ↦
          (test_is g (q ++ name ∷ [])).1 (drop (length g) q ++ name ∷ [])
          (ap (λ (path : Path). path ++ name ∷ []) ((test_is g q).0 above) ∙ append_assoc g (drop (length g) q) (name ∷ []))
      | inr same ↦ (test_is g (q ++ name ∷ [])).1 [] (eq_same (q ++ name ∷ []) g same ∙ sym (append-nil g))
    ]

pub starts_root : (g : Path) → starts_with bytes_eq [] g ≡ eq_by_cmp path_cmp [] g
starts_root [] = refl
starts_root (name ∷ g) = refl

-- ---- the paths above a path

eq_back : (a b : Path) → eq_by_cmp path_cmp a b ≡ eq_by_cmp path_cmp b a
eq_back a b = elim (same_or_apart a b) [
  | inl here ↦ (λ i. eq_by_cmp path_cmp (here i) (sym here i))
  | inr away ↦ away ∙ sym (apart b a (λ is. both_ways _ away (tie a b (sym is))))
]

or_nothing : (b : Bool) → (b || false) ≡ b
or_nothing true = refl
or_nothing false = refl

and_false : (b : Bool) → (b && false) ≡ false
and_false true = refl
and_false false = refl

-- a path or one above it is one that the path begins with
prefix_begins : (q p : Path) → has (prefixes p) q ≡ starts_with bytes_eq p q
prefix_begins q = by_names (λ p. has (prefixes p) q ≡ starts_with bytes_eq p q)
    (or_nothing (eq_by_cmp path_cmp q []) ∙ eq_back q [] ∙ sym (starts_root q))
    (λ p name before.
    ap (λ paths. has paths q) (prefixes_more p name) ∙ list_any-append (eq_by_cmp path_cmp q) (prefixes p) ((p ++ name ∷ []) ∷ [])
    ∙ (λ i. before i || or_nothing (eq_by_cmp path_cmp q (p ++ name ∷ [])) i)
    ∙ ap (λ b. starts_with bytes_eq p q || b) (eq_back q (p ++ name ∷ [])) ∙ sym (starts_push p name q))

-- ---- what is wanted

-- a path that does not stand above another is below it if it begins with it
below_is : (q p : Path) → starts_with bytes_eq p q ≡ false → is_below q p ≡ starts_with bytes_eq q p
below_is q p not_above = elim (side p q) [
  | inside rest is test ↦ by rest is test
  | outside away test ↦ ap (λ b. nat_lt (length p) (length q) && b) test ∙ and_false (nat_lt (length p) (length q)) ∙ sym test
]
  where
    by : (rest : Path) → q ≡ p ++ rest → starts_with bytes_eq q p ≡ true → is_below q p ≡ starts_with bytes_eq q p
    by [] is test = absurd (both_ways _ not_above ((test_is q p).1 [] (sym (append-nil p) ∙ sym is ∙ sym (append-nil q))))
    by (name ∷ rest) is test = is_below-of q p (name, rest, is) ∙ sym test

-- of a path that the tree has, the test tells whether it is wanted
pub wanted_is : (want : Want) (t : Nodes) (q : Path) → is_some (get t q) ≡ true → wanted want q ≡ wants t want q
wanted_is wish.Nothing t q there = refl
wanted_is (wish.Path p) t q there = sym (prefix_begins q p)
wanted_is (wish.Below p) t q there =
    by (starts_with bytes_eq p q) refl ∙ (λ i. sym (prefix_begins q p) i || (is_below q p && sym there i))
  where
    and_true : (b : Bool) → b ≡ (b && true)
    and_true true = refl
    and_true false = refl

    by : (b : Bool) → starts_with bytes_eq p q ≡ b
        → (starts_with bytes_eq p q || starts_with bytes_eq q p) ≡ (starts_with bytes_eq p q || (is_below q p && true))
    by true is = rw is refl
    by false is = ap (λ b. starts_with bytes_eq p q || b) (sym (below_is q p is) ∙ and_true (is_below q p))
