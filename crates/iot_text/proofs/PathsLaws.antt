-- Laws of paths: their order, the paths below a path, parents and last names.
use Rattle.std.proofs.lemmas.List.Folds.{list_all-append}
use Rattle.std.proofs.Common.{◌≡◌, ℕ, zero, suc, ◌&&◌, ◌<◌, true, List, [], ◌∷◌, ◌++◌, length, take, drop, ◌-◌}
use Rattle.std.proofs.Common.{take-append-drop, length-drop, refl, sym, ◌∙◌, ap, subst, arith, length-append, Some}
use Rattle.std.proofs.Common.{◌&&◌, Ordering}
use Rattle.std.specs.Prelude.{unwrap_or, slice_get, bytes_eq, nat_lt, Decides}
use Rattle.std.proofs.Math.Seq.{take-append_seam}
use Rattle.std.specs.Cmp.{IsTotalOrder, first_so, second_so, tied_itself}
use Rattle.std.specs.Cmp.Lexicographic.{slice_cmp, pointwise_decides, bytes_decides, lists_total}
use Rattle.std.specs.Cmp.Lexicographic.{nat_list_cmp_total, pointwise}
use Rattle.std.specs.Ordering.{nat_cmp, ordering_then, ordering_reverse}
use Rattle.std.specs.declared.cmp.Ordering.TheVariants.{Equal, Less, Greater}
use borrow.Author.Tests.{ltb-true, lt-ltb}
use Rattle.iot_text.specs.Names.{is_name, IsName}
use Rattle.iot_text.specs.Paths.{IsPath, parent_of, last_of, path_cmp, IsBelow, is_below}
use Rattle.std.specs.FinMap.{IsAntisymmetric, nat_cmp-IsAntisymmetric, slice_cmp-IsAntisymmetric}

-- ---- the names of a path

-- the first names of a path are a path, and so are the others
pub IsPath-take : (path : List (List ℕ)) (n : ℕ) → IsPath path → IsPath (take n path)
IsPath-take path zero valid = refl
IsPath-take [] (suc n) valid = refl
IsPath-take (name ∷ names) (suc n) valid =
    λ i. first_so (is_name name) _ valid i && IsPath-take names n (second_so (is_name name) _ valid) i

pub IsPath-drop : (n : ℕ) (path : List (List ℕ)) → IsPath path → IsPath (drop n path)
IsPath-drop zero path valid = valid
IsPath-drop (suc n) [] valid = valid
IsPath-drop (suc n) (name ∷ names) valid = IsPath-drop n names (second_so (is_name name) _ valid)

pub IsPath-append : (path more : List (List ℕ)) → IsPath path → IsPath more → IsPath (path ++ more)
IsPath-append path more valid others = list_all-append is_name path more ∙ (λ i. valid i && others i)

-- a path with one more name
pub IsPath-push : (path : List (List ℕ)) (name : List ℕ) → IsPath path → IsName name → IsPath (path ++ name ∷ [])
IsPath-push path name valid named = list_all-append is_name path (name ∷ []) ∙ (λ i. valid i && (named i && true))

-- ---- the order

-- paths are in a total order
pub path_total : IsTotalOrder path_cmp
path_total = lists_total nat_list_cmp_total

-- paths that tie are one path
pub path_same : IsAntisymmetric path_cmp
path_same = slice_cmp-IsAntisymmetric (slice_cmp-IsAntisymmetric nat_cmp-IsAntisymmetric)

-- names that tie are one name
pub name_same : IsAntisymmetric (slice_cmp nat_cmp)
name_same = slice_cmp-IsAntisymmetric nat_cmp-IsAntisymmetric

-- a path comes before those below it
pub above_first : (q : List (List ℕ)) (name : List ℕ) (rest : List (List ℕ)) → path_cmp q (q ++ name ∷ rest) ≡ Less
above_first [] name rest = refl
above_first (n ∷ q) name rest = rw (tied_itself nat_list_cmp_total n, above_first q name rest) refl

-- what the first of two comparisons leaves to the second
data FirstDecides (c d : Ordering) : Type 0 where
  decided : c ≡ Less → FirstDecides c d
  left : c ≡ Equal → d ≡ Less → FirstDecides c d

first_decides : (c d : Ordering) → ordering_then c d ≡ Less → FirstDecides c d
first_decides Less d is = decided refl
first_decides Equal d is = left refl is
first_decides Greater d is = absurd cc

-- a first name that comes later decides
later : (c d : Ordering) → ordering_then c d ≡ Less → c ≡ Greater → ⊥
later c d is greater = let never : ordering_then Greater d ≡ Less = rw greater at is in cc

-- equal first names leave it to the rest
even : (c d : Ordering) → ordering_then c d ≡ Less → c ≡ Equal → d ≡ Less
even c d is equal = let rest : ordering_then Equal d ≡ Less = rw equal at is in rest

-- what comes between a path and one below it is below it too
pub between : (q r rest : List (List ℕ)) → path_cmp q r ≡ Less → path_cmp r (q ++ rest) ≡ Less
    → (name : List ℕ) × (tail : List (List ℕ)) × (r ≡ q ++ name ∷ tail)
between [] [] rest above below = absurd cc
between [] (b ∷ r) rest above below = (b, r, refl)
between (a ∷ q) [] rest above below = absurd cc
between (a ∷ q) (b ∷ r) rest above below =
    let turned : slice_cmp nat_cmp b a ≡ ordering_reverse (slice_cmp nat_cmp a b) = nat_list_cmp_total.antisymm b a in
    elim (first_decides (slice_cmp nat_cmp a b) (path_cmp q r) above) [
      | decided is ↦ absurd (later (slice_cmp nat_cmp b a) (path_cmp r (q ++ rest)) below (turned ∙ ap ordering_reverse is))
      | left is more ↦
          let tied = even (slice_cmp nat_cmp b a) (path_cmp r (q ++ rest)) below (turned ∙ ap ordering_reverse is) in
          let found = between q r rest more tied in
          (found.0, found.1, λ i. sym (name_same a b is) i ∷ found.2 i)
    ]

-- ---- paths below a path

-- what is left is a name and the names after it
split : (path other rest : List (List ℕ)) → path ≡ other ++ rest → 0 < length rest → IsBelow path other
split path other [] e some = absurd (omega arith)
split path other (name ∷ names) e some = (name, names, e)

pub is_below-tells : (path other : List (List ℕ)) → is_below path other ≡ true → IsBelow path other
is_below-tells path other e =
    let n : ℕ = length other in
    let shorter : length other < length path = ltb-true n (length path) (first_so (nat_lt n (length path)) _ e) in
    let front : other ≡ take n path =
    (pointwise_decides bytes_decides other (take n path)).0 (second_so (nat_lt n (length path)) _ e) in
    let whole : path ≡ other ++ drop n path = sym (ap (λ t. t ++ drop n path) front ∙ take-append-drop n path) in
    split path other (drop n path) whole (omega (arith, length-drop n path))

pub is_below-of : (path other : List (List ℕ)) → IsBelow path other → is_below path other ≡ true
is_below-of path other below =
    let rest : List (List ℕ) = below.0 ∷ below.1 in
    let shorter : length other < length path = omega (arith, ap length below.2, length-append other rest) in
    let front : other ≡ take (length other) path = sym (ap (take (length other)) below.2 ∙ take-append_seam other rest) in
    let same : pointwise bytes_eq other (take (length other) path) ≡ true =
    (pointwise_decides bytes_decides other (take (length other) path)).1 front in
    λ i. lt-ltb (length other) (length path) shorter i && same i

-- ---- parents and last names

slice_get-end : (path : List (List ℕ)) (name : List ℕ) → slice_get (path ++ name ∷ []) (length path) ≡ Some name
slice_get-end [] name = refl
slice_get-end (first ∷ names) name = slice_get-end names name

-- a path with a name more has it last, and the path as its parent
pub last_of-push : (path : List (List ℕ)) (name : List ℕ) → last_of (path ++ name ∷ []) ≡ Some name
last_of-push path name =
    let place : length (path ++ name ∷ []) - 1 ≡ length path = omega (arith, length-append path (name ∷ [])) in
    ap (slice_get (path ++ name ∷ [])) place ∙ slice_get-end path name

pub parent_of-push : (path : List (List ℕ)) (name : List ℕ) → parent_of (path ++ name ∷ []) ≡ Some path
parent_of-push [] name = refl
parent_of-push (first ∷ names) name =
    let size : length (names ++ name ∷ []) ≡ length (first ∷ names) = omega (arith, length-append names (name ∷ [])) in
    ap (λ n. Some (take n (first ∷ (names ++ name ∷ [])))) size ∙ ap Some (take-append_seam (first ∷ names) (name ∷ []))

-- a path is its parent with one name more
pub record WithLast (path parent : List (List ℕ)) : Type 0 where
  pub last : List ℕ
  pub split : path ≡ parent ++ last ∷ []
