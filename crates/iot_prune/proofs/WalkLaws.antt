-- Rising paths gone through, and rows that hide others.
use Rattle.std.proofs.Common.{◌≡◌, ℕ, ◌+◌, ◌<◌, Bool, true, false, ◌&&◌, List, [], ◌∷◌, ◌++◌, Option, Some, None, length}
use Rattle.std.proofs.Common.{length-append, drop, get_or, append_assoc, refl, sym, ap, subst, ◌∙◌, arith, bytes_eq}
use Rattle.std.proofs.lemmas.List.{drop_more}
use Rattle.std.proofs.Math.Seq.{drop-length}
use Rattle.std.specs.Cmp.{tied_itself, first_so, second_so}
use Rattle.std.specs.List.{AllByRecursion, starts_with}
use Rattle.std.specs.Ordering.{is_lt, is_eq, eq_by_cmp, ordering_reverse}
use Rattle.std.specs.declared.cmp.Ordering.TheVariants.{Less}
use Rattle.iot_text.specs.Paths.{path_cmp}
use Rattle.iot_text.proofs.PathsLaws.{path_total}
use Rattle.iot_tree.specs.Questions.{is_far_dir}
use Rattle.iot_tree.specs.Snapshots.{has, ArePathsRising}
use Rattle.iot_tree.specs.Tree.{Path, Row}
use Rattle.iot_tree.proofs.PathLaws.{order, lower, same, higher}
use Rattle.iot_tree.proofs.PlaceLaws.{is_less}
use Rattle.iot_tree.proofs.TreeLaws.{apart}
use Rattle.iot_tree.proofs.WithinLaws.{test_is, not_less}
use Rattle.iot_prune.specs.Walks.{from, begins, hides}

-- ---- paths

-- p comes before each of the paths
abbrev pub Before : Path → List Path → Type 0
Before p paths = AllByRecursion (λ q. path_cmp p q ≡ Less) paths

pub before_later : (p q : Path) → path_cmp p q ≡ Less → (paths : List Path) → Before q paths → Before p paths
before_later p q less [] before = tt
before_later p q less (x ∷ paths) before = (path_total.trans p q x less before.0, before_later p q less paths before.1)

-- a path ties with itself
pub tie : (p q : Path) → p ≡ q → eq_by_cmp path_cmp p q ≡ true
tie p q is = ap (eq_by_cmp path_cmp p) (sym is) ∙ ap is_eq (tied_itself path_total p)

-- a path that comes before another does not tie with it
pub apart_less : (p q : Path) → path_cmp p q ≡ Less → eq_by_cmp path_cmp p q ≡ false
apart_less p q less = ap is_eq less

apart_more : (p q : Path) → path_cmp q p ≡ Less → eq_by_cmp path_cmp p q ≡ false
apart_more p q less = apart p q (λ is. not_less p (subst (λ (path : Path). path_cmp path p ≡ Less) (sym is) less))

none_later : (p : Path) (paths : List Path) → Before p paths → has paths p ≡ false
none_later p [] before = refl
none_later p (q ∷ paths) before = rw (apart_less p q before.0) (none_later p paths before.1)

module _ (p : Path) where
  -- steps of the search for the first path that does not come before p
  pub from_skip : (paths : List Path) (i : ℕ) (q : Path) → i < length paths → q ≡ get_or paths i q → is_lt (path_cmp q p) ≡ true
      → from p (drop i paths) ≡ from p (drop (i + 1) paths)
  from_skip paths i q lt is less =
      ap (from p) (drop_more paths i q lt ∙ ap (λ (x : Path). x ∷ drop (i + 1) paths) (sym is)) ∙ rw less refl

  pub from_stop : (paths : List Path) (i : ℕ) (q : Path) → i < length paths → q ≡ get_or paths i q → is_lt (path_cmp q p) ≡ false
      → from p (drop i paths) ≡ drop i paths
  from_stop paths i q lt is less =
      let parts : drop i paths ≡ q ∷ drop (i + 1) paths = drop_more paths i q lt ∙ ap (λ (x : Path). x ∷ drop (i + 1) paths) (sym is) in
      ap (from p) parts ∙ rw less refl ∙ sym parts

  pub from_end : (paths : List Path) → from p (drop (length paths) paths) ≡ drop (length paths) paths
  from_end paths = ap (from p) (drop-length paths) ∙ sym (drop-length paths)

  -- the paths that are passed are not among those that come after p
  pub has_from : (q : Path) → path_cmp p q ≡ Less → (paths : List Path) → has (from p paths) q ≡ has paths q
  has_from q late [] = refl
  has_from q late (x ∷ paths) = by (has_from q late paths) (is_lt (path_cmp x p)) refl
    where
      by : has (from p paths) q ≡ has paths q → (b : Bool) → is_lt (path_cmp x p) ≡ b → has (from p (x ∷ paths)) q ≡ has (x ∷ paths) q
      by rest true is = rw (is, apart_more q x (path_total.trans x p q (is_less _ is) late)) rest
      by rest false is = rw is refl

  pub rising_from : (paths : List Path) → ArePathsRising paths → ArePathsRising (from p paths)
  rising_from [] rising = tt
  rising_from (x ∷ paths) rising = by (rising_from paths rising.1) (is_lt (path_cmp x p)) refl
    where
      by : ArePathsRising (from p paths) → (b : Bool) → is_lt (path_cmp x p) ≡ b → ArePathsRising (from p (x ∷ paths))
      by rest true is = rw is rest
      by rest false is = rw is rising

  -- a path that is among the rest of rising paths stands first
  pub begins_from : (paths : List Path) → ArePathsRising paths → begins p (from p paths) ≡ has paths p
  begins_from [] rising = refl
  begins_from (x ∷ paths) rising = elim (order p x) [
    | lower less ↦
        let kept : is_lt (path_cmp x p) ≡ false = ap is_lt (path_total.antisymm x p ∙ ap ordering_reverse less) in
        rw (kept, apart_less p x less) (sym (none_later p paths (before_later p x less paths rising.0)))
    | same is ↦
        let kept : is_lt (path_cmp x p) ≡ false = ap is_lt (ap (path_cmp x) is ∙ tied_itself path_total x) in
        rw (kept, tie p x is) refl
    | higher less ↦
        let skipped : is_lt (path_cmp x p) ≡ true = ap is_lt less in
        rw (skipped, apart_more p x less) (begins_from paths rising.1)
  ]

-- ---- rows

-- a row that hides a path hides all paths below it
pub hides_below : (last : Option Row) (q rest : Path) → hides last q ≡ true → hides last (q ++ rest) ≡ true
hides_below None q rest is = absurd cc
hides_below (Some row) q rest is =
    let front : q ≡ row.0 ++ drop (length row.0) q = (test_is row.0 q).0 (second_so (is_far_dir (Some row.1)) _ is) in
    let whole : q ++ rest ≡ row.0 ++ (drop (length row.0) q ++ rest) =
    ap (λ (path : Path). path ++ rest) front ∙ append_assoc row.0 (drop (length row.0) q) rest in
    let begun : starts_with bytes_eq (q ++ rest) row.0 ≡ true = (test_is row.0 (q ++ rest)).1 _ whole in
    λ i. first_so (is_far_dir (Some row.1)) _ is i && begun i

-- a row hides no path above it
pub hides_none_above : (row : Row) (q : Path) (name : List ℕ) (rest : Path) → row.0 ≡ q ++ name ∷ rest → hides (Some row) q ≡ false
hides_none_above row q name rest is = by (is_far_dir (Some row.1)) (starts_with bytes_eq q row.0) refl
  where
    by : (a b : Bool) → starts_with bytes_eq q row.0 ≡ b → (a && b) ≡ false
    by true false begun = refl
    by false b begun = refl
    by true true begun =
        let front : q ≡ row.0 ++ drop (length row.0) q = (test_is row.0 q).0 begun in
        absurd (omega (arith, ap length is, ap length front, length-append q (name ∷ rest), length-append row.0 (drop (length row.0) q)))
