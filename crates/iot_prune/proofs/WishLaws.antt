-- Paths that are wanted.
use Rattle.std.proofs.Common.{◌≡◌, ℕ, ◌+◌, ◌<◌, Bool, true, false, cond, ◌&&◌, ◌||◌, List, [], ◌∷◌, ◌++◌, map, Some, None, length, take}
use Rattle.std.proofs.Common.{get_or, refl, sym, ap, ◌∙◌, inl, inr}
use Rattle.std.proofs.lemmas.List.{map-append, take_more}
use Rattle.std.specs.FinMap.{find}
use Rattle.std.specs.List.{cons_option}
use Rattle.std.specs.Ordering.{eq_by_cmp}
use Rattle.std.specs.Prelude.{is_some}
use Rattle.iot_text.specs.Paths.{path_cmp, prefixes, is_below}
use Rattle.iot_tree.specs.Snapshots.{has, paths_where, ArePathsRising}
use Rattle.iot_tree.specs.Tree.{Path, Row}
use Rattle.iot_tree.proofs.TreeLaws.{same_or_apart}
use Rattle.iot_tree.proofs.WithinLaws.{same_front}
use Rattle.iot_prune.proofs.WalkLaws.{Before, tie}

-- ---- a path and those above it

-- a path with a name more has one prefix more
pub prefixes_more : (q : Path) (name : List ℕ) → prefixes (q ++ name ∷ []) ≡ prefixes q ++ (q ++ name ∷ []) ∷ []
prefixes_more [] name = refl
prefixes_more (a ∷ q) name =
    ap (λ (paths : List Path). [] ∷ map (λ (path : Path). a ∷ path) paths) (prefixes_more q name)
    ∙ ap (λ (paths : List Path). [] ∷ paths) (map-append (λ (path : Path). a ∷ path) (prefixes q) ((q ++ name ∷ []) ∷ []))

-- a step down the path
pub one_more : (path above below : Path) (out new : List Path) (i : ℕ) (name : List ℕ) → i < length path → name ≡ get_or path i name
    → above ≡ take i path → out ++ above ∷ [] ≡ prefixes (take i path) → below ≡ above ++ name ∷ [] → new ≡ out ++ above ∷ []
    → (below ≡ take (i + 1) path) × (new ++ below ∷ [] ≡ prefixes (take (i + 1) path))
one_more path above below out new i name lt is at so_far below_is new_is =
    let longer : take (i + 1) path ≡ take i path ++ name ∷ [] = take_more path i name lt
    ∙ ap (λ (e : List ℕ). take i path ++ e ∷ []) (sym is) in
    let here : below ≡ take i path ++ name ∷ [] = below_is ∙ ap (λ (p : Path). p ++ name ∷ []) at in
    (here ∙ sym longer, (λ j. (new_is ∙ so_far) j ++ here j ∷ []) ∙ sym (prefixes_more (take i path) name) ∙ ap prefixes (sym longer))

module _ (name : List ℕ) where
  root_before : (paths : List Path) → Before [] (map (λ path. name ∷ path) paths)
  root_before [] = tt
  root_before (p ∷ paths) = (refl, root_before paths)

  before_map : (p : Path) (paths : List Path) → Before p paths → Before (name ∷ p) (map (λ path. name ∷ path) paths)
  before_map p [] before = tt
  before_map p (q ∷ paths) before = (same_front (name ∷ []) p q ∙ before.0, before_map p paths before.1)

  map_rising : (paths : List Path) → ArePathsRising paths → ArePathsRising (map (λ path. name ∷ path) paths)
  map_rising [] rising = tt
  map_rising (p ∷ paths) rising = (before_map p paths rising.0, map_rising paths rising.1)

pub prefixes_rising : (p : Path) → ArePathsRising (prefixes p)
prefixes_rising [] = (tt, tt)
prefixes_rising (name ∷ p) = (root_before name (prefixes p), map_rising name (prefixes p) (prefixes_rising p))

-- ---- the paths of rows below a path

and_false : (b : Bool) → false ≡ (b && false)
and_false true = refl
and_false false = refl

module _ (p q : Path) where
  abbrev below : Row → Bool
  below row = is_below row.0 p

  pub has_below : (rows : List Row) → has (paths_where (λ row. is_below row.0 p) rows) q ≡ (is_below q p && is_some (find path_cmp q rows))
  has_below [] = and_false (is_below q p)
  has_below (row ∷ rows) = elim (same_or_apart q row.0) [
    | inl here ↦ rw (tie q row.0 here) (at_row here (is_below q p) refl (has_below rows))
    | inr away ↦ rw away (elsewhere away (is_below row.0 p) (has_below rows))
  ]
    where
      at_row : q ≡ row.0 → (b : Bool) → is_below q p ≡ b
          → has (paths_where (λ row. is_below row.0 p) rows) q ≡ (is_below q p && is_some (find path_cmp q rows))
          → has (paths_where (λ row. is_below row.0 p) (row ∷ rows)) q ≡ (is_below q p && true)
      at_row here true is rest =
          ap (λ b. has (cons_option (cond b (Some row.0) None) (paths_where (λ row. is_below row.0 p) rows)) q)
          (ap (λ (path : Path). is_below path p) (sym here) ∙ is)
          ∙ ap (λ b. b || has (paths_where (λ row. is_below row.0 p) rows) q) (tie q row.0 here) ∙ ap (λ b. b && true) (sym is)
      at_row here false is rest =
          ap (λ b. has (cons_option (cond b (Some row.0) None) (paths_where (λ row. is_below row.0 p) rows)) q)
          (ap (λ (path : Path). is_below path p) (sym here) ∙ is)
          ∙ rest ∙ (λ i. is i && is_some (find path_cmp q rows)) ∙ (λ i. sym is i && true)

      elsewhere : eq_by_cmp path_cmp q row.0 ≡ false → (b : Bool)
          → has (paths_where (λ row. is_below row.0 p) rows) q ≡ (is_below q p && is_some (find path_cmp q rows))
          → has (cons_option (cond b (Some row.0) None) (paths_where (λ row. is_below row.0 p) rows)) q
          ≡ (is_below q p && is_some (find path_cmp q rows))
      elsewhere away true rest = ap (λ b. b || has (paths_where (λ row. is_below row.0 p) rows) q) away ∙ rest
      elsewhere away false rest = rest
