-- Paths that are known, and the paths above them.
use Rattle.std.proofs.Common.{◌≡◌, ℕ, Bool, true, false, cond, ◌&&◌, ◌||◌, List, [], ◌∷◌, ◌++◌, map, Some, None, append_assoc, refl, sym}
use Rattle.std.proofs.Common.{ap, ◌∙◌, subst}
use Rattle.std.proofs.lemmas.List.{append-nil, map-append}
use Rattle.std.proofs.lemmas.List.Folds.{list_all-append, list_any-append}
use Rattle.std.specs.Cmp.{first_so, second_so}
use Rattle.std.specs.FinMap.Entries.{below_all}
use Rattle.std.specs.List.{AllByRecursion, cons_option, list_all, list_any}
use Rattle.std.specs.Ordering.{is_lt}
use Rattle.std.specs.declared.cmp.Ordering.TheVariants.{Less}
use Rattle.iot_text.specs.Paths.{path_cmp}
use Rattle.iot_tree.specs.Ancestors.{proper_prefixes}
use Rattle.iot_tree.specs.Place.{AllAfter}
use Rattle.iot_tree.specs.Rows.{Rising}
use Rattle.iot_tree.specs.Snapshots.{ArePathsRising, paths_where, is_reached}
use Rattle.iot_tree.specs.Tree.{Path, Row}
use Rattle.iot_tree.proofs.PlaceLaws.{is_less}

-- ---- paths of rows

module _ (test : Row → Bool) where
  all_after : (p : Path) (rows : List Row) → AllAfter p rows → AllByRecursion (λ q. path_cmp p q ≡ Less) (paths_where test rows)
  all_after p [] after = tt
  all_after p (row ∷ rows) after =
      let rest = all_after p rows (second_so (is_lt (path_cmp p row.0)) _ after) in
      elim (test row) as (λ b. AllByRecursion (λ q. path_cmp p q ≡ Less) (cons_option (cond b (Some row.0) None) (paths_where test rows))) [
        | true ↦ (is_less _ (first_so _ _ after), rest)
        | false ↦ rest
      ]

  -- the paths of rows in order are in order
  pub paths_rising : (rows : List Row) → Rising rows → ArePathsRising (paths_where test rows)
  paths_rising [] rising = tt
  paths_rising (row ∷ rows) rising =
      let rest = paths_rising rows (second_so (below_all path_cmp row.0 rows) _ rising) in
      elim (test row) as (λ b. ArePathsRising (cons_option (cond b (Some row.0) None) (paths_where test rows))) [
        | true ↦ (all_after row.0 rows (first_so _ _ rising), rest)
        | false ↦ rest
      ]

-- ---- paths above a path

-- an induction on the names of a path, the last one first
pub by_names : (P : Path → Type 0) → P [] → ((q : Path) (name : List ℕ) → P q → P (q ++ name ∷ [])) → (p : Path) → P p
by_names P root step p = go [] root p
  where
    go : (front : Path) → P front → (rest : Path) → P (front ++ rest)
    go front here [] = subst P (sym (append-nil front)) here
    go front here (name ∷ rest) = subst P (append_assoc front (name ∷ []) rest) (go (front ++ name ∷ []) (step front name here) rest)

-- above a path with a name more are the path and those above it
pub prefixes_push : (q : Path) (name : List ℕ) → proper_prefixes (q ++ name ∷ []) ≡ proper_prefixes q ++ q ∷ []
prefixes_push [] name = refl
prefixes_push (a ∷ q) name =
    ap (λ (paths : List Path). [] ∷ map (λ (path : Path). a ∷ path) paths) (prefixes_push q name)
    ∙ ap (λ (paths : List Path). [] ∷ paths) (map-append (λ (path : Path). a ∷ path) (proper_prefixes q) (q ∷ []))

and_true : (b : Bool) → (b && true) ≡ b
and_true true = refl
and_true false = refl

or_nothing : (b : Bool) → (b || false) ≡ b
or_nothing true = refl
or_nothing false = refl

pub all_push : (k : Path → Bool) (q : Path) (name : List ℕ) → is_reached k (q ++ name ∷ []) ≡ (is_reached k q && k q)
all_push k q name =
    ap (list_all k) (prefixes_push q name) ∙ list_all-append k (proper_prefixes q) (q ∷ []) ∙ ap (λ b. is_reached k q && b) (and_true (k q))

pub any_push : (f : Path → Bool) (q : Path) (name : List ℕ)
    → list_any f (proper_prefixes (q ++ name ∷ [])) ≡ (list_any f (proper_prefixes q) || f q)
any_push f q name =
    ap (list_any f) (prefixes_push q name) ∙ list_any-append f (proper_prefixes q) (q ∷ [])
    ∙ ap (λ b. list_any f (proper_prefixes q) || b) (or_nothing (f q))

-- each path above one that is reached is reached, and is known
pub reached_above : (k : Path → Bool) (q : Path) (name : List ℕ) (rest : Path) → is_reached k (q ++ name ∷ rest) ≡ true
    → (is_reached k q && k q) ≡ true
reached_above k q name = by_names (λ rest. is_reached k (q ++ name ∷ rest) ≡ true → (is_reached k q && k q) ≡ true)
    (λ reached. sym (all_push k q name) ∙ reached)
    (λ rest last above reached. above
    (first_so _ _ (sym (all_push k (q ++ name ∷ rest) last) ∙ ap (is_reached k) (append_assoc q (name ∷ rest) (last ∷ [])) ∙ reached)))
