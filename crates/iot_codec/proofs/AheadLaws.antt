-- Rows gone through beside paths that rise.
use Rattle.std.proofs.Common.{◌≡◌, ◌+◌, ℕ, suc, zero, IsTrue, true, List, [], ◌∷◌, Option, Some, None}
use Rattle.std.proofs.Common.{ap, subst, refl, get_or, drop, arith}
use Rattle.std.specs.Prelude.{slice_get, IfSome}
use Rattle.std.specs.Cmp.{first_so}
use Rattle.std.specs.declared.cmp.Ordering.TheVariants.{Less}
use Rattle.std.specs.FinMap.Entries.{below_all}
use Rattle.std.specs.Ordering.{is_lt}
use Rattle.std.proofs.lemmas.Option.{slice_get_within, slice_get-get_or, get_or_from_slice_get}
use Rattle.iot_text.specs.Paths.{path_cmp}
use Rattle.iot_tree.specs.Place.{AllAfter, IsGap, IsRowAt}
use Rattle.iot_tree.specs.Rows.{Rising}
use Rattle.iot_tree.specs.Tree.{Path, Row}
use Rattle.iot_tree.specs.declared.nodes.Node.TheVariants.{Dir}
use Rattle.iot_tree.proofs.PlaceLaws.{rows_rise}
use Rattle.iot_codec.specs.Ahead.{ComesAfter, IsAhead}
use Rattle.iot_views.specs.Rules.{rises}

-- after a row comes the next one
pub next_after : (rows : List Row) → Rising rows → (place : ℕ) (row : Row) → slice_get rows place ≡ Some row
    → ComesAfter rows (place + 1) row.0
next_after rows rising place row is = by (slice_get rows (place + 1)) refl
  where
    by : (next : Option Row) → slice_get rows (place + 1) ≡ next → IfSome next (λ row2. IsTrue (is_lt (path_cmp row.0 row2.0)))
    by None none = tt
    by (Some next) here =
        let within = slice_get_within rows (place + 1) next here in
        let less : path_cmp (get_or rows place row).0 (get_or rows (place + 1) row).0 ≡ Less =
        rows_rise rows rising place (place + 1) row (omega arith) within in
        ap is_lt (subst (λ (a : Row). path_cmp a.0 next.0 ≡ Less) (get_or_from_slice_get rows place row row is)
        (subst (λ (b : Row). path_cmp (get_or rows place row).0 b.0 ≡ Less) (get_or_from_slice_get rows (place + 1) next row here) less))

-- where the rows that come after a path begin
after_drop : (path : Path) (rows : List Row) (place : ℕ) → AllAfter path (drop place rows) → ComesAfter rows place path
after_drop path [] place after = tt
after_drop path (row ∷ rows) zero after = first_so (is_lt (path_cmp path row.0)) (below_all path_cmp path rows) after
after_drop path (row ∷ rows) (suc place) after = after_drop path rows place after

pub after_row : (rows : List Row) → Rising rows → (path : Path) (place : ℕ) → IsRowAt rows path place → ComesAfter rows (place + 1) path
after_row rows rising path place at =
    let row : Row = get_or rows place (path, Dir) in
    subst (ComesAfter rows (place + 1)) (at.here (path, Dir))
    (next_after rows rising place row (slice_get-get_or rows place (path, Dir) at.in_range))

pub after_gap : (rows : List Row) (path : Path) (place : ℕ) → IsGap rows path place → ComesAfter rows place path
after_gap rows path place gap = after_drop path rows place gap.after
