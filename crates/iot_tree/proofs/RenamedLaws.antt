-- Rows with new paths.
use Rattle.std.proofs.Common.{◌≡◌, List, [], ◌∷◌, ◌++◌, refl, sym, ap, ◌∙◌, ◌&&◌, length, drop, map}
use Rattle.std.specs.Cmp.Derive.{both_true}
use Rattle.std.proofs.Math.Seq.{drop-append_seam}
use Rattle.std.specs.Cmp.{first_so, second_so}
use Rattle.std.specs.FinMap.Entries.{below_all}
use Rattle.std.specs.Ordering.{is_lt}
use Rattle.iot_text.specs.Paths.{path_cmp}
use Rattle.iot_tree.specs.Rows.{Rising}
use Rattle.iot_tree.specs.Tree.{Path, Row}
use Rattle.iot_tree.specs.Updates.{renamed, renamed_row}
use Rattle.iot_tree.proofs.TreeLaws.{apart}
use Rattle.iot_tree.proofs.WithinLaws.{IsOutside, Inside, Outside, test_is, side, same_front, inside, outside}

-- ---- new paths

pub renamed_inside : (p q path rest : Path) → path ≡ p ++ rest → renamed p q path ≡ q ++ rest
renamed_inside p q path rest is =
    rw ((test_is p path).1 rest is) (ap (λ (tail : Path). q ++ tail) (ap (drop (length p)) is ∙ drop-append_seam p rest))

pub renamed_outside : (p q path : Path) → IsOutside p path → renamed p q path ≡ path
renamed_outside p q path out = elim (side p path) [
  | inside rest is test ↦ absurd (out rest is)
  | outside apart test ↦ rw test refl
]

pub moved_inside : (p q : Path) (rows : List Row) → Inside p rows → Inside q (map (renamed_row p q) rows)
moved_inside p q [] ins = tt
moved_inside p q (row ∷ rows) ins = ((ins.0.0, renamed_inside p q row.0 ins.0.0 ins.0.1), moved_inside p q rows ins.1)

pub moved_outside : (p q : Path) (rows : List Row) → Outside p rows → map (renamed_row p q) rows ≡ rows
moved_outside p q [] out = refl
moved_outside p q (row ∷ rows) out = λ i. (renamed_outside p q row.0 out.0 i, row.1) ∷ moved_outside p q rows out.1 i

same_end : (p q rest : Path) (row : Row) (end : Path) → row.0 ≡ p ++ end
    → path_cmp (q ++ rest) (renamed p q row.0) ≡ path_cmp (p ++ rest) row.0
same_end p q rest row end is =
    ap (path_cmp (q ++ rest)) (renamed_inside p q row.0 end is) ∙ same_front q rest end
    ∙ sym (ap (path_cmp (p ++ rest)) is ∙ same_front p rest end)

below_moved : (p q rest : Path) (rows : List Row) → Inside p rows
    → below_all path_cmp (q ++ rest) (map (renamed_row p q) rows) ≡ below_all path_cmp (p ++ rest) rows
below_moved p q rest [] ins = refl
below_moved p q rest (row ∷ rows) ins = λ i. is_lt (same_end p q rest row ins.0.0 ins.0.1 i) && below_moved p q rest rows ins.1 i

-- moved rows keep their order
pub sorted_moved : (p q : Path) (rows : List Row) → Inside p rows → Rising rows → Rising (map (renamed_row p q) rows)
sorted_moved p q [] ins rising = refl
sorted_moved p q (row ∷ rows) ins rising =
    both_true (
    ap (λ (path : Path). below_all path_cmp path (map (renamed_row p q) rows)) (renamed_inside p q row.0 ins.0.0 ins.0.1)
    ∙ below_moved p q ins.0.0 rows ins.1
    ∙ ap (λ (path : Path). below_all path_cmp path rows) (sym ins.0.1) ∙ first_so _ _ rising)
    (sorted_moved p q rows ins.1 (second_so (below_all path_cmp row.0 rows) _ rising))
