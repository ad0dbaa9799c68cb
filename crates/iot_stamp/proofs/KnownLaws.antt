-- The paths that are sent, one by one.
use Rattle.std.proofs.Common.{◌≡◌, ℕ, zero, suc, ◌<◌, Bool, true, false, IsTrue, List, [], ◌∷◌, Some, None, length}
use Rattle.std.proofs.Common.{get_or, refl, ap, arith}
use Rattle.std.specs.List.{filter_map}
use Rattle.std.specs.Ordering.{is_lt}
use Rattle.std.specs.FinMap.{is_sorted, entries, entries_sorted}
use Rattle.std.specs.FinMap.Entries.{below_all}
use Rattle.iot_text.specs.Paths.{path_cmp}
use Rattle.iot_stamp.specs.Stamps.{Entry, Stamps}
use Rattle.iot_tree.proofs.RowLaws.{is_tested}
use Rattle.iot_tree.specs.Snapshots.{is_known}
use Rattle.iot_tree.specs.Tree.{Row, Path}
use Rattle.std.specs.Cmp.{first_so, second_so}
use Rattle.std.specs.Cmp.Derive.{both_true}
use Rattle.iot_stamp.specs.Refresh.{known_stamp, known_with_stamps}
use Rattle.iot_stamp.specs.Pairing.{paired}

pub read_paired : (rows : List Row) (stamps : List ℕ) (i : ℕ) (row : Row) (d : Entry) → i < length rows → row ≡ get_or rows i row
    → (row.0, (row.1, get_or stamps i 0)) ≡ get_or (paired rows stamps) i d
read_paired [] stamps i row d lt is = absurd (omega (arith, lt))
read_paired (x ∷ rows) [] zero row d lt is = ap (λ (r : Row). (r.0, (r.1, zero))) is
read_paired (x ∷ rows) (n ∷ stamps) zero row d lt is = ap (λ (r : Row). (r.0, (r.1, n))) is
read_paired (x ∷ rows) [] (suc i) row d lt is = read_paired rows [] i row d (omega (arith, lt)) is
read_paired (x ∷ rows) (n ∷ stamps) (suc i) row d lt is = read_paired rows stamps i row d (omega (arith, lt)) is

below_known : (p : Path) (es : List Entry) → IsTrue (below_all path_cmp p es) → IsTrue (below_all path_cmp p (filter_map known_stamp es))
below_known p [] below = refl
below_known p (e ∷ es) below = by (below_known p es (second_so (is_lt (path_cmp p e.0)) _ below)) (is_known e.1.0) refl
  where
    by : IsTrue (below_all path_cmp p (filter_map known_stamp es)) → (b : Bool) → is_known e.1.0 ≡ b
        → IsTrue (below_all path_cmp p (filter_map known_stamp (e ∷ es)))
    by rest true is = rw is (both_true (first_so (is_lt (path_cmp p e.0)) _ below) rest)
    by rest false is = rw is rest

known_rising_in : (es : List Entry) → IsTrue (is_sorted path_cmp es) → IsTrue (is_sorted path_cmp (filter_map known_stamp es))
known_rising_in [] rising = refl
known_rising_in (e ∷ es) rising = by (known_rising_in es (second_so (below_all path_cmp e.0 es) _ rising)) (is_known e.1.0) refl
  where
    by : IsTrue (is_sorted path_cmp (filter_map known_stamp es)) → (b : Bool) → is_known e.1.0 ≡ b
        → IsTrue (is_sorted path_cmp (filter_map known_stamp (e ∷ es)))
    by rest true is = rw is (both_true (below_known e.0 es (first_so (below_all path_cmp e.0 es) _ rising)) rest)
    by rest false is = rw is rest

-- what is sent is in order
pub known_rising : (t : Stamps) → IsTrue (is_sorted path_cmp (known_with_stamps t))
known_rising t = known_rising_in (entries t) (is_tested _ (entries_sorted t))

pub stamp_some : (e : Entry) → is_known e.1.0 ≡ true → known_stamp e ≡ Some (e.0, e.1.1)
stamp_some e is = rw is refl

pub stamp_none : (e : Entry) → is_known e.1.0 ≡ false → known_stamp e ≡ None
stamp_none e is = rw is refl

pub long_paired : (rows : List Row) (stamps : List ℕ) → length (paired rows stamps) ≡ length rows
long_paired [] stamps = refl
long_paired (x ∷ rows) [] = ap suc (long_paired rows [])
long_paired (x ∷ rows) (n ∷ stamps) = ap suc (long_paired rows stamps)
