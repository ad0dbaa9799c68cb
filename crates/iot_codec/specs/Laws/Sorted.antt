-- Tables whose paths rise are sorted by their paths, and the other way round.
use Rattle.std.proofs.Common.{◌≡◌, IsTrue, List, [], ◌∷◌, Some, None, refl, ap}
use Rattle.std.specs.Cmp.{first_so, second_so}
use Rattle.std.specs.Cmp.Derive.{both_true}
use Rattle.std.specs.FinMap.{is_sorted}
use Rattle.std.specs.FinMap.Entries.{below_all}
use Rattle.std.specs.Ordering.{is_lt}
use Rattle.std.specs.declared.cmp.Ordering.TheVariants.{Less}
use Rattle.iot_text.specs.Paths.{path_cmp}
use Rattle.iot_text.proofs.PathsLaws.{path_total}
use Rattle.iot_tree.specs.Tree.{Path}
use Rattle.iot_tree.proofs.PlaceLaws.{is_less}
use Rattle.iot_views.specs.Rules.{AreRising}

module _ {V : Type 0} where
  -- a lesser path comes before the same paths
  before_more : (p q : Path) (pairs : List (Path × V)) → path_cmp p q ≡ Less → IsTrue (below_all path_cmp q pairs)
      → IsTrue (below_all path_cmp p pairs)
  before_more p q [] less below = refl
  before_more p q (pair ∷ pairs) less below =
      both_true
      (ap is_lt (path_total.trans p q pair.0 less (is_less (path_cmp q pair.0) (first_so (is_lt (path_cmp q pair.0)) _ below))))
      (before_more p q pairs less (second_so (is_lt (path_cmp q pair.0)) _ below))

  before_all : (first : Path × V) (pairs : List (Path × V)) → AreRising path_cmp pairs (Some first)
      → IsTrue (below_all path_cmp first.0 pairs)
  before_all first [] rising = refl
  before_all first (pair ∷ pairs) rising =
      both_true rising.0
      (before_more first.0 pair.0 pairs (is_less (path_cmp first.0 pair.0) rising.0) (before_all pair pairs rising.1))

  sorted_after : (first : Path × V) (pairs : List (Path × V)) → AreRising path_cmp pairs (Some first) → IsTrue (is_sorted path_cmp pairs)
  sorted_after first [] rising = refl
  sorted_after first (pair ∷ pairs) rising = both_true (before_all pair pairs rising.1) (sorted_after pair pairs rising.1)

  pub sorted_table : (pairs : List (Path × V)) → AreRising path_cmp pairs None → IsTrue (is_sorted path_cmp pairs)
  sorted_table [] rising = refl
  sorted_table (pair ∷ pairs) rising = both_true (before_all pair pairs rising.1) (sorted_after pair pairs rising.1)

  rising_after : (first : Path × V) (pairs : List (Path × V)) → IsTrue (below_all path_cmp first.0 pairs)
      → IsTrue (is_sorted path_cmp pairs) → AreRising path_cmp pairs (Some first)
  rising_after first [] below sorted = tt
  rising_after first (pair ∷ pairs) below sorted = (
    first_so (is_lt (path_cmp first.0 pair.0)) _ below,
    rising_after pair pairs (first_so (below_all path_cmp pair.0 pairs) _ sorted) (second_so (below_all path_cmp pair.0 pairs) _ sorted),
  )

  pub rising_table : (pairs : List (Path × V)) → IsTrue (is_sorted path_cmp pairs) → AreRising path_cmp pairs None
  rising_table [] sorted = tt
  rising_table (pair ∷ pairs) sorted = (
    refl,
    rising_after pair pairs (first_so (below_all path_cmp pair.0 pairs) _ sorted) (second_so (below_all path_cmp pair.0 pairs) _ sorted),
  )
