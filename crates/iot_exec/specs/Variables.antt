-- Variables.
use Rattle.std.specs.Prelude.{ℕ, List}
use Rattle.std.specs.FinMap.{FinMap}
use Rattle.std.specs.Cmp.Lexicographic.{slice_cmp}
use Rattle.std.specs.Ordering.{nat_cmp}

-- the values of variables by their names
abbrev pub Variables : Type 0
Variables = FinMap (slice_cmp nat_cmp) (List ℕ)
