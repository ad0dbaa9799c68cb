-- A map with each value replaced by one that its path and it decide.
use Rattle.std.specs.Prelude.{List, map}
use Rattle.std.specs.FinMap.{FinMap, entries, from_sorted}
use Rattle.iot_text.specs.Paths.{path_cmp}
use Rattle.iot_tree.specs.Tree.{Path}

abbrev pub mapped_entries : {A B : Type 0} → (Path → A → B) → List (Path × A) → List (Path × B)
mapped_entries f es = map (λ e. (e.0, f e.0 e.1)) es

-- the same paths, each with its new value
abbrev pub mapped : {A B : Type 0} → (Path → A → B) → FinMap path_cmp A → FinMap path_cmp B
mapped f m = from_sorted (mapped_entries f (entries m))
