-- Entries kept in a map by the names of paths.
use Rattle.std.specs.Prelude.{◌≡◌, ◌+◌, ℕ, List, [], ◌∷◌, Option, Some, None, bytes_eq, if◌then◌else◌}
use Rattle.std.specs.BTreeMap.{BTreeMap, get_by}
use Rattle.std.specs.List.{starts_with}
use Rattle.std.specs.declared.alloc.Global.{Global}
use Rattle.std.specs.declared.vec.Vec.{Vec}
use Rattle.iot_text.specs.Paths.{path_cmp, IsBelow}
use Rattle.iot_tree.specs.Tree.{Path}
use Rattle.iot_tree.specs.declared.updates.Update.{Update}
use Rattle.iot_access.specs.Entries.{Entries, Sets, NoneBelow, Tells}
use Rattle.iot_access.specs.Sources.{source, mode_source}
use Rattle.iot_access.specs.declared.origins.Origins.{Origins}

-- the names of a path, as a key
abbrev pub Key : Type 0
Key = Vec (List ℕ) Global

-- paths, each with where the row there comes from, or its mode
abbrev pub Index : Type 0
Index = BTreeMap Key (Option Path)

-- the entries that these are
abbrev pub entries : Index → Entries
entries index k = get_by (λ key. path_cmp k key.items) index

-- how many keys are at or below p
abbrev pub count_within : Path → List (Key × Option Path) → ℕ
count_within p [] = 0
count_within p (row ∷ rows) = (if starts_with bytes_eq row.0.items p then 1 else 0) + count_within p rows

-- an entry of a path below p is taken away, or there was none
abbrev pub Takes : Index → Index → Path → Option (Key × Option Path) → Type 0
Takes old new p None = NoneBelow (entries old) p × (new ≡ old)
Takes old new p (Some row) =
    IsBelow row.0.items p × (entries old row.0.items ≡ Some row.1) × Sets (entries old) (entries new) row.0.items None
    × (count_within p new.entries + 1 ≡ count_within p old.entries)

-- the entries tell where the rows of a tree come from after these updates, the last one first, and where their modes do
pub record TellAfter (origins : Origins) (done : List Update) : Type 0 where
  pub rows : Tells (entries origins.rows) (source done)
  pub modes : Tells (entries origins.modes) (mode_source done)
