-- The paths above a path.
use Rattle.std.specs.Prelude.{List, [], ◌∷◌, map}
use Rattle.iot_tree.specs.Tree.{Path}

-- all paths above the path, the root first
abbrev pub proper_prefixes : Path → List Path
proper_prefixes [] = []
proper_prefixes (name ∷ rest) = [] ∷ map (λ above. name ∷ above) (proper_prefixes rest)
