-- Bodies of records that stand one after another in one list of bytes.
use Rattle.std.specs.Prelude.{ℕ, List, [], ◌∷◌, take, drop}

-- the pieces of these lengths
abbrev pub pieces : (lengths bytes : List ℕ) → List (List ℕ)
pieces [] bytes = []
pieces (n ∷ lengths) bytes = take n bytes ∷ pieces lengths (drop n bytes)
