-- The longest beginning of a text whose bytes all pass a test, and what comes after it.
use Rattle.std.specs.Prelude.{ℕ, Bool, false, List, [], ◌∷◌, take, drop}
use Rattle.std.specs.List.{prefix_len}

abbrev pub front : (ℕ → Bool) → List ℕ → List ℕ
front test text = take (prefix_len test text) text

abbrev pub after : (ℕ → Bool) → List ℕ → List ℕ
after test text = drop (prefix_len test text) text

-- whether the text begins with a byte that passes
abbrev pub begins : (ℕ → Bool) → List ℕ → Bool
begins test [] = false
begins test (b ∷ bs) = test b
