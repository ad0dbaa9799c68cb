-- The lines of a text.
use Rattle.std.specs.Prelude.{ℕ, ◌≡◌, ◌⊎◌, ◌==◌, List, [], ◌∷◌, ◌++◌, if◌then◌else◌}

-- a byte before the first line, or a line of its own if there is none
abbrev pub onto_line : ℕ → List (List ℕ) → List (List ℕ)
onto_line b [] = (b ∷ []) ∷ []
onto_line b (line ∷ later) = (b ∷ line) ∷ later

-- the pieces between newlines; a newline at the very end begins no further piece, and the empty text has none
abbrev pub lines : List ℕ → List (List ℕ)
lines [] = []
lines (b ∷ bs) = if b == 10 then [] ∷ lines bs else onto_line b (lines bs)

-- the text is the line, its newline and the rest; or the line alone, with nothing after it
abbrev pub IsJoined : (text line rest : List ℕ) → Type 0
IsJoined text line rest = (text ≡ line ++ 10 ∷ rest) ⊎ ((text ≡ line) × (rest ≡ []))
