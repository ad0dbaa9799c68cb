-- The words of a line.
use Rattle.std.specs.Prelude.{ℕ, ◌==◌, ◌||◌, not, Bool, true, List, [], ◌∷◌, if◌then◌else◌}
use Rattle.iot_lines.specs.Fronts.{front, after, begins}

-- spaces and tabs
abbrev pub is_blank : ℕ → Bool
is_blank b = b == 32 || b == 9

-- the other bytes
abbrev pub is_solid : ℕ → Bool
is_solid b = not (is_blank b)

-- a byte before the word that comes right after it, or a word of its own
abbrev pub onto_word : ℕ → Bool → List (List ℕ) → List (List ℕ)
onto_word b true (word ∷ later) = (b ∷ word) ∷ later
onto_word b adjacent later = (b ∷ []) ∷ later

-- the pieces between blanks; none of them is empty
abbrev pub words : List ℕ → List (List ℕ)
words [] = []
words (b ∷ bs) = if is_blank b then words bs else onto_word b (begins is_solid bs) (words bs)

-- the line from its first byte on that is not blank
abbrev pub without_blanks : List ℕ → List ℕ
without_blanks line = after is_blank line

-- the bytes up to the first blank, and those from it on
abbrev pub front_word : List ℕ → List ℕ
front_word line = front is_solid line

abbrev pub after_word : List ℕ → List ℕ
after_word line = after is_solid line

-- whether the text is empty or begins with `#`
abbrev pub is_comment : List ℕ → Bool
is_comment [] = true
is_comment (b ∷ bs) = b == 35

-- whether a line says nothing: it has blanks alone, or its first byte after blanks is `#`
abbrev pub is_skipped : List ℕ → Bool
is_skipped line = is_comment (without_blanks line)
