-- Quoted bytes.
use Rattle.std.specs.Prelude.{ℕ, ◌==◌, List, [], ◌∷◌, ◌++◌, if◌then◌else◌, codes}
use Rattle.std.specs.List.{flat_map}

-- a byte between quotes: `\n`, `\"` and `\\` for newline, quote and backslash, and any other for itself
abbrev pub quoted_byte : ℕ → List ℕ
quoted_byte b = if b == 10 then codes "\\n" else (if b == 34 then codes "\\\"" else (if b == 92 then codes "\\\\" else b ∷ []))

-- the bytes in quotes
abbrev pub quoted : List ℕ → List ℕ
quoted bytes = 34 ∷ (flat_map quoted_byte bytes ++ 34 ∷ [])
