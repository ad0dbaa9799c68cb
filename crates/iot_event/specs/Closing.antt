-- Where a script or a profile ends.
use Rattle.std.specs.Prelude.{ℕ, ◌+◌, ◌-◌, ◌==◌, ◌||◌, Bool, false, List, [], ◌∷◌, ◌++◌, Option, Some, None, codes, bytes_eq, if◌then◌else◌}
use Rattle.iot_lines.specs.Words.{words}

-- whether the only word of a line is `}`
abbrev pub is_closing : List (List ℕ) → Bool
is_closing [] = false
is_closing (word ∷ []) = bytes_eq word (codes "}")
is_closing (word ∷ other ∷ more) = false

-- whether the first word of a line is `if` or `for`
abbrev pub opens_block : List (List ℕ) → Bool
opens_block [] = false
opens_block (word ∷ more) = bytes_eq word (codes "if") || bytes_eq word (codes "for")

-- how many blocks are open after a line with these words, if so many are open before it; none if the line closes the script
abbrev pub blocks_after : List (List ℕ) → ℕ → Option ℕ
blocks_after line blocks =
    if is_closing line then (if blocks == 0 then None else Some (blocks - 1))
    else if opens_block line then Some (blocks + 1)
    else Some blocks

-- the lines inside a script or a profile, the line that closes it, and the lines after that
pub record Closed : Type 0 where
  pub inside : List (List ℕ)
  pub closing : List ℕ
  pub later : List (List ℕ)

-- the same, with these lines before those inside
abbrev pub with_lines : List (List ℕ) → Option Closed → Option Closed
with_lines front None = None
with_lines front (Some script) = Some (record script { inside = front ++ script.inside })

-- a line that closes the script, or leaves so many blocks open to the later lines
abbrev pub closed_at : Option ℕ → (line : List ℕ) (later : List (List ℕ)) (go : ℕ → Option Closed) → Option Closed
closed_at None line later go = Some (record { inside = []; closing = line; later = later })
closed_at (Some blocks) line later go = with_lines (line ∷ []) (go blocks)

-- the script that is open before these lines, with so many of its blocks open: the first line `}` without an open block closes it
abbrev pub closed_by : List (List ℕ) → ℕ → Option Closed
closed_by [] blocks = None
closed_by (line ∷ later) blocks = closed_at (blocks_after (words line) blocks) line later (λ n. closed_by later n)

-- the profile that is open before these lines: the first line whose only word is `}` closes it
abbrev pub first_closing : List (List ℕ) → Option Closed
first_closing [] = None
first_closing (line ∷ later) =
    if is_closing (words line)
    then Some (record { inside = []; closing = line; later = later })
    else with_lines (line ∷ []) (first_closing later)
