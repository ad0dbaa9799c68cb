-- The four lines that sum up a run.
use Rattle.std.specs.Prelude.{ℕ, List, ◌∷◌, ◌++◌, nat_eq, count_by, codes, decimal}
use Rattle.std.specs.List.{starts_with}
use Rattle.iot_lines.specs.Lines.{lines}
use Rattle.iot_machine.specs.Json.{row_count}
use Rattle.iot_machine.specs.Machine.{Machine}
use Rattle.iot_machine.specs.Texts.{line}
use Rattle.iot_app.specs.declared.tally.Tally.{Tally}

-- how many lines of a text begin so
abbrev pub count_lines : (front text : List ℕ) → ℕ
count_lines front text = count_by (λ l. starts_with nat_eq l front) (lines text)

-- what is counted in a transcript
abbrev pub tally_of : (transcript : List ℕ) → Tally
tally_of transcript = record {
  commits = count_lines (codes "commit ") transcript;
  conflicts = count_lines (codes "conflict ") transcript;
  pending = count_lines (codes "pending ") transcript;
}

abbrev pub counted_line : List ℕ → ℕ → List ℕ
counted_line what count = line (what ++ 32 ∷ decimal count)

abbrev pub summary_text : Tally → (rows : ℕ) → List ℕ
summary_text counts rows = counted_line (codes "commits") counts.commits
    ++ counted_line (codes "conflicts") counts.conflicts
    ++ counted_line (codes "pending") counts.pending
    ++ counted_line (codes "rows") rows

-- what a transcript has, and how many rows the server's tree has at its end
abbrev pub summary : (transcript : List ℕ) → Machine → List ℕ
summary transcript m = summary_text (tally_of transcript) (row_count m)
