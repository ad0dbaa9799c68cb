-- How a transcript is counted piece by piece.
use Rattle.std.specs.Prelude.{◌≡◌, ◌⊎◌, ℕ, ◌+◌, List, [], ◌∷◌, ◌++◌}
use Rattle.iot_app.specs.Summary.{tally_of}
use Rattle.iot_app.specs.declared.tally.Tally.{Tally}

abbrev pub plus : Tally → Tally → Tally
plus one other = record {
  commits = one.commits + other.commits;
  conflicts = one.conflicts + other.conflicts;
  pending = one.pending + other.pending;
}

-- a text ends with a newline
pub record EndsLine (text : List ℕ) : Type 0 where
  pub front : List ℕ
  pub split : text ≡ front ++ 10 ∷ []

-- a text has whole lines alone
abbrev pub IsWhole : List ℕ → Type 0
IsWhole text = (text ≡ []) ⊎ EndsLine text

-- the lines of a transcript are counted, but for this text at its end
pub record HasCounted (counts : Tally) (rest : List ℕ) (transcript : List ℕ) : Type 0 where
  pub done : List ℕ
  pub split : transcript ≡ done ++ rest
  pub lines : IsWhole done
  pub counted : counts ≡ tally_of done

-- what was counted of a transcript, and what is left of it, in other words
pub record Carries (old : Tally) (text : List ℕ) (new : Tally) (rest : List ℕ) : Type 0 where
  pub means : (transcript : List ℕ) → HasCounted old text transcript → HasCounted new rest transcript
