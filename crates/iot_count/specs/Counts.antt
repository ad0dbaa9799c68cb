-- What it means that a count rose, or stayed.
use Rattle.std.specs.Prelude.{◌≡◌, ℕ, ◌+◌, ◌-◌, ◌^◌, ◌≤◌, min}

-- one more, up to the last value of a counter
abbrev pub one_more : ℕ → ℕ
one_more count = min (count + 1) (2 ^ 64 - 1)

-- The count rose. One that is at the last value of its counter counts as risen by any number.
abbrev pub Rose : (before after : ℕ) → Type 0
Rose before after = one_more before ≤ after

-- the count is what it was
abbrev pub Stayed : (before after : ℕ) → Type 0
Stayed before after = after ≡ before

-- a count, before and after a call
pub record Counted : Type 0 where
  pub before : ℕ
  pub after : ℕ

abbrev pub HasRisen : Counted → Type 0
HasRisen counted = Rose counted.before counted.after

abbrev pub IsSteady : Counted → Type 0
IsSteady counted = Stayed counted.before counted.after
