-- What is known of standard input and output: their counts.
use Rattle.std.specs.Prelude.{ℕ}

-- how many bytes were taken, and how many reads failed
pub record InputCounts : Type 0 where
  pub taken : ℕ
  pub faults : ℕ

-- how many writes failed, and how many took nothing of a piece that is not empty
pub record OutputCounts : Type 0 where
  pub faults : ℕ
  pub empties : ℕ
