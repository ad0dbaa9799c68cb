-- What is said of each image that a crash may leave.
use Rattle.std.specs.Prelude.{ℕ, List}

-- each of these images is as the test says
pub record Each (P : List ℕ → Type 0) (images : List ℕ → Type 0) : Type 0 where
  pub each : (image : List ℕ) → images image → P image
