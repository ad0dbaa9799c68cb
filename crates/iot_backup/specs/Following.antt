-- What a start from two disks needs of their images.
use Rattle.std.specs.Prelude.{ℕ, List}
use Rattle.iot_slots.specs.Decoding.{decoded}
use Rattle.iot_backup.specs.Pairs.{AreInStep}
use Rattle.iot_backup.specs.Start.{MayBeBehind}

-- The first one's count is the second one's or one more; and if it is one more, a record follows its checkpoint in force, and no checkpoint
-- is due on the second before the last such record. So a start from the two can bring the second up.
pub record MayFollow (header : List ℕ) (one other : List ℕ) : Type 0 where
  pub step : AreInStep (decoded header one) (decoded header other)
  pub behind : (body : List ℕ) → MayBeBehind header body one other
