-- What writing to the end leaves in its sink.
use Rattle.std.specs.Prelude.{◌≡◌, ℕ}
use Rattle.iot_count.specs.Counts.{Rose}
use Rattle.iot_io.specs.declared.faults.SinkFault.{SinkFault}
use Rattle.iot_io.specs.declared.faults.SinkFault.TheVariants.{Failed, TookNothing}

-- the sink's count of faults, before and now: it rose exactly if a write failed
abbrev pub CountsSinkFault : SinkFault → ℕ → ℕ → Type 0
CountsSinkFault Failed before now = Rose before now
CountsSinkFault TookNothing before now = now ≡ before

-- the sink's count of empty writes, before and now: it rose exactly if the last write took nothing
abbrev pub CountsEmptyWrite : SinkFault → ℕ → ℕ → Type 0
CountsEmptyWrite Failed before now = now ≡ before
CountsEmptyWrite TookNothing before now = Rose before now
