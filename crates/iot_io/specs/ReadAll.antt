-- What reading to the end leaves in its source.
use Rattle.std.specs.Prelude.{◌≡◌, ℕ, ◌+◌, ◌≤◌, List, Option, length}
use Rattle.std.specs.Io.KnownBytes.{Consumes}
use Rattle.iot_count.specs.Counts.{Rose}
use Rattle.iot_io.specs.declared.faults.ReadFault.{ReadFault}
use Rattle.iot_io.specs.declared.faults.ReadFault.TheVariants.{NoMemory, Failed, TooLong}

-- These bytes were taken from the source: what was left begins with them, and they were counted.
pub record Took {S : Type 0} (left : S → Option (List ℕ)) (taken : S → ℕ) (old new : S) (bytes : List ℕ) : Type 0 where
  pub consumed : Consumes (left old) (left new) bytes
  pub counted : taken new ≡ taken old + length bytes

-- how many bytes were taken before this fault: more than the limit exactly if the input is too long
abbrev pub IsTakenBefore : ReadFault → ℕ → ℕ → Type 0
IsTakenBefore NoMemory limit count = count ≤ limit
IsTakenBefore Failed limit count = count ≤ limit
IsTakenBefore TooLong limit count = count ≡ limit + 1

-- the source's count of faults, before and now: it rose exactly if a read failed
abbrev pub CountsReadFault : ReadFault → ℕ → ℕ → Type 0
CountsReadFault NoMemory before now = now ≡ before
CountsReadFault Failed before now = Rose before now
CountsReadFault TooLong before now = now ≡ before
