-- A sink in memory, as its contracts see it.
use Rattle.std.specs.Prelude.{ℕ, ◌-◌, Bool, ◌&&◌, ◌==◌, nat_lt, List, ◌++◌, length, take, if◌then◌else◌}
use Rattle.iot_count.specs.Counts.{one_more}

-- What was written, for how many bytes more there is room, which calls fail and which take nothing, and
-- how many calls, faults and empty writes came.
pub record MemOutput : Type 0 where
  pub written : List ℕ
  pub room : ℕ
  pub fails : List ℕ
  pub nothing : List ℕ
  pub calls : ℕ
  pub faults : ℕ
  pub empties : ℕ

-- whether a call that took n bytes took nothing of a piece that is not empty
abbrev pub is_empty_write : ℕ → List ℕ → Bool
is_empty_write n piece = (n == 0) && nat_lt 0 (length piece)

-- after a call that took n bytes of the piece
abbrev pub after_write : ℕ → List ℕ → MemOutput → MemOutput
after_write n piece s = record s {
  written = s.written ++ take n piece;
  room = s.room - n;
  calls = one_more s.calls;
  empties = if is_empty_write n piece then one_more s.empties else s.empties;
}

-- after a call that failed
abbrev pub after_failed_write : MemOutput → MemOutput
after_failed_write s = record s { calls = one_more s.calls; faults = one_more s.faults }
