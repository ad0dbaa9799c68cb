-- A source in memory, as its contracts see it.
use Rattle.std.specs.Prelude.{ℕ, ◌+◌, List, drop}
use Rattle.iot_count.specs.Counts.{one_more}

-- the bytes that are left, how many were taken, which calls fail, and how many calls and faults came
pub record MemInput : Type 0 where
  pub left : List ℕ
  pub taken : ℕ
  pub fails : List ℕ
  pub calls : ℕ
  pub faults : ℕ

-- after a call that gave n bytes
abbrev pub after_read : ℕ → MemInput → MemInput
after_read n s = record s { left = drop n s.left; taken = s.taken + n; calls = one_more s.calls }

-- after a call that failed
abbrev pub after_failed_read : MemInput → MemInput
after_failed_read s = record s { calls = one_more s.calls; faults = one_more s.faults }
