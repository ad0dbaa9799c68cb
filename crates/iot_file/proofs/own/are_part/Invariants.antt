use Rattle.std.proofs.Common.{◌≡◌, drop}
use Rattle.iot_file.specs.Own.{is_part}
use Rattle.iot_file.proofs.own.are_part.Given as goal

-- those that are left decide
abbrev pub invariant-loop-k : goal.invariant-loop-k
invariant-loop-k l = is_part l.first l.bytes ≡ is_part (drop l.k l.first) (drop l.k l.bytes)
