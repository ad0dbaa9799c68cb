use Rattle.std.proofs.Common.{◌≡◌, take}
use Rattle.iot_audit.proofs.difference.same_len.Given as goal

abbrev pub invariant-rows : goal.invariant-rows
invariant-rows l = take l.at l.rows ≡ take l.at l.others
