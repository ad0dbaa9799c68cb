use Rattle.std.proofs.Common.{length}
use Rattle.iot_records.proofs.RecordsLaws.{AreLeft}
use Rattle.iot_records.proofs.views.lend_records.Given as goal

-- what is left from the next gate on
abbrev pub invariant-loop-after : goal.invariant-loop-after
invariant-loop-after l = AreLeft l.bytes l.rest l.count

abbrev pub decreases-loop-after : goal.decreases-loop-after
decreases-loop-after l = length l.rest
