use Rattle.iot_slots.specs.Slots.{IsSynced}
use Rattle.iot_tests.proofs.slots.fill.Given as goal

-- nothing is under way
abbrev pub invariant-loop-i : goal.invariant-loop-i
invariant-loop-i g l = IsSynced g.D.Disk.medium l.slots
