use Rattle.std.proofs.Common.{◌≡◌, ◌++◌, map, take, drop}
use Rattle.iot_kept.specs.Memory.{past}
use Rattle.iot_kept.proofs.running.leave_view.Given as goal

abbrev pub invariant-running : goal.invariant-running
invariant-running l = l.running ≡ map past (take l.it-index l.fn.running) ++ drop l.it-index l.fn.running
