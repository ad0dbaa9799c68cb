use Rattle.std.proofs.Common.{◌≡◌, ◌++◌, map, take, drop}
use Rattle.iot_kept.specs.Memory.{second}
use Rattle.iot_kept.proofs.running.make_second.Given as goal

abbrev pub invariant-running : goal.invariant-running
invariant-running l = l.running ≡ map second (take l.it-index l.fn.running) ++ drop l.it-index l.fn.running
