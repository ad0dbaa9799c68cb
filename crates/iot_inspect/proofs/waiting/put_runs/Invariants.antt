use Rattle.std.proofs.Common.{◌≡◌, ◌++◌, take}
use Rattle.std.specs.List.{flat_map}
use Rattle.iot_inspect.specs.Texts.{running_line}
use Rattle.iot_inspect.proofs.waiting.put_runs.Given as goal

-- the transactions so far are told
abbrev pub invariant-loop-run : goal.invariant-loop-run
invariant-loop-run l = l.out ≡ l.initial.out ++ flat_map (running_line l.client) (take l.run-index l.running)
