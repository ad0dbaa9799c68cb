use Rattle.std.proofs.Common.{◌≡◌, ◌++◌, take, length}
use Rattle.std.specs.List.{flat_map}
use Rattle.iot_codec.specs.Spelling.{number_spelling}
use Rattle.iot_bodies.specs.Spelling.{running_spelling}
use Rattle.iot_bodies.proofs.running.put_runs.Given as goal

abbrev pub invariant-running : goal.invariant-running
invariant-running g l =
    l.out
    ≡ l.fn.out
    ++ (number_spelling (length l.running) ++ flat_map (λ it. running_spelling (g.R.Runs.run it)) (take l.it-index l.running))
