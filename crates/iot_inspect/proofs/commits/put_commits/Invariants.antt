use Rattle.std.proofs.Common.{◌+◌, drop}
use Rattle.iot_text.proofs.TextsLaws.{Leaves}
use Rattle.iot_inspect.specs.Texts.{log_from}
use Rattle.iot_inspect.proofs.commits.put_commits.Given as goal

-- the commits that are left are to come
abbrev pub invariant-loop-place : goal.invariant-loop-place
invariant-loop-place l =
    Leaves l.initial.out l.out (log_from l.clients (l.place + 1) (drop l.place l.labels)) (log_from l.clients 1 l.labels)
