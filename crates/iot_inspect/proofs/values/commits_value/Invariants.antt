use Rattle.std.proofs.Common.{◌≡◌, ◌++◌, ◌+◌, drop, map}
use Rattle.serde_json.specs.View.{view}
use Rattle.iot_inspect.specs.Values.{commits_from}
use Rattle.iot_inspect.proofs.values.commits_value.Given as goal

-- the commits so far, and those that are left, are all of them
abbrev pub invariant-loop-place : goal.invariant-loop-place
invariant-loop-place l =
    map view l.values.items ++ commits_from l.names (l.place + 1) (drop l.place l.labels)
    ≡ commits_from l.names 1 l.labels
