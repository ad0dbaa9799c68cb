use Rattle.std.proofs.Common.{◌≡◌, ◌++◌, drop}
use Rattle.iot_access.specs.Access.{lines_of}
use Rattle.iot_client.proofs.requests.lines_of.Given as goal

abbrev pub invariant-acts : goal.invariant-acts
invariant-acts l = l.lines ++ lines_of (drop l.act-index l.acts) ≡ lines_of l.acts
