use Rattle.std.proofs.Common.{take}
use Rattle.iot_exec.proofs.FindingLaws.{HasPaths}
use Rattle.iot_exec.proofs.finding.set_of.Given as goal

abbrev pub invariant-paths : goal.invariant-paths
invariant-paths l = HasPaths l.set (take l.path-index l.paths)
