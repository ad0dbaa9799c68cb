use Rattle.std.proofs.Common.{◌≡◌, drop}
use Rattle.iot_exec.specs.Misses.{first_away}
use Rattle.iot_exec.proofs.exec.first_away.Given as goal

abbrev pub invariant-reads : goal.invariant-reads
invariant-reads l = first_away (drop l.read-index l.reads) ≡ first_away l.reads
