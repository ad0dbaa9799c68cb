use Rattle.iot_kept.specs.Guarding.{says}
use Rattle.iot_kept.proofs.GuardingLaws.{SaidOnWay}
use Rattle.iot_kept.proofs.guards.said.Given as goal

abbrev pub invariant-reads : goal.invariant-reads
invariant-reads l = SaidOnWay (says l.path l.saying) l.reads l.read-index
