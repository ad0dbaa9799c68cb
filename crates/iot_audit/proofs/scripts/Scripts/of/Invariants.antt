use Rattle.std.proofs.Common.{take}
use Rattle.iot_audit.proofs.ScriptsLaws.{Named}
use Rattle.iot_audit.proofs.scripts.Scripts.of.Given as goal

abbrev pub invariant-events : goal.invariant-events
invariant-events l = Named (λ script. script.value) (take l.event-index l.events) l.by_name
