use Rattle.std.proofs.Common.{subst}
use Rattle.iot_kept.specs.Reading.{ResumesIf}
use Rattle.iot_kept.proofs.ResumingLaws.{resume_stops}
use Rattle.iot_kept.proofs.body.running_from.Goals as goal

pub returns-in_default-2 : goal.returns-in_default-2
returns-in_default-2 c =
    resume_stops c.args.running c.running.made.items c.running.left.items c.pop_front.new.self.items c.in-Some.it c.running.invariant
    c.in-Some.ensures.items (subst (ResumesIf c.in-Some.it) c.in_default-2.is c.in_ok-it.ensures)
