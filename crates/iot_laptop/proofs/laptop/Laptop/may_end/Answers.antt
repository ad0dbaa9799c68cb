use Rattle.iot_laptop.proofs.FindingLaws.{full_in}
use Rattle.iot_laptop.proofs.laptop.Laptop.may_end.Goals as goal

pub returns-in-Some : goal.returns-in-Some
returns-in-Some g c =
    rw c.len.ensures (full_in c.args.number c.in-Some.running.now c.requires c.in-Some.ensures.running c.if-at_end.ensures)
