use Rattle.std.proofs.Common.{Bool, sym, ◌∙◌, ap}
use Rattle.iot_backup.specs.Twin.{due_by, part_of}
use Rattle.iot_backup.proofs.PairsLaws.{synced_due}
use Rattle.iot_backup.proofs.twin.Twin.due.Goals as goal

pub returns-in-Some : goal.returns-in-Some
returns-in-Some g c =
    c.due.ensures
    ∙ sym (synced_due g.D.Disk.medium c.in-Some.slots (rw c.in-Some.is at c.requires.second) c.args.len)
    ∙ sym (ap (due_by g.D.Disk.medium c.args.len) c.in-Some.is)
    ∙ sym (ap (λ (b : Bool). due_by g.D.Disk.medium c.args.len (part_of b c.args.self.now)) c.if-second.true)

pub returns-else-second : goal.returns-else-second
returns-else-second g c =
    c.due-else-second.ensures
    ∙ sym (synced_due g.D.Disk.medium c.args.self.now.first c.requires.first c.args.len)
    ∙ sym (ap (λ (b : Bool). due_by g.D.Disk.medium c.args.len (part_of b c.args.self.now)) c.if-second.false)
