use Rattle.std.proofs.Common.{◌∙◌}
use Rattle.iot_slots.specs.Slots.{IsSynced}
use Rattle.iot_backup.specs.Parts.{part}
use Rattle.iot_durable.proofs.PartsLaws.{part_old}
use Rattle.iot_durable.proofs.RoomLaws.{due_laid}
use Rattle.iot_durable.proofs.log.TwinLog.due.Goals as goal

pub returns : goal.returns
returns g c =
    let medium = g.D.Disk.medium in
    let one = c.args.self.now.first in
    let other = c.args.self.now.second in
    c.due.ensures
    ∙ due_laid medium c.args.size (part c.args.on_second one other)
    (part_old (IsSynced medium) c.args.on_second one other c.requires.first c.requires.second)
