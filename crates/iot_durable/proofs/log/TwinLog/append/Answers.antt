use Rattle.std.proofs.Common.{length, Some, ◌∙◌}
use Rattle.iot_slots.specs.Slots.{header_of}
use Rattle.iot_durable.specs.Durable.{images_of}
use Rattle.iot_durable.proofs.RoomLaws.{both_follow, due_laid}
use Rattle.iot_durable.proofs.log.TwinLog.append.Goals as goal

pub append-requires-clause-first_not_due : goal.append-requires-clause-first_not_due
append-requires-clause-first_not_due g c =
    due_laid g.D.Disk.medium (length c.args.body.now) (Some c.args.self.now.first) c.requires.synced.first ∙ c.requires.first_not_due

pub append-requires-clause-second_not_due : goal.append-requires-clause-second_not_due
append-requires-clause-second_not_due g c =
    due_laid g.D.Disk.medium (length c.args.body.now) c.args.self.now.second c.requires.synced.second ∙ c.requires.second_not_due

pub returns-clause-follows : goal.returns-clause-follows
returns-clause-follows g c =
    both_follow (header_of c.args.self.now.first) (images_of g.D.Disk.medium c.append.new.self.first) (images_of g.D.Disk.medium)
    c.append.new.self.second c.append.ensures.in_step c.append.ensures.again
