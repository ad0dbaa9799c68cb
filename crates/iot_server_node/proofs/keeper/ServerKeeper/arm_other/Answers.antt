use Rattle.iot_server_node.proofs.{DisksLaws.reads_both, KeepersLaws.still_keeps}
use Rattle.iot_server_node.proofs.keeper.ServerKeeper.arm_other.Goals as goal

pub returns-clause-stands : goal.returns-clause-stands
returns-clause-stands g c n commits is =
    still_keeps is g.met.D.Disk.reads_is_image (record { server = c.arm.new.self; given_up = c.args.self.now.given_up })
    (c.arm.ensures.synced is.synced)
    (reads_both g.D.Disk.medium c.args.self.now.server c.arm.new.self c.args.self.now.given_up c.is_none-second.result c.arm.ensures.reads
    c.arm.ensures.other) c.arm.ensures.state c.arm.ensures.count
