use Rattle.iot_server_node.proofs.CountsLaws.{disks_kept}
use Rattle.iot_server_node.proofs.keeper.ServerKeeper.handle.Goals as goal

pub returns-in-Ok-clause-disk : goal.returns-in-Ok-clause-disk
returns-in-Ok-clause-disk g c =
    let it = c.handle.ensures in
    disks_kept g.D.Disk.medium c.args.self.now c.handle.new.self it.arms it.second_arms c.handle.result it.faults

pub returns-in-NoMemory-clause-disk : goal.returns-in-NoMemory-clause-disk
returns-in-NoMemory-clause-disk g c =
    let it = c.handle.ensures in
    disks_kept g.D.Disk.medium c.args.self.now c.handle.new.self it.arms it.second_arms c.handle.result it.faults

pub returns-in-Stopped-clause-disk : goal.returns-in-Stopped-clause-disk
returns-in-Stopped-clause-disk g c =
    let it = c.handle.ensures in
    disks_kept g.D.Disk.medium c.args.self.now c.handle.new.self it.arms it.second_arms c.handle.result it.faults
