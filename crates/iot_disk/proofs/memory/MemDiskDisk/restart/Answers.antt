use Rattle.std.proofs.Common.{sym, subst}
use Rattle.iot_disk.specs.Memory.{Memory, IsImage, IsSound}
use Rattle.iot_disk.proofs.MemoryLaws.{picked_image}
use Rattle.iot_disk.proofs.memory.MemDiskDisk.restart.Goals as goal

pub returns-clause-image : goal.returns-clause-image
returns-clause-image c =
    let m = c.args.self.now in
    let sound = subst (λ (d : Memory). IsSound d.written d.synced d.unsynced) c.self.view_is c.self.invariant.0 in
    subst (λ (new : Memory). IsImage m.written m.synced m.unsynced new.written) (sym c.restart.ensures.state)
    (picked_image m.failures.failed m.written m.synced m.unsynced sound)
