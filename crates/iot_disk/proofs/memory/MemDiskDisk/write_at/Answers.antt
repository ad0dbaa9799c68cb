use Rattle.std.proofs.Common.{length, ◌∙◌, sym, ap}
use Rattle.iot_disk.specs.Memory.{Memory}
use Rattle.iot_disk.proofs.MemoryLaws.{write_images}
use Rattle.iot_disk.proofs.memory.MemDiskDisk.write_at.Goals as goal

pub returns-clause-images : goal.returns-clause-images
returns-clause-images c =
    let view = c.self.view_is in
    let marks = ap (λ (m : Memory). length m.unsynced) (sym view) ∙ c.self.invariant.0.marks ∙ ap (λ (m : Memory). length m.written) view in
    let done = c.write_at.ensures in
    write_images c.args.at _ c.args.self.now c.write_at.new.self _ c.requires marks done.limit done.no_memory done.written
