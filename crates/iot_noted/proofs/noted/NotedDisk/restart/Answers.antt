use Rattle.iot_noted.specs.Images.{reads_is_image_by}
use Rattle.iot_noted.proofs.noted.NotedDisk.restart.Goals as goal

pub returns-then-settle-clause-image : goal.returns-then-settle-clause-image
returns-then-settle-clause-image g c =
    rw c.settle.ensures.reads (reads_is_image_by c.args.self.now.is_given_up (g.C.Calls.history c.args.self.now.file))

pub returns-else-settle-clause-image : goal.returns-else-settle-clause-image
returns-else-settle-clause-image g c =
    rw c.settle.ensures.reads (reads_is_image_by c.args.self.now.is_given_up (g.C.Calls.history c.args.self.now.file))
