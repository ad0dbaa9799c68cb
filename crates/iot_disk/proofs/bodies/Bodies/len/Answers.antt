use Rattle.std.proofs.Common.{arith}
use Rattle.iot_disk.proofs.BodiesLaws.{length-pieces}
use Rattle.iot_disk.proofs.bodies.Bodies.len.Goals as goal

pub returns : goal.returns
returns c = rw (← c.self.view_is)
    (omega (arith, length-pieces c.self.inside.lengths.items c.self.inside.bytes.items, c.len.ensures))
