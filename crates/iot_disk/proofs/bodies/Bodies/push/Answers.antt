use Rattle.iot_disk.proofs.BodiesLaws.{pieces-push}
use Rattle.iot_disk.proofs.bodies.Bodies.push.Goals as goal

pub returns-in-Ok-clause-ok : goal.returns-in-Ok-clause-ok
returns-in-Ok-clause-ok c = rw (c.in-Ok.ensures.items, c.in_ok-push.ensures.items, ← c.self.view_is)
    (pieces-push c.self.inside.lengths.items c.self.inside.bytes.items c.args.body.now c.self.invariant)
