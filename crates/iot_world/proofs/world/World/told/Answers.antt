use Rattle.iot_world.proofs.{ListLaws.looked_up, LookingLaws.tells_all, LookingLaws.tells_more}
use Rattle.iot_world.proofs.world.World.told.Goals as goal

pub loop-laptop-preserved : goal.loop-laptop-preserved
loop-laptop-preserved g c =
    tells_more _ c.args.self.now c.loop-laptop.laptop-index c.laptop-item.result
    (looked_up _ _ _ _ c.deref-laptop-items.ensures.value c.loop-laptop-test.true c.laptop-item.is)
    c.loop-laptop.json c.tell.new.json c.loop-laptop.invariant c.in_ok-tell.ensures

pub returns : goal.returns
returns g c =
    tells_all _ c.args.self.now c.loop-laptop.laptop-index c.loop-laptop.json
    (rw c.deref-laptop-items.ensures.value at c.loop-laptop-test.false) c.loop-laptop.invariant
