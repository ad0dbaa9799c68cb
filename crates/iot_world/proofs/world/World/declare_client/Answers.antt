use Rattle.iot_laptop.specs.Laptops.{stamps_by}
use Rattle.iot_world.proofs.Common.{ap, length, on_ok_weaker, refl, [], ◌++◌, ◌∙◌, ◌∷◌}
use Rattle.iot_world.proofs.{DeclaringLaws.declares, DeclaringLaws.joined_leaves, DeclaringLaws.joins, DisksLaws.nothing_leaves}
use Rattle.iot_world.proofs.world.World.declare_client.Goals as goal

pub returns-in_err-reserve-clause-disks : goal.returns-in_err-reserve-clause-disks
returns-in_err-reserve-clause-disks g c = nothing_leaves g.D.Disk.medium _ _ _ c.requires.stands refl c.reserve.ensures.items refl

pub returns : goal.returns
returns g c =
    let push = c.push_reserved.ensures.items ∙ ap (λ ls. ls ++ c.start-started.new.laptop ∷ []) c.reserve.ensures.items in
    let at = c.len-place.ensures ∙ c.reserve.new.self.ok.0 ∙ ap length c.reserve.ensures.items in
    let was = c.unopened-laptop.result in
    let taken = c.take_first-disk.ensures in
    let it = c.unopened-laptop.ensures in
    let kept = c.start-started.ensures in
    let started = c.start-started.result in
    record {
      step = on_ok_weaker _ (declares _ _ _ _ _ _ _ _ push taken.items (it.place ∙ at) kept.place it.stands
          (ap stamps_by it.unopened.down) _ _) kept.step;
      declared = on_ok_weaker started (λ said. joins g.D.Disk.medium c.args.name.now c.args.self.now c.push_reserved.new.self
          c.take_first-disk.new.disks _ was _ push taken.items) kept.step;
      disks = joined_leaves _ c.args.name.now _ _ _ _ was _ push taken.items started it.disk kept.disk taken.len taken.capacity
          c.requires.stands;
    }
