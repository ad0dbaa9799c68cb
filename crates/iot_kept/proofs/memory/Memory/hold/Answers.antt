use Rattle.std.proofs.Common.{refl}
use Rattle.iot_kept.specs.Memory.{past}
use Rattle.iot_kept.proofs.PlaceLaws.{each_written}
use Rattle.iot_kept.proofs.SeesLaws.{held_noted}
use Rattle.iot_kept.proofs.memory.Memory.hold.Goals as goal

pub returns : goal.returns
returns c =
    held_noted c.args.tree c.args.self.now _ c.requires.follows c.requires.sees
    (record {
      held = c.in_ok-self-2.ensures.value;
      nodes = c.in_ok-self-2.ensures.nodes;
      view = c.in_ok-self.ensures;
      queue = refl;
      last = refl;
      access = refl;
    })
    (each_written past c.args.self.now.durable.running c.deref_mut.result.now c.leave_view.new.running c.leave_view.ensures
    c.deref_mut.ensures.value c.deref_mut.ensures.len)
