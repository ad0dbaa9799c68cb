use Rattle.std.proofs.Common.{◌∙◌, map, refl, sym, ap, subst}
use Rattle.iot_tree.specs.Tree.{Nodes}
use Rattle.iot_acts.specs.Traces.{ActsHold, after_acts}
use Rattle.iot_queue.specs.declared.items.Item.{Item}
use Rattle.iot_kept.specs.Memory.{memory_state, past}
use Rattle.iot_kept.specs.States.{view}
use Rattle.iot_kept.proofs.PlaceLaws.{each_written, place_index}
use Rattle.iot_kept.proofs.SeesLaws.{ended_noted, here}
use Rattle.iot_kept.proofs.memory.Memory.end.Goals as goal

pub remove-it-requires : goal.remove-it-requires
remove-it-requires c = place_index c.args.number c.args.self.now.durable.running c.in-Some.at c.in-Some.ensures.place

pub pass_on-requires-clause-hold : goal.pass_on-requires-clause-hold
pass_on-requires-clause-hold c =
    subst (λ (t : Nodes). ActsHold t c.remove-it.result.acts) (sym c.requires.sees.view)
    (here c.args.self.now.durable.running.items c.args.number c.in-Some.at c.remove-it.result c.in-Some.ensures.place
    c.remove-it.ensures.value (λ it. ActsHold (view (memory_state c.args.self.now)) it.acts) c.requires.follows)

pub returns-in-Ok : goal.returns-in-Ok
returns-in-Ok c =
    ended_noted c.args.number c.in-Some.at c.args.self.now _ c.remove-it.result c.into_ended.result c.requires.sees
    c.in-Some.ensures.place c.remove-it.ensures.value c.into_ended.ensures
    (record {
      held = refl;
      view = c.in_ok-pass_on.ensures
          ∙ ap (after_acts c.args.self.now.view) (sym (ap (λ (item : Item). item.acts) c.into_ended.ensures));
      queue = c.in-Ok.ensures.ok;
      running = each_written past c.remove-it.new.self c.deref_mut.result.now c.leave_view.new.running c.leave_view.ensures
          c.deref_mut.ensures.value c.deref_mut.ensures.len
          ∙ ap (map past) c.remove-it.ensures.items;
      last = refl;
      access = refl;
    })
