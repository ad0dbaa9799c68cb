use Rattle.std.proofs.Common.{◌∙◌, map, take, refl, sym, ap, subst}
use Rattle.iot_certify.specs.Verdicts.{IsLongest}
use Rattle.iot_stamp.specs.Acting.{UpdatesFit}
use Rattle.iot_acts.specs.Traces.{after_acts}
use Rattle.iot_queue.specs.declared.items.Item.{Item}
use Rattle.iot_kept.specs.Memory.{memory_state, past}
use Rattle.iot_kept.specs.States.{view}
use Rattle.iot_kept.proofs.PlaceLaws.{each_written}
use Rattle.iot_kept.proofs.SeesLaws.{cut_noted, first_here, joins_fit}
use Rattle.iot_kept.proofs.memory.Memory.cut.Goals as goal

pub pass-requires : goal.pass-requires
pass-requires c =
    let old = c.args.self.now in
    subst (UpdatesFit old.view) (sym (c.as_slice.ensures ∙ ap (λ (item : Item). item.acts) c.into_cut-item.ensures))
    (joins_fit old (take c.args.acts c.remove.result.acts) c.requires.sees
    (first_here old.durable.running.items c.args.number c.remove.result
    (λ it. IsLongest (view (memory_state old)) it.acts c.args.acts) c.remove.ensures.value c.requires.follows).holds)

pub returns-in-Ok : goal.returns-in-Ok
returns-in-Ok c =
    cut_noted c.args.number c.args.acts c.args.self.now _ c.remove.result c.into_cut-item.result c.requires.follows c.requires.sees
    c.remove.ensures.value c.into_cut-item.ensures
    (record {
      held = refl;
      view = c.in_ok-pass.ensures ∙ ap (after_acts c.args.self.now.view) c.as_slice.ensures;
      queue = c.in-Ok.ensures.ok;
      running = each_written past c.remove.new.self c.deref_mut.result.now c.leave_view.new.running c.leave_view.ensures
          c.deref_mut.ensures.value c.deref_mut.ensures.len
          ∙ ap (map past) c.remove.ensures.items;
      last = refl;
      access = refl;
    })
