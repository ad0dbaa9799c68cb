use Rattle.std.proofs.Common.{◌∙◌, refl, sym, ap, subst, slice_index_or, slice_set}
use Rattle.std.specs.Vec.{with_items}
use Rattle.iot_kept.specs.Memory.{IsPlace, past}
use Rattle.iot_kept.proofs.PlaceLaws.{each_written, place_index, place_past}
use Rattle.iot_kept.proofs.SeesLaws.{fetched_noted}
use Rattle.iot_kept.proofs.memory.Memory.fetch.Goals as goal

pub index_mut-requires : goal.index_mut-requires
index_mut-requires c =
    let before = c.args.self.now.durable.running in
    let run = each_written past before c.deref_mut.result.now c.leave_view.new.running c.leave_view.ensures c.deref_mut.ensures.value
    c.deref_mut.ensures.len in
    place_index c.args.number (with_items before c.leave_view.new.running) c.in-Some.at
    (subst (λ running. IsPlace c.args.number running c.in-Some.at) (sym run)
    (place_past c.args.number before.items c.in-Some.at c.in-Some.ensures.place))

pub returns : goal.returns
returns c =
    let before = c.args.self.now.durable.running in
    let run = each_written past before c.deref_mut.result.now c.leave_view.new.running c.leave_view.ensures c.deref_mut.ensures.value
    c.deref_mut.ensures.len in
    fetched_noted c.args.tree c.args.number c.in-Some.at c.args.self.now _ c.index_mut.result.now c.start_again.new.self c.requires.follows
    c.requires.sees
    (record {
      held = c.in_ok-self-2.ensures.value;
      nodes = c.in_ok-self-2.ensures.nodes;
      view = c.in_ok-self.ensures;
      queue = refl;
      last = refl;
      access = refl;
    })
    c.in-Some.ensures.place
    (c.index_mut.ensures.value ∙ ap (λ running. slice_index_or running c.in-Some.at c.index_mut.result.now) run)
    (ap (λ running. slice_set running c.in-Some.at c.start_again.new.self) run)
    c.in_ok-start_again.ensures.is c.in_ok-start_again.ensures.class c.in_ok-start_again.ensures.stands
