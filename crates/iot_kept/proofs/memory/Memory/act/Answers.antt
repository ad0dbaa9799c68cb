use Rattle.std.proofs.Common.{refl}
use Rattle.iot_kept.specs.Changes.{CanAct}
use Rattle.iot_kept.proofs.PlaceLaws.{place_index}
use Rattle.iot_kept.proofs.SeesLaws.{acted_noted, here, stands_here}
use Rattle.iot_kept.proofs.memory.Memory.act.Goals as goal

pub index_mut-requires : goal.index_mut-requires
index_mut-requires c = place_index c.args.number c.args.self.now.durable.running c.in-Some.at c.in-Some.ensures.place

pub add-requires-clause-fits : goal.add-requires-clause-fits
add-requires-clause-fits c =
    (here c.args.self.now.durable.running.items c.args.number c.in-Some.at c.index_mut.result.now c.in-Some.ensures.place
    c.index_mut.ensures.value (CanAct c.args.act) c.requires.follows).2

pub add-requires-clause-sees : goal.add-requires-clause-sees
add-requires-clause-sees c =
    (stands_here c.args.self.now.durable.running.items c.args.number c.in-Some.at c.index_mut.result.now c.in-Some.ensures.place
    c.index_mut.ensures.value c.args.self.now.view c.requires.sees.running).own

pub returns : goal.returns
returns c =
    acted_noted c.args.number c.in-Some.at c.args.self.now _ c.index_mut.result.now c.add.new.self c.requires.sees
    (record { held = refl; view = refl; queue = refl; access = refl }) refl c.in-Some.ensures.place c.index_mut.ensures.value refl
    c.in_ok-add.ensures.class c.args.act c.in_ok-add.ensures.is c.in_ok-add.ensures.stands
