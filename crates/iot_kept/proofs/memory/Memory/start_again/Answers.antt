use Rattle.std.proofs.Common.{refl}
use Rattle.iot_kept.proofs.PlaceLaws.{place_index}
use Rattle.iot_kept.proofs.SeesLaws.{again_noted}
use Rattle.iot_kept.proofs.memory.Memory.start_again.Goals as goal

pub index_mut-requires : goal.index_mut-requires
index_mut-requires c = place_index c.args.number c.args.self.now.durable.running c.in-Some.at c.in-Some.ensures.place

pub returns : goal.returns
returns c =
    again_noted c.args.number c.in-Some.at c.args.self.now _ c.index_mut.result.now c.start_again.new.self c.requires.sees
    (record { held = refl; view = refl; queue = refl; access = refl }) refl c.in-Some.ensures.place c.index_mut.ensures.value refl
    c.in_ok-start_again.ensures.class c.in_ok-start_again.ensures.is c.in_ok-start_again.ensures.stands
