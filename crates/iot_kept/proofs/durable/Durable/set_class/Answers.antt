use Rattle.std.proofs.Common.{List, ap}
use Rattle.iot_kept.specs.Memory.{durable_state}
use Rattle.iot_kept.specs.States.{Transaction}
use Rattle.iot_kept.proofs.ClassLaws.{same_there, class_there, class_nowhere}
use Rattle.iot_kept.proofs.PlaceLaws.{place_index}
use Rattle.iot_kept.proofs.durable.Durable.set_class.Goals as goal

pub index_mut-requires : goal.index_mut-requires
index_mut-requires c = place_index c.args.number c.args.self.now.running c.in-Some.at c.in-Some.ensures.place

pub returns-in-Some-clause-state : goal.returns-in-Some-clause-state
returns-in-Some-clause-state c =
    ap (λ (running : List Transaction). record (durable_state c.args.self.now) { running = running })
    (same_there c.args.self.now.running.items c.args.number c.in-Some.at c.index_mut.result.now c.args.first c.in-Some.ensures.place
    c.index_mut.ensures.value)

pub returns-in-Some-clause-class : goal.returns-in-Some-clause-class
returns-in-Some-clause-class c =
    class_there c.args.self.now.running.items c.args.number c.in-Some.at c.index_mut.result.now c.args.first c.in-Some.ensures.place

pub returns-in_default-clause-class : goal.returns-in_default-clause-class
returns-in_default-clause-class c =
    class_nowhere c.args.number c.args.first c.args.self.now.running.items c.in_default.ensures.place
