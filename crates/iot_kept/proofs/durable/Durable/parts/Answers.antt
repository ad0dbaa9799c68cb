use Rattle.std.proofs.Common.{◌↔◌, IsTrue, not, subst}
use Rattle.iot_acts.specs.Traces.{ActsHold}
use Rattle.iot_kept.specs.declared.running.Running.{Running}
use Rattle.iot_kept.proofs.CanLaws.{not_exactly}
use Rattle.iot_kept.proofs.PlaceLaws.{place_index, runs_there}
use Rattle.iot_kept.proofs.durable.Durable.parts.Goals as goal

pub index-requires : goal.index-requires
index-requires c = place_index c.args.number c.args.self.now.running c.in-Some.at c.in-Some.ensures.place

pub returns-in_ok-acts_hold-in-Some : goal.returns-in_ok-acts_hold-in-Some
returns-in_ok-acts_hold-in-Some c =
    runs_there (λ it. ActsHold c.args.t.now it.acts → ⊥) c.args.number c.args.self.now.running.items c.in-Some.at c.index.result.now
    (not c.in_ok-acts_hold-in-Some.field-0) c.in-Some.ensures.place
    (subst (λ (one : Running). IsTrue (not c.in_ok-acts_hold-in-Some.field-0) ↔ (ActsHold c.args.t.now one.acts → ⊥)) c.index.ensures
    (not_exactly (ActsHold c.args.t.now c.index.result.now.acts) c.in_ok-acts_hold-in-Some.field-0 c.in_ok-acts_hold-in-Some.ensures))
