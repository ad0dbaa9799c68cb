use Rattle.std.proofs.Common.{◌↔◌, IsTrue, subst}
use Rattle.std.proofs.lemmas.Result.{IfOk-weaker}
use Rattle.iot_acts.specs.Traces.{ActsHold}
use Rattle.iot_kept.specs.declared.running.Running.{Running}
use Rattle.iot_kept.proofs.PlaceLaws.{place_index, runs_there}
use Rattle.iot_kept.proofs.durable.Durable.holds.Goals as goal

pub index-requires : goal.index-requires
index-requires c = place_index c.args.number c.args.self.now.running c.in-Some.at c.in-Some.ensures.place

pub returns-in-Some : goal.returns-in-Some
returns-in-Some c = IfOk-weaker c.acts_hold.result _ _
    (λ holds is.
    runs_there (λ it. ActsHold c.args.t.now it.acts) c.args.number c.args.self.now.running.items c.in-Some.at c.index.result.now holds
    c.in-Some.ensures.place
    (subst (λ (one : Running). IsTrue holds ↔ ActsHold c.args.t.now one.acts) c.index.ensures is))
    c.acts_hold.ensures
