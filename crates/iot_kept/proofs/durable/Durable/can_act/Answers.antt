use Rattle.std.proofs.Common.{◌↔◌, IsTrue, subst}
use Rattle.iot_kept.specs.Changes.{CanAct}
use Rattle.iot_kept.specs.Memory.{transaction}
use Rattle.iot_kept.specs.declared.running.Running.{Running}
use Rattle.iot_kept.proofs.PlaceLaws.{place_index, runs_there}
use Rattle.iot_kept.proofs.SeesLaws.{own_here}
use Rattle.iot_kept.proofs.durable.Durable.can_act.Goals as goal

pub index-requires : goal.index-requires
index-requires c = place_index c.args.number c.args.self.now.running c.in-Some.at c.in-Some.ensures.place

pub does_suit-requires : goal.does_suit-requires
does_suit-requires c =
    own_here c.args.self.now.running.items c.args.number c.in-Some.at c.index.result.now c.in-Some.ensures.place c.index.ensures c.requires

pub returns-in-Some : goal.returns-in-Some
returns-in-Some c =
    runs_there (CanAct c.args.act.now) c.args.number c.args.self.now.running.items c.in-Some.at c.index.result.now c.does_suit.result
    c.in-Some.ensures.place
    (subst (λ (one : Running). IsTrue c.does_suit.result ↔ CanAct c.args.act.now (transaction one)) c.index.ensures c.does_suit.ensures)
