use Rattle.iot_exchange.proofs.{Common.false, Common.refl, Common.true, DoesLaws.answers, DoesLaws.asks_then, DoesLaws.goes_then}
use Rattle.iot_exchange.proofs.{DoesLaws.hands_on, DoesLaws.ready_after, DoesLaws.refuses, DoesLaws.up_is, ExchangeLaws.full_here}
use Rattle.iot_exchange.proofs.runs.run.Goals as goal

pub returns-then-is_full : goal.returns-then-is_full
returns-then-is_full g c option means = asks_then (full_here true (cc)) (refuses c.requires.ready.ready.keeps c.in_ok-say.ensures)

pub returns-then-not-is_connected : goal.returns-then-not-is_connected
returns-then-not-is_connected g c option means = asks_then (full_here false (cc)) (asks_then (up_is false (cc))
    (goes_then refl (answers c.requires.ready.ready.keeps) (c.run_script.ensures option means)))

pub returns-in_err-sync_all : goal.returns-in_err-sync_all
returns-in_err-sync_all g c option means = asks_then (full_here false (cc)) (asks_then (up_is true (cc))
    (hands_on c.in_err-sync_all.was c.from_residual-in_err-sync_all.ensures.1 c.sync_all.ensures))

pub run_script-requires-2-clause-ready : goal.run_script-requires-2-clause-ready
run_script-requires-2-clause-ready g c = ready_after c.in_ok-sync_all.was c.sync_all.ensures c.requires.ready.stands

pub returns : goal.returns
returns g c option means = asks_then (full_here false (cc)) (asks_then (up_is true (cc))
    (goes_then c.in_ok-sync_all.was c.sync_all.ensures (c.run_script-2.ensures option means)))
