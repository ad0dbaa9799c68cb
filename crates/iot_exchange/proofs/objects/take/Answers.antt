use Rattle.iot_exchange.proofs.{Common.false, Common.true, DoesLaws.answers, DoesLaws.asks_then, DoesLaws.goes_then}
use Rattle.iot_exchange.proofs.{DoesLaws.hands_on, DoesLaws.no_memory, DoesLaws.refuses, ExchangeLaws.pends_here, ExchangeLaws.runs_here}
use Rattle.iot_exchange.proofs.objects.take.Goals as goal

pub returns-then-runs : goal.returns-then-runs
returns-then-runs g c scripts = asks_then (runs_here true (cc)) (refuses c.requires.ready.keeps c.in_ok-say.ensures)

pub returns-then-waits : goal.returns-then-waits
returns-then-waits g c scripts =
    asks_then (runs_here false (cc)) (asks_then (pends_here true (cc)) (refuses c.requires.ready.keeps c.in_ok-say-2.ensures))

pub returns-in_err-bring : goal.returns-in_err-bring
returns-in_err-bring g c scripts = asks_then (runs_here false (cc)) (asks_then (pends_here false (cc))
    (hands_on c.in_err-bring.was c.from_residual-in_err-bring.ensures.1 (c.bring.ensures.does scripts)))

pub returns-then-not-branch : goal.returns-then-not-branch
returns-then-not-branch g c scripts = asks_then (runs_here false (cc)) (asks_then (pends_here false (cc))
    (goes_then (rw c.if-not-branch.true at c.in_ok-bring.was) (c.bring.ensures.does scripts)
    (refuses (c.bring.ensures.does scripts).disks c.in_ok-say-3.ensures)))

pub returns : goal.returns
returns g c scripts = asks_then (runs_here false (cc)) (asks_then (pends_here false (cc))
    (goes_then (rw c.if-not-branch.false at c.in_ok-bring.was) (c.bring.ensures.does scripts)
    (answers (c.bring.ensures.does scripts).disks)))

pub returns-in_err-say-3 : goal.returns-in_err-say-3
returns-in_err-say-3 g c scripts = no_memory c.from_residual-in_err-say-3.ensures.1 (c.bring.ensures.does scripts).disks
