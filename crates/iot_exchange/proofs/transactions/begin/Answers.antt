use Rattle.iot_exchange.proofs.Common.{false, script_of, true}
use Rattle.iot_exchange.proofs.DoesLaws.{asks_then, by_client, goes_then, hands_on, ready_after, refuses, starts}
use Rattle.iot_exchange.proofs.ExchangeLaws.{full_here, pends_here}
use Rattle.iot_exchange.proofs.transactions.begin.Goals as goal

pub returns-then-is_full : goal.returns-then-is_full
returns-then-is_full g c scripts on_conflict means = asks_then (full_here true (cc)) (refuses c.requires.keeps c.in_ok-say.ensures)

pub returns-then-waits : goal.returns-then-waits
returns-then-waits g c scripts on_conflict means = asks_then (full_here false (cc)) (asks_then (pends_here true (cc))
    (by_client (starts (script_of c.args.script.now) on_conflict false) c.requires.keeps c.begin.ensures.keeps
    ((rw c.in_ok-code.ensures.value at c.begin.ensures.does) scripts on_conflict means.script_is means.resolver means.option_is)))

pub returns-in_err-first : goal.returns-in_err-first
returns-in_err-first g c scripts on_conflict means = asks_then (full_here false (cc)) (asks_then (pends_here false (cc))
    (hands_on c.in_err-first.was c.from_residual-in_err-first.ensures.1 (c.bring.ensures.does scripts)))

pub begin-requires-2-clause-stands : goal.begin-requires-2-clause-stands
begin-requires-2-clause-stands g c = (ready_after c.in_ok-first.was (c.bring.ensures.does _) c.requires.stands).ready.alive

pub returns : goal.returns
returns g c scripts on_conflict means = asks_then (full_here false (cc)) (asks_then (pends_here false (cc))
    (goes_then c.in_ok-first.was (c.bring.ensures.does scripts)
    (by_client (starts (script_of c.args.script.now) on_conflict c.in_ok-first.first) (c.bring.ensures.does scripts).disks
    c.begin-2.ensures.keeps
    ((rw c.in_ok-code.ensures.value at c.begin-2.ensures.does) scripts on_conflict means.script_is means.resolver means.option_is))))
