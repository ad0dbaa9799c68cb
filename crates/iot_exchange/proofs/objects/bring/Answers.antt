use Rattle.iot_exchange.proofs.Common.{Objects, errand_of, hold, nothing_held, state_in}
use Rattle.iot_exchange.proofs.ExchangeLaws.{asked_holds, missed}
use Rattle.iot_exchange.proofs.objects.bring.Goals as goal

pub returns-then-not-is_connected-clause-does : goal.returns-then-not-is_connected-clause-does
returns-then-not-is_connected-clause-does g c = λ scripts. missed (errand_of c.args.errand) hold c.miss.ensures.disks (λ names at.
    c.miss.ensures.all.none scripts names at
    (Objects 0 nothing_held nothing_held (state_in c.args.laptop.now).held (errand_of c.args.errand)) _)

pub returns-clause-does : goal.returns-clause-does
returns-clause-does g c = rw (asked_holds c.args.errand c.requires.holds) at c.send.ensures.does
