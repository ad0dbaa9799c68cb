use Rattle.iot_exchange.proofs.{Common.errand_of, Common.held_for, Common.refl, DoesLaws.hands_on, DoesLaws.then_answers}
use Rattle.iot_exchange.proofs.ExchangeLaws.{holds_own, lent_own, no_reply}
use Rattle.iot_exchange.proofs.objects.send.Goals as goal

pub take-requires-clause-brings : goal.take-requires-clause-brings
take-requires-clause-brings g c = rw c.deref.ensures.value
    (lent_own (rw c.in-Some.is at c.in_ok-reply.ensures.replied) (errand_of c.args.errand) c.requires.asks).brings

pub returns-in_err-take-in-Some-clause-does : goal.returns-in_err-take-in-Some-clause-does
returns-in_err-take-in-Some-clause-does g c scripts =
    holds_own (rw c.in-Some.is at c.in_ok-reply.ensures.replied) (errand_of c.args.errand) c.requires.asks (held_for c.args.errand)
    c.in_ok-reply.ensures.disks (rw c.deref.ensures.value at c.take.ensures.takes)
    (λ t. hands_on c.in_err-take-in-Some.was c.from_residual-in_err-take-in-Some.ensures.1)

pub returns-in-Some-clause-does : goal.returns-in-Some-clause-does
returns-in-Some-clause-does g c scripts =
    holds_own (rw c.in-Some.is at c.in_ok-reply.ensures.replied) (errand_of c.args.errand) c.requires.asks (held_for c.args.errand)
    c.in_ok-reply.ensures.disks (rw c.deref.ensures.value at c.take.ensures.takes)
    (λ t. then_answers c.in_ok-take-in-Some.was refl)

pub returns-clause-does : goal.returns-clause-does
returns-clause-does g c = λ scripts. no_reply (errand_of c.args.errand) (held_for c.args.errand) c.in_ok-reply.ensures.disks
    (rw c.in-None.is at c.in_ok-reply.ensures.replied) c.requires.asks
