use Rattle.iot_exchange.proofs.{Common.List, Common.ap, Common.ℕ, Common.◌++◌, Common.◌∙◌, DoesLaws.hands_on, DoesLaws.no_memory}
use Rattle.{iot_exchange.proofs.DoesLaws.then_tells, iot_machine.specs.Texts.hoard_line}
use Rattle.iot_exchange.proofs.objects.hoard.Goals as goal

pub returns-in_err-take : goal.returns-in_err-take
returns-in_err-take g c scripts =
    hands_on c.in_err-take.was c.from_residual-in_err-take.ensures.1 (rw c.in_ok-copy.ensures at (c.take.ensures scripts))

pub returns : goal.returns
returns g c scripts = then_tells c.in_ok-take.was (rw c.in_ok-copy.ensures at (c.take.ensures scripts)) (λ names at pair here.
    c.in_ok-say_hoard.ensures
    ∙ ap (λ (name : List ℕ). c.take.new.out ++ hoard_line name c.args.path.now) (c.name.ensures ∙ here.client.is.name))

pub returns-in_err-say_hoard : goal.returns-in_err-say_hoard
returns-in_err-say_hoard g c scripts = no_memory c.from_residual-in_err-say_hoard.ensures.1 (c.take.ensures scripts).disks
