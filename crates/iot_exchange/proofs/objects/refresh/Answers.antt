use Rattle.iot_exchange.proofs.{Common.List, Common.ap, Common.ℕ, Common.◌++◌, Common.◌∙◌, DoesLaws.hands_on, DoesLaws.no_memory}
use Rattle.{iot_exchange.proofs.DoesLaws.then_tells, iot_machine.specs.Texts.refresh_line}
use Rattle.iot_exchange.proofs.objects.refresh.Goals as goal

pub returns : goal.returns
returns g c scripts = then_tells c.in_ok-take.was (c.take.ensures scripts) (λ names at pair here.
    c.in_ok-say_refresh.ensures ∙ ap (λ (name : List ℕ). c.take.new.out ++ refresh_line name) (c.name.ensures ∙ here.client.is.name))

pub returns-in_err-take : goal.returns-in_err-take
returns-in_err-take g c scripts = hands_on c.in_err-take.was c.from_residual.ensures.1 (c.take.ensures scripts)

pub returns-in_err-say_refresh : goal.returns-in_err-say_refresh
returns-in_err-say_refresh g c scripts = no_memory c.from_residual-in_err-say_refresh.ensures.1 (c.take.ensures scripts).disks
