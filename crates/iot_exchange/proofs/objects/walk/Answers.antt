use Rattle.iot_exchange.proofs.{Common.◌++◌, Common.◌∙◌, DoesLaws.hands_on, DoesLaws.no_memory, DoesLaws.ready_after, DoesLaws.then_tells}
use Rattle.iot_machine.specs.Texts.{walk_line}
use Rattle.iot_exchange.proofs.objects.walk.Goals as goal

pub returns-in_err-take : goal.returns-in_err-take
returns-in_err-take g c scripts = hands_on c.in_err-take.was c.from_residual.ensures.1 (c.take.ensures scripts)

pub returns : goal.returns
returns g c scripts = then_tells c.in_ok-take.was (c.take.ensures scripts) (λ names at pair here. c.in_ok-say_walk.ensures
    ∙ (λ i. c.take.new.out ++ walk_line ((c.name.ensures ∙ here.client.is.name) i) ((c.held.ensures ∙ here.client.is.state.held) i)))

pub returns-in_err-say_walk : goal.returns-in_err-say_walk
returns-in_err-say_walk g c scripts = no_memory c.from_residual-in_err-say_walk.ensures.1 (c.take.ensures scripts).disks

pub held-requires : goal.held-requires
held-requires g c = (ready_after c.in_ok-take.was (c.take.ensures c.requires.ready.scripts) c.requires.ready.stands).ready.alive
