use Rattle.iot_exchange.proofs.DoesLaws.{goes_then, hands_on, ready_after}
use Rattle.iot_machine.specs.Events.{runs_through}
use Rattle.iot_exchange.proofs.runs.run_script.Goals as goal

pub returns-in_err-number : goal.returns-in_err-number
returns-in_err-number g c option means = hands_on c.in_err-number.was c.from_residual.ensures.1 (c.begin.ensures _ option means)

pub steps-requires : goal.steps-requires
steps-requires g c = (ready_after c.in_ok-number.was
    (c.begin.ensures _ c.requires.meant.on_conflict c.requires.meant.means) c.requires.ready.stands).ready

pub returns-in_err-steps : goal.returns-in_err-steps
returns-in_err-steps g c option means =
    goes_then {next = runs_through} c.in_ok-number.was (c.begin.ensures _ option means)
    (hands_on c.in_err-steps.was c.from_residual-in_err-steps.ensures.1 (c.steps.ensures _))

pub end-requires : goal.end-requires
end-requires g c = ready_after c.in_ok-steps.was (c.steps.ensures _) (ready_after c.in_ok-number.was
    (c.begin.ensures _ c.requires.meant.on_conflict c.requires.meant.means) c.requires.ready.stands).stands

pub returns : goal.returns
returns g c option means =
    goes_then c.in_ok-number.was (c.begin.ensures _ option means) (goes_then c.in_ok-steps.was (c.steps.ensures _) c.end.ensures)
