use Rattle.iot_tests.proofs.PlacesLaws.{step_stays, end_stays, at_most, if_ok}
use Rattle.iot_tests.proofs.embeds.run.Goals as goal

pub steps-preserved : goal.steps-preserved
steps-preserved g c =
    let is = c.in_ok-step.ensures in record {
      tied = is.tied;
      begun = is.begun;
      place = at_most c.steps.client c.step.new.self (step_stays c.steps.client c.step.new.self c.in_ok-step.field-0 _ _ is.step)
          c.steps.invariant.place;
    }

pub returns-clause-place : goal.returns-clause-place
returns-clause-place g c =
    if_ok _ c.match-branch-6.result
    (at_most c.steps.client c.end.new.self (end_stays c.steps.client c.end.new.self c.in_ok-end.field-0 _ _ c.in_ok-end.ensures.ends)
    c.steps.invariant.place)
