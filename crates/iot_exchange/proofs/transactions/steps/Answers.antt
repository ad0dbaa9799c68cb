use Rattle.iot_exchange.proofs.DoesLaws.{all_rounds, halted_round, last_round, one_more, ready_after}
use Rattle.iot_exchange.proofs.transactions.steps.Goals as goal

pub returns-in_err-step : goal.returns-in_err-step
returns-in_err-step g c scripts =
    halted_round (c.steps.invariant.0 scripts) c.steps-test.true (c.step.ensures scripts) c.in_err-step.was c.from_residual.ensures.1

pub returns-then-not-branch : goal.returns-then-not-branch
returns-then-not-branch g c scripts =
    last_round (c.steps.invariant.0 scripts) c.steps-test.true (c.step.ensures scripts) c.in_ok-step.was c.if-not-branch.true

pub steps-preserved : goal.steps-preserved
steps-preserved g c = (
  (λ scripts. one_more (c.steps.invariant.0 scripts) c.steps-test.true (c.step.ensures scripts) c.in_ok-step.was c.if-not-branch.false),
  (ready_after c.in_ok-step.was (c.step.ensures _) c.steps.invariant.1.stands).ready,
)

pub returns : goal.returns
returns g c scripts = all_rounds (c.steps.invariant.0 scripts) c.steps-test.false c.steps.invariant.1.keeps
