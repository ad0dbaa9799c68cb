use Rattle.iot_world.proofs.nodes.relink.Goals as goal

pub returns-in-Lose-clause-step : goal.returns-in-Lose-clause-step
returns-in-Lose-clause-step g c = rw c.in-Lose.is c.lose.ensures.step
