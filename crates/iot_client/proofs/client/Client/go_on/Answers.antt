use Rattle.iot_client.specs.Ties.{state_of}
use Rattle.iot_client.proofs.PlaceLaws.{at_within}
use Rattle.iot_client.proofs.client.Client.go_on.Goals as goal

pub pause-requires-clause-within : goal.pause-requires-clause-within
pause-requires-clause-within g c = at_within c.args.number (state_of c.args.self.now).running c.args.at c.requires.at

pub returns-in-Some-clause-step : goal.returns-in-Some-clause-step
returns-in-Some-clause-step g c = c.in-Some.ensures.pauses c.args.number c.requires.at

pub act-requires-clause-goes : goal.act-requires-clause-goes
act-requires-clause-goes g c = c.in-None.ensures.goes c.args.number c.requires.at
