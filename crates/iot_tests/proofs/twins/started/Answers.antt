use Rattle.iot_tests.proofs.twins.started.Goals as goal

pub start-requires-clause-behind : goal.start-requires-clause-behind
start-requires-clause-behind g c = c.requires.behind _
