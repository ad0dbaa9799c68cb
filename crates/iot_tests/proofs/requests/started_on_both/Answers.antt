use Rattle.iot_tests.proofs.requests.started_on_both.Goals as goal

pub start_pair-requires-clause-behind : goal.start_pair-requires-clause-behind
start_pair-requires-clause-behind g c body spells =
    (c.requires.each _ _ c.restart.ensures.image c.restart-2.ensures.image).follows.behind body

pub start_pair-requires-clause-together : goal.start_pair-requires-clause-together
start_pair-requires-clause-together g c short state stands step =
    (c.requires.each _ _ c.restart.ensures.image c.restart-2.ensures.image).together short state stands
