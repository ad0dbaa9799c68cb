use Rattle.iot_app_tests.proofs.worlds.running.Goals as goal

pub running-requires : goal.running-requires
running-requires g c = (c.in_ok-client.ensures.ready c.requires).tied
