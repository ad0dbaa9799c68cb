use Rattle.iot_app_tests.proofs.worlds.in_view.Goals as goal

pub view-requires : goal.view-requires
view-requires g c = (c.in_ok-client.ensures.ready c.requires).tied
