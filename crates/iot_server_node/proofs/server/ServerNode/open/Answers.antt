use Rattle.iot_server_node.proofs.{Common.kept_text, KeepersLaws.if_ok_both}
use Rattle.iot_server_node.proofs.ServersLaws.{answered_fresh, known_opens, with_known}
use Rattle.iot_server_node.proofs.server.ServerNode.open.Goals as goal

pub returns-clause-step : goal.returns-clause-step
returns-clause-step g c =
    if_ok_both c.open.result (λ on step fresh names n. with_known _ names (step (kept_text names)) (known_opens names on)
    (λ had. answered_fresh c.open.new.self on fresh)) c.open.ensures.step c.open.ensures.live
