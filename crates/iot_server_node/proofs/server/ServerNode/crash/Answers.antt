use Rattle.iot_server_node.proofs.{Common.kept_text, KeepersLaws.if_ok_both}
use Rattle.iot_server_node.proofs.ServersLaws.{answered_off, keeps_same, known_crash, with_known}
use Rattle.iot_server_node.proofs.server.ServerNode.crash.Goals as goal

pub returns-clause-step : goal.returns-clause-step
returns-clause-step g c =
    if_ok_both c.crash.result (λ done step down names n. with_known _ names (step 0 (kept_text names)) (known_crash names)
    (λ had. answered_off c.crash.new.self n down)) c.crash.ensures.step c.crash.ensures.down

pub returns-clause-disk : goal.returns-clause-disk
returns-clause-disk g c = keeps_same _ _ _ c.requires c.crash.ensures.disk
