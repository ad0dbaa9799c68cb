use Rattle.std.proofs.lemmas.Result.{on_ok_weaker}
use Rattle.iot_server_node.proofs.{Common.kept_text, ServersLaws.known_armed, ServersLaws.with_known}
use Rattle.iot_server_node.proofs.server.ServerNode.arm.Goals as goal

pub returns-clause-step : goal.returns-clause-step
returns-clause-step g c =
    on_ok_weaker c.arm.result (λ step names n. with_known _ names (step 0 (kept_text names)) (known_armed names c.args.calls c.args.pick)
    (λ had. rw c.arm.ensures.live had)) c.arm.ensures.step
