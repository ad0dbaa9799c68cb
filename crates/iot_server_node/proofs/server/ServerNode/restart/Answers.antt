use Rattle.iot_machine.{proofs.StepsLaws.nothing, specs.Texts.restart_words}
use Rattle.iot_server_node.proofs.Common.{asks, bind, false, kept_text, server_name, sym, ◌∙◌}
use Rattle.iot_server_node.proofs.ServersLaws.{answered_fresh, keeps_own, known_comes_back, up_is, with_known}
use Rattle.iot_server_node.proofs.server.ServerNode.restart.Goals as goal

pub returns-clause-step : goal.returns-clause-step
returns-clause-step g c names n =
    let down = sym c.is_up.ensures ∙ c.if-is_up.false in
    rw down (bind {a = false} (asks (λ node here. sym (up_is g.D.Disk.medium names c.args.self.now node n here ∙ down)))
    (bind {a = c.in_ok-come_back.field-0}
    (with_known g.D.Disk.medium names (c.in_ok-come_back.ensures.step (kept_text names))
    (known_comes_back names (restart_words server_name) c.in_ok-come_back.field-0)
    (λ had. answered_fresh c.come_back.new.self c.in_ok-come_back.field-0 c.in_ok-come_back.ensures.live)) nothing))

pub returns-in_err-say-clause-disk : goal.returns-in_err-say-clause-disk
returns-in_err-say-clause-disk g c = keeps_own g.D.Disk.medium c.args.self.now c.requires

pub returns-then-is_up-clause-disk : goal.returns-then-is_up-clause-disk
returns-then-is_up-clause-disk g c = keeps_own g.D.Disk.medium c.args.self.now c.requires
