use Rattle.iot_server_node.proofs.BackupLaws.{over, promotes, promotes_records}
use Rattle.iot_server_node.proofs.{Common.arming_as, Common.kept_text, ServersLaws.answered_fresh}
use Rattle.iot_server_node.proofs.server.ServerNode.promote.Goals as goal

pub come_back-requires-clause-stands : goal.come_back-requires-clause-stands
come_back-requires-clause-stands g c =
    rw c.turn.ensures.turned (record {
      says = kept_text c.requires.sound.names;
      node = _;
      stands = over g.D.Disk.medium g.met.D.Disk.reads_is_image c.turn.ensures.down c.requires.sound.stands;
    })

pub returns-clause-step : goal.returns-clause-step
returns-clause-step g c down own names =
    promotes g.D.Disk.medium g.met.D.Disk.reads_is_image c.turn.ensures.down (record { post = c.come_back.new.self }) c.args.out.now
    c.come_back.new.out (rw c.turn.ensures.turned at c.in_ok-come_back.ensures.beside) names c.in_ok-come_back.field-0
    (rw c.turn.ensures.turned at (c.in_ok-come_back.ensures.step (kept_text names)))
    (answered_fresh c.come_back.new.self c.in_ok-come_back.field-0 c.in_ok-come_back.ensures.live)

pub returns-clause-came : goal.returns-clause-came
returns-clause-came g c own names n node here =
    rw c.in_ok-come_back.ensures.on ((rw c.turn.ensures.turned at (c.in_ok-come_back.ensures.came (kept_text names)))
    (arming_as (g.D.Disk.medium.arms c.turn.ensures.down.last) node)
    (over g.D.Disk.medium g.met.D.Disk.reads_is_image c.turn.ensures.down here))

pub returns-clause-records : goal.returns-clause-records
returns-clause-records g c =
    promotes_records g.D.Disk.medium g.met.D.Disk.reads_is_image c.turn.ensures.down _ c.turn.ensures.turned c.come_back.ensures.lasts

pub returns-in_err-come_back-clause-records : goal.returns-in_err-come_back-clause-records
returns-in_err-come_back-clause-records g c =
    promotes_records g.D.Disk.medium g.met.D.Disk.reads_is_image c.turn.ensures.down _ c.turn.ensures.turned c.come_back.ensures.lasts
