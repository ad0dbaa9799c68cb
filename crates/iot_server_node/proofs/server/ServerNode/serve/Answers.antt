use Rattle.iot_disk.specs.declared.faults.JournalFault.TheVariants.{Stopped}
use Rattle.iot_server_node.proofs.{BeginningLaws.handled_records, BeginningLaws.refused_records, Common.Served}
use Rattle.iot_server_node.proofs.{Common.Some, Common.ap, Common.kept_text, Common.refl, Common.◌∙◌, Common.◌≡◌, ServersLaws.live_is}
use Rattle.iot_server_node.proofs.ServingLaws.{judges, judges_stopped, lends, lends_always, stays_stamped}
use Rattle.iot_server_node.proofs.server.ServerNode.serve.Goals as goal

-- it has replied
pub returns-in-Ok : goal.returns-in-Ok
returns-in-Ok g c =
    let medium = g.D.Disk.medium in
    let message = c.args.message.now in
    let served : Served = record { reply = c.in-Ok.reply; committed = c.committed_by.result } in
    let is = live_is c.in-Up.is in
    let sound = rw is at c.requires.sound in
    let done = rw c.deref.ensures.value at c.in-Ok.ensures.handled in
    let counted = rw (c.number-before.ensures, c.number.ensures, is) at c.committed_by.ensures in
    record {
      up = refl;
      lends = λ client held errand names asks. rw is (lends medium message client held errand asks names served sound done counted);
      stamps = λ client held errand asks. rw is (stays_stamped medium message client held errand asks served done);
      judges = λ it names hands named. rw is (judges hands medium names named served _ done counted sound);
      records = handled_records medium g.met.D.Disk.reads_is_image _ _ c.in-Up.is c.requires.sound done;
      disk = rw is c.handle-answer.ensures.disk;
      beside = λ promoted arms it. record { is = ap Some c.handle-answer.ensures.beside ∙ (rw is at it.is) };
    }

-- it gave no reply
pub returns-in-Err-Over : goal.returns-in-Err-Over
returns-in-Err-Over g c =
    let medium = g.D.Disk.medium in
    let is = live_is c.in-Up.is in
    let over = rw c.in-Err-Over.field-0-is at c.in-Err-Over.is in
    let fault : c.in-Err.fault ≡ Stopped = cc (c.take.ensures.stopped over) in
    let refused = rw (c.deref.ensures.value, fault) at c.in-Err.ensures.refused in
    let same = c.take.ensures.disk in
    record {
      up = c.take.ensures.off over;
      lends = λ client held errand names asks n. absurd (lends_always medium c.args.message.now client held errand asks refused);
      stamps = λ client held errand asks. tt;
      judges = λ it names hands named. rw is (judges_stopped hands medium names named refused (rw is at c.number-before.ensures)
          (λ change node. rw (c.in_ok-doubt-in-Err.ensures, fault, over) at
          (c.take.ensures.step 0 c.in-Up.keeper c.handle-answer.new.self (kept_text names) change node refl)) (c.take.ensures.off over));
      records = rw same (refused_records medium g.met.D.Disk.reads_is_image _ _ c.in-Up.is c.requires.sound refused);
      disk = rw (is, same) c.handle-answer.ensures.disk;
      beside = λ promoted arms it. record { is = rw same (ap Some c.handle-answer.ensures.beside ∙ (rw is at it.is)) };
    }

pub returns-in_err-doubt-in-Err-clause-records : goal.returns-in_err-doubt-in-Err-clause-records
returns-in_err-doubt-in-Err-clause-records g c =
    refused_records g.D.Disk.medium g.met.D.Disk.reads_is_image _ _ c.in-Up.is c.requires.sound c.in-Err.ensures.refused

pub returns-in-Err-NoMemory-clause-records : goal.returns-in-Err-NoMemory-clause-records
returns-in-Err-NoMemory-clause-records g c = rw c.take.ensures.disk
    (refused_records g.D.Disk.medium g.met.D.Disk.reads_is_image _ _ c.in-Up.is c.requires.sound c.in-Err.ensures.refused)
