use Rattle.iot_bodies.proofs.QueuedLaws.{queue_appended}
use Rattle.iot_bodies.proofs.queued.put_queue.Goals as goal

pub returns-in_ok-put_waiting-in-Some : goal.returns-in_ok-put_waiting-in-Some
returns-in_ok-put_waiting-in-Some c =
    rw (queue_appended c.args.items.now c.in-Some.first.now c.in-Some.others.now c.args.access.now c.args.out.now c.put.new.out
    c.put_waiting.new.out c.in-Some.ensures.cases.0 c.in_ok-put.ensures.ok c.in_ok-put_waiting-in-Some.ensures.ok)
    c.put_others.ensures
