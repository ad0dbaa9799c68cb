use Rattle.iot_exchange.proofs.Common.{ap, on_ok_weaker, ◌++◌, ◌∙◌}
use Rattle.iot_exchange.proofs.TransactionsLaws.{says_queue}
use Rattle.{iot_inspect.specs.Texts.queue_text, iot_kept.specs.States.State}
use Rattle.iot_exchange.proofs.tasks.say_queue.Goals as goal

pub returns : goal.returns
returns g c =
    let items = c.queue.ensures ∙ ap (λ (s : State). s.items) c.client.ensures.state in
    on_ok_weaker c.queue-2.result (λ wrote.
    says_queue g.D.Disk.medium c.args.laptop.now c.args.out.now c.running.result.now c.in_ok-lines.lines.items
    c.running.ensures.running c.running.ensures.classes c.in_ok-lines.ensures
    (wrote ∙ (λ i. c.args.out.now ++ queue_text (c.name.ensures i) (items i) (c.deref.ensures.value i)))) c.queue-2.ensures.ok
