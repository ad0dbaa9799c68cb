use Rattle.iot_world.proofs.{Common.State, Common.ap, Common.sym, Common.◌∙◌, LookingLaws.tells_live, WorldsLaws.both_ok}
use Rattle.iot_world.proofs.looking.tell.Goals as goal

pub returns : goal.returns
returns g c =
    both_ok c.live.result c.live.ensures.names c.live.ensures.clients (λ names told.
    tells_live _ c.args.laptop.now c.args.json.now c.live.new.self (rw c.name-2.ensures at names) c.queue.result.now c.view.result.now
    (sym c.is_alive.ensures ∙ c.if-not-is_alive.false) (c.queue.ensures ∙ ap (λ (s : State). s.items) c.client.ensures.state)
    c.view.ensures (rw c.name-2.ensures at told))
