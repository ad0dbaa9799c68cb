use Rattle.{std.proofs.Common.inr, std.proofs.Common.refl, std.proofs.Common.sym, std.proofs.Common.◌∙◌, iot_machine.specs.Stops.OpensNode}
use Rattle.iot_node.proofs.PostsLaws.{lasts_up, post_opens, post_stops_again}
use Rattle.iot_node.proofs.post.Post.open.Goals as goal

pub returns-in-Ok-clause-step : goal.returns-in-Ok-clause-step
returns-in-Ok-clause-step g c says =
    rw c.turn_to.ensures (post_opens _ _ says c.args.name.now (sym c.replace.ensures.value ∙ c.in-Down.is) c.requires.ready
    c.in-Ok.ensures.comes (g.met.K.Keeper.reads_is_image c.in-Down.field-0.disk))

pub returns-in-Ok-clause-lasts : goal.returns-in-Ok-clause-lasts
returns-in-Ok-clause-lasts g c says node here =
    rw c.turn_to.ensures (lasts_up _ _ says _ node (sym c.replace.ensures.value ∙ c.in-Down.is) here
    (g.met.K.Keeper.reads_is_image c.in-Down.field-0.disk) c.in-Ok.ensures.comes)

pub returns-in_ok-say_refused-in-Err-clause-step : goal.returns-in_ok-say_refused-in-Err-clause-step
returns-in_ok-say_refused-in-Err-clause-step g c says =
    rw c.turn_to-in-Err.ensures (post_stops_again _ _ says (OpensNode c.args.name.now) c.args.name.now
    (sym c.replace.ensures.value ∙ c.in-Down.is) (g.met.K.Keeper.reads_is_image c.in-Down.field-0.disk) refl c.in-Err.ensures.fails
    c.in_ok-say_refused-in-Err.ensures.stopped (λ node n is. inr (refl, refl, is)) c.in_ok-say_refused-in-Err.ensures.says)
