use Rattle.std.proofs.Common.{inr, refl, sym, ◌∙◌}
use Rattle.{iot_machine.specs.Stops.ComesBackAs, iot_node.proofs.PostsLaws.came}
use Rattle.iot_node.{proofs.PostsLaws.lasts_up, proofs.PostsLaws.post_back, proofs.PostsLaws.post_stops_again, specs.Posts.words_of}
use Rattle.iot_node.proofs.post.Post.come_back.Goals as goal

pub returns-in_err-say_back-in-Ok-clause-lasts : goal.returns-in_err-say_back-in-Ok-clause-lasts
returns-in_err-say_back-in-Ok-clause-lasts g c says node here =
    rw c.turn_to.ensures (lasts_up _ _ says c.restart.new.disk node (sym c.replace.ensures.value ∙ c.in-Down.is) here
    c.restart.ensures.image c.in-Ok.ensures.comes)

pub returns-in_ok-say_back-in-Ok-clause-lasts : goal.returns-in_ok-say_back-in-Ok-clause-lasts
returns-in_ok-say_back-in-Ok-clause-lasts g c says node here =
    rw c.turn_to.ensures (lasts_up _ _ says c.restart.new.disk node (sym c.replace.ensures.value ∙ c.in-Down.is) here
    c.restart.ensures.image c.in-Ok.ensures.comes)

pub returns-in_ok-say_back-in-Ok-clause-came : goal.returns-in_ok-say_back-in-Ok-clause-came
returns-in_ok-say_back-in-Ok-clause-came g c says node here =
    came _ _ says c.restart.new.disk node (sym c.replace.ensures.value ∙ c.in-Down.is) here c.restart.ensures.image
    c.args.by c.args.name.now _ _ c.in-Ok.ensures.comes (c.records-number.ensures c.args.place) c.in_ok-say_back-in-Ok.ensures

pub returns-in_ok-say_back-in-Ok-clause-step : goal.returns-in_ok-say_back-in-Ok-clause-step
returns-in_ok-say_back-in-Ok-clause-step g c says =
    rw (sym c.replace.ensures.value ∙ c.in-Down.is, c.turn_to.ensures) (post_back _ _ says (words_of c.args.by c.args.name.now)
    c.args.name.now c.restart.ensures.image (cc) c.in-Ok.ensures.comes (c.records-number.ensures c.args.place)
    c.in_ok-say_back-in-Ok.ensures)

pub returns-in_ok-say_refused-in-Err-clause-step : goal.returns-in_ok-say_refused-in-Err-clause-step
returns-in_ok-say_refused-in-Err-clause-step g c says =
    rw c.turn_to-in-Err.ensures (post_stops_again _ _ says (ComesBackAs (words_of c.args.by c.args.name.now) c.args.name.now says)
    c.args.name.now (sym c.replace.ensures.value ∙ c.in-Down.is) c.restart.ensures.image (cc) c.in-Err.ensures.fails
    c.in_ok-say_refused-in-Err.ensures.stopped (λ node n is. inr (refl, refl, is)) c.in_ok-say_refused-in-Err.ensures.says)
