use Rattle.std.proofs.Common.{false, refl, sym, true, ◌∙◌}
use Rattle.iot_machine.proofs.StepsLaws.{asks, bind, does, says_this}
use Rattle.iot_node.{proofs.PostsLaws.on_has, proofs.PostsLaws.on_is, specs.Prelude.Up}
use Rattle.iot_node.proofs.post.Post.crash.Goals as goal

pub returns-then-not-is_up-clause-step : goal.returns-then-not-is_up-clause-step
returns-then-not-is_up-clause-step g c place says =
    bind {a = false} (asks (λ node here. sym (on_is _ _ says c.args.self.now node here ∙ sym c.is_up.ensures ∙ c.if-not-is_up.true)))
    (says_this c.in_ok-say.ensures)

pub returns-clause-step : goal.returns-clause-step
returns-clause-step g c place says =
    let on = on_has c.args.self.now (sym c.is_up.ensures ∙ c.if-not-is_up.false) in
    rw (on.1, c.fall.ensures.down on.0 on.1) (bind {v = Up on.0} {a = true} (asks (λ node here. sym here.alive)) (does (λ node here. (
      c.in_ok-say_node.ensures,
      record {
        alive = refl;
        counts = here.counts;
        count = _;
        holds = record { sure = here.sure; each = c.fall.ensures.images place _ on.0 _ on.1 here.stands };
      },
    ))))
