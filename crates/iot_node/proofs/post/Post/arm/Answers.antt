use Rattle.iot_machine.proofs.StepsLaws.{does}
use Rattle.iot_node.proofs.PostsLaws.{down_counts, rearms, up_counts}
use Rattle.iot_node.proofs.post.Post.arm.Goals as goal

pub returns-in-Up-clause-step : goal.returns-in-Up-clause-step
returns-in-Up-clause-step g c place says =
    let it = c.arm.ensures in
    rw c.in-Up.is (does (λ node here. (
      c.in_ok-say_stop.ensures.says,
      up_counts _ _ says (it.stands place) (rearms _ c.args.calls c.args.pick node here.counts it.counts) here,
    )))

pub returns-in-Down-clause-step : goal.returns-in-Down-clause-step
returns-in-Down-clause-step g c place says =
    let it = c.arm_down.ensures in
    rw c.in-Down.is (does (λ node here. (
      c.in_ok-say_stop.ensures.says,
      down_counts _ _ says it.images (rearms _ c.args.calls c.args.pick node here.counts it.counts) here,
    )))
