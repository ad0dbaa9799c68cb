use Rattle.iot_node.proofs.PostsLaws.{post_goes, post_stops}
use Rattle.iot_node.proofs.post.Post.take.Goals as goal

pub returns-in-Ok-clause-step : goal.returns-in-Ok-clause-step
returns-in-Ok-clause-step g c place old new says change node is here appended doubts =
    (c.in-Ok.is, rw is (post_goes _ _ says c.args.name.now change here (rw c.in-Ok.is at appended)))

pub returns-in_ok-say_stopped-in-Stopped-clause-step : goal.returns-in_ok-say_stopped-in-Stopped-clause-step
returns-in_ok-say_stopped-in-Stopped-clause-step g c place old new says change node is here appended doubts =
    let failed = rw (rw c.in-Stopped.is at c.in-Err.is) at appended in
    rw (c.fall.ensures.down new is)
    (post_stops _ _ says old new c.args.name.now change node _ _ _ here failed doubts c.in_ok-say_stopped-in-Stopped.ensures.says)
