use Rattle.std.proofs.Common.{◌+◌}
use Rattle.iot_text.proofs.TextsLaws.{on_err, leaves_next, leaves_part}
use Rattle.iot_inspect.proofs.CommitsLaws.{one_commit}
use Rattle.iot_inspect.proofs.commits.put_commits.Goals as goal

pub returns-in_err-put_commit-clause-err : goal.returns-in_err-put_commit-clause-err
returns-in_err-put_commit-clause-err c =
    on_err _
    (leaves_part c.args.out.now c.loop-place.out c.put_commit.new.out _ _ _ _ c.loop-place.invariant
    (one_commit c.args.clients.now c.args.labels.now c.loop-place.place c.index-labels-place.result (c.loop-place.place + 1)
    c.loop-place-test.true c.index-labels-place.is)
    c.in_err-put_commit.ensures.err)

pub loop-place-preserved : goal.loop-place-preserved
loop-place-preserved c =
    leaves_next c.args.out.now c.loop-place.out c.put_commit.new.out _ _ _ _ c.loop-place.invariant c.in_ok-put_commit.ensures.ok
    (one_commit c.args.clients.now c.args.labels.now c.loop-place.place c.index-labels-place.result (c.loop-place.place + 1)
    c.loop-place-test.true c.index-labels-place.is)
