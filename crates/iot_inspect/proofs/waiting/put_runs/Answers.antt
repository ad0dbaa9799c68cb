use Rattle.std.proofs.Common.{[]}
use Rattle.iot_text.proofs.TextsLaws.{on_err, part_of_list}
use Rattle.iot_inspect.specs.Texts.{running_line}
use Rattle.iot_inspect.proofs.waiting.put_runs.Goals as goal

pub returns-in_err-put_running-clause-err : goal.returns-in_err-put_running-clause-err
returns-in_err-put_running-clause-err c =
    on_err _
    (part_of_list (running_line c.args.client.now) c.args.running.now c.loop-run.run-index c.run-item.result [] c.args.out.now
    c.loop-run.out c.put_running.new.out c.loop-run-test.true c.run-item.is c.loop-run.invariant c.in_err-put_running.ensures.err)
