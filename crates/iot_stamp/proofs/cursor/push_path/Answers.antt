use Rattle.iot_text.specs.Paths.{IsPath}
use Rattle.iot_stamp.proofs.EachLaws.{all_push}
use Rattle.iot_stamp.proofs.cursor.push_path.Goals as goal

pub returns-clause-each : goal.returns-clause-each
returns-clause-each c = λ all.
    rw (c.in_ok-push.ensures.ok, c.in_ok-copy.ensures)
    (all_push IsPath c.args.paths.now c.args.path.now (rw c.names-names.ensures.value at c.names-names.ensures.valid) all)
