use Rattle.iot_client.proofs.TiesLaws.{at_start}
use Rattle.iot_client.proofs.interpreter.Interpreter.start.Goals as goal

pub returns-clause-starts : goal.returns-clause-starts
returns-clause-starts c =
    at_start c.args.script.value c.in_ok-shared.shared.value c.new.result c.new-2.result c.new.ensures
    c.in_ok-shared.ensures c.new-2.ensures
