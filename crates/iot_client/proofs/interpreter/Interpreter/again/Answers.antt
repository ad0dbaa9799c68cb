use Rattle.iot_client.proofs.TiesLaws.{again_is}
use Rattle.iot_client.proofs.interpreter.Interpreter.again.Goals as goal

pub returns : goal.returns
returns c =
    again_is c.args.self.now c.in_ok-shared.field-0.value c.start.result c.in_ok-shared.ensures c.start.ensures.same c.start.ensures.starts
