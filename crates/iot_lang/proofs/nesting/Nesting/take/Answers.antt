use Rattle.std.proofs.lemmas.Result.{on_ok_weaker}
use Rattle.iot_lang.proofs.NestingLaws.{adds_do, adds_stop}
use Rattle.iot_lang.proofs.nesting.Nesting.take.Goals as goal

pub returns-in-Do-clause-moves : goal.returns-in-Do-clause-moves
returns-in-Do-clause-moves c = rw c.in-Do.is (on_ok_weaker c.add.result (adds_do c.args.self.now c.add.new.self _) c.add.ensures.adds)

pub returns-in-Stop-clause-moves : goal.returns-in-Stop-clause-moves
returns-in-Stop-clause-moves c =
    rw c.in-Stop.is (on_ok_weaker c.add-in-Stop.result (adds_stop c.args.self.now c.add-in-Stop.new.self) c.add-in-Stop.ensures.adds)
