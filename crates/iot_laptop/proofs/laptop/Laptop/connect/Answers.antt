use Rattle.iot_laptop.proofs.{Common.connected, Common.true, RestartLaws.relinks}
use Rattle.iot_machine.specs.Texts.{connect_line}
use Rattle.iot_laptop.proofs.laptop.Laptop.connect.Goals as goal

pub returns-clause-step : goal.returns-clause-step
returns-clause-step g c =
    relinks g.D.Disk.medium c.args.self.now _ (connected true) connect_line c.connect.new.self _ _ c.connect.ensures c.say_named.ensures
