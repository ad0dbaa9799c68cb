use Rattle.{iot_laptop.proofs.RestartLaws.relinks, iot_link.specs.Links.arming, iot_machine.specs.Texts.lose_line}
use Rattle.iot_laptop.proofs.laptop.Laptop.lose.Goals as goal

pub returns-clause-step : goal.returns-clause-step
returns-clause-step g c =
    relinks g.D.Disk.medium c.args.self.now _ (arming c.args.loss) (λ name. lose_line name c.args.loss) c.arm.new.self _ _ c.arm.ensures
    c.say_lose.ensures
