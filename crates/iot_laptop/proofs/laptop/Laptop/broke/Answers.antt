use Rattle.iot_laptop.proofs.{Common.[], RestartLaws.over_second}
use Rattle.iot_laptop.proofs.laptop.Laptop.broke.Goals as goal

pub returns : goal.returns
returns g c =
    over_second g.D.Disk.medium c.args.self.now c.broke.new.self c.second.new.self
    (λ m same. λ i. record m { link = c.broke.ensures i; first = [] }) c.second.ensures
