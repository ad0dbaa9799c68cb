use Rattle.iot_laptop.proofs.RestartLaws.{new_stands}
use Rattle.iot_laptop.proofs.laptop.Laptop.unopened.Goals as goal

pub returns-clause-stands : goal.returns-clause-stands
returns-clause-stands g c = new_stands g.D.Disk.medium c.args.disk c.requires c.args.place c.args.name _ c.new.ensures
