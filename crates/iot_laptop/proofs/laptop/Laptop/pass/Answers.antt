use Rattle.iot_laptop.proofs.RestartLaws.{is_over}
use Rattle.iot_laptop.proofs.laptop.Laptop.pass.Goals as goal

pub returns-in_default-clause-after : goal.returns-in_default-clause-after
returns-in_default-clause-after g c =
    is_over g.D.Disk.medium c.args.self.now _ _ c.second.new.self c.outcome-passage.ensures.link c.in_default.not-Both c.second.ensures
