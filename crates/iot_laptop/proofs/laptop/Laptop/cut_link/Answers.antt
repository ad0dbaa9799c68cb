use Rattle.iot_laptop.proofs.{Common.sym, Common.◌∙◌, NodesLaws.some_awake, RestartLaws.cuts_live, RestartLaws.stands_over}
use Rattle.iot_laptop.proofs.laptop.Laptop.cut_link.Goals as goal

pub second-requires : goal.second-requires
second-requires g c =
    let self = c.args.self.now in
    stands_over g.D.Disk.medium self c.disconnect.new.self
    (some_awake g.D.Disk.medium self c.requires (sym c.is_alive.ensures ∙ c.if-is_alive.true))

pub returns-then-is_alive : goal.returns-then-is_alive
returns-then-is_alive g c =
    cuts_live g.D.Disk.medium c.args.self.now c.disconnect.new.self c.second.new.self c.disconnect.ensures
    (sym c.is_alive.ensures ∙ c.if-is_alive.true) c.second.ensures
