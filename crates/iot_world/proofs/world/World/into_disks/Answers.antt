use Rattle.iot_world.proofs.Common.{List, ap, disk_of, rules, sym, with_server, [], ◌∙◌, ◌≡◌}
use Rattle.iot_world.proofs.{DisksLaws.left_one, PlacesLaws.server_list}
use Rattle.iot_world.proofs.world.World.into_disks.Goals as goal

pub laptops-preserved : goal.laptops-preserved
laptops-preserved g c =
    left_one _ _ _ _ _ _ _ _ _ _ _ _ c.laptops.invariant c.in-Some.ensures.items
    c.into_disk.ensures c.put_first.ensures.items c.put_first.ensures.len c.put_first.ensures.capacity

pub returns : goal.returns
returns g c =
    let own = c.args.self.server in
    let none : c.laptops.clients.items ≡ [] = search rules in
    c.put_ends.ensures ∙ sym (server_list g.D.Disk.medium own _ _ _ c.into_disks-first.ensures _)
    ∙ ap (λ (disks : List _). with_server (disk_of own) disks) (rw none at c.laptops.invariant.same)
