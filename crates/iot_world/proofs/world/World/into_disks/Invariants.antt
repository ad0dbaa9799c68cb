use Rattle.iot_world.proofs.{Common.length, Common.vec_capacity, Common.vec_len, DisksLaws.AreLeft}
use Rattle.iot_world.proofs.world.World.into_disks.Given as goal

abbrev pub invariant-laptops : goal.invariant-laptops
invariant-laptops g l =
    AreLeft l.initial.self.clients.items l.clients.items l.initial.self.spare.items l.spare.items (vec_len l.spare) (vec_capacity l.spare)

abbrev pub decreases-laptops : goal.decreases-laptops
decreases-laptops g l = length l.clients.items
