use Rattle.iot_world.proofs.LookingLaws.{TellsFirst}
use Rattle.iot_world.proofs.world.World.told.Given as goal

-- the clients so far are told
abbrev pub invariant-loop-laptop : goal.invariant-loop-laptop
invariant-loop-laptop g l = TellsFirst g.D.Disk.medium l.self l.laptop-index l.json
