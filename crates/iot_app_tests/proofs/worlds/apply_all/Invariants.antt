use Rattle.std.proofs.Common.{drop}
use Rattle.iot_world.specs.World.{DeclaredOn, HasDisks, IsWorldOfSome}
use Rattle.iot_app_tests.proofs.worlds.apply_all.Given as goal

-- the events behind those that were done are declared
abbrev pub invariant-events : goal.invariant-events
invariant-events g l = record {
  stands : IsWorldOfSome g.D.Disk.medium l.world;
  declared : DeclaredOn (drop l.event-index l.events) l.world;
  has : HasDisks l.world;
}
