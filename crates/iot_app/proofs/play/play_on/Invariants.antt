use Rattle.std.proofs.Common.{◌≡◌, List}
use Rattle.iot_machine.specs.Nodes.{Counts}
use Rattle.iot_world.specs.World.{KeepsDisks}
use Rattle.iot_app.specs.Running.{IsOpened}
use Rattle.iot_app.proofs.PlayedLaws.{PlaysOn, Follows}
use Rattle.iot_app.proofs.play.play_on.Given as goal

abbrev pub invariant-events : goal.invariant-events
invariant-events g l = record {
  plays : (handed : List Counts)
      → IsOpened g.D.Disk.medium handed l.opening l.initial.world
      → PlaysOn g.D.Disk.medium handed
      (Follows (g.K.Sink.written l.initial.sink) l.opening (g.K.Sink.written l.sink)) l.events l.world l.event-index;
  faults : g.K.Sink.faults l.sink ≡ g.K.Sink.faults l.initial.sink;
  empties : g.K.Sink.empties l.sink ≡ g.K.Sink.empties l.initial.sink;
  disks : KeepsDisks l.initial.world l.world;
}
