use Rattle.std.proofs.Common.{List}
use Rattle.iot_machine.specs.Nodes.{Counts}
use Rattle.iot_world.specs.World.{KeepsDisks}
use Rattle.iot_app.specs.Counting.{HasCounted}
use Rattle.iot_app.specs.Running.{IsOpened}
use Rattle.iot_app.proofs.PlayedLaws.{PlaysOn}
use Rattle.iot_app.proofs.running.do_all.Given as goal

abbrev pub invariant-events : goal.invariant-events
invariant-events g l = record {
  plays : (handed : List Counts)
      → IsOpened g.D.Disk.medium handed l.initial.text l.initial.world
      → PlaysOn g.D.Disk.medium handed (HasCounted l.counts l.text)
      l.events l.world l.event-index;
  disks : KeepsDisks l.initial.world l.world;
}
