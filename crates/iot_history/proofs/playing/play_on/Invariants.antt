use Rattle.std.proofs.Common.{◌≡◌, ◌+◌, ◌-◌, ◌≤◌, List, [], ◌++◌, length, replicate}
use Rattle.std.specs.Io.KnownBytes.{Appends}
use Rattle.iot_journal.specs.Journal.{bodies_on, disk_of, IsSynced}
use Rattle.iot_machine.specs.Nodes.{Counts}
use Rattle.iot_app.specs.Running.{IsOpened}
use Rattle.iot_app.proofs.PlayedLaws.{PlaysOn}
use Rattle.iot_history.proofs.ContinuingLaws.{SoFar}
use Rattle.iot_history.proofs.playing.play_on.Given as goal

abbrev pub invariant-events : goal.invariant-events
invariant-events g l =
    let sink = g.K.Sink in
    let medium = g.J.Disk.medium in
    record {
      plays : (handed : List Counts) → IsOpened g.D.Disk.medium handed l.opening l.fn.world
          → PlaysOn g.D.Disk.medium handed
          (SoFar handed l.old l.events (Appends (sink.written l.fn.sink) (sink.written l.sink)) l.event-index) l.events l.world l.event-index;
      within : l.event-index ≤ length l.events;
      left : l.left ≡ l.old - (l.event-index + 1);
      synced : IsSynced medium l.journal;
      marked : bodies_on medium l.journal ≡ bodies_on medium l.fn.journal ++ replicate (l.event-index + 1 - l.old) [];
      faults : sink.faults l.sink ≡ sink.faults l.fn.sink;
      empties : sink.empties l.sink ≡ sink.empties l.fn.sink;
      disk_faults : medium.faults (disk_of l.journal) ≡ medium.faults (disk_of l.fn.journal);
    }
