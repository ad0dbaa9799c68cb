-- What is known of a client under which nothing is under way.
use Rattle.std.proofs.Common.{◌≤◌, length, sym}
use Rattle.std.specs.List.{AllByRecursion}
use Rattle.iot_bodies.specs.declared.running.TheConstants.{RUN_LIMIT}
use Rattle.iot_disk.specs.Disk.{Medium}
use Rattle.iot_durable.proofs.ImagesLaws.{idle_stays}
use Rattle.iot_kept.specs.Bodies.{AreNumbered}
use Rattle.iot_kept.specs.Kept.{IsSynced, memory_of, state_of, disk_of, records_of}
use Rattle.iot_kept.specs.Memory.{SeesOwn}
use Rattle.iot_kept.specs.Rules.{rules}
use Rattle.iot_kept.specs.Spelled.{IsSpelledState}
use Rattle.iot_kept.specs.Standing.{EachStands}
use Rattle.iot_kept.specs.States.{AllHold, AreGuarded}
use Rattle.iot_kept.specs.declared.kept.Kept.{Kept}
use Rattle.iot_kept.proofs.SeesLaws.{own_seen}

module _ {D : Type 0} (medium : Medium D) (kept : Kept D) (synced : IsSynced medium kept) where
  -- all acts hold in turn, are guarded by their reads, and have spellings
  pub synced_holds : AllHold (state_of kept)
  synced_holds = synced.checkpointed.sound.state.hold

  pub synced_guarded : AreGuarded (state_of kept)
  synced_guarded = synced.checkpointed.sound.state.guarded

  pub synced_spelled : IsSpelledState (state_of kept)
  synced_spelled = synced.checkpointed.sound.state.spelled

  pub synced_numbered : AreNumbered (state_of kept)
  synced_numbered = synced.checkpointed.sound.state.numbered

  -- not too many run
  pub synced_few : length (state_of kept).running ≤ RUN_LIMIT
  synced_few = synced.checkpointed.sound.state.few

  -- the tree beside each that runs is its own view
  pub synced_own : AllByRecursion SeesOwn (memory_of kept).durable.running.items
  synced_own = own_seen (memory_of kept).view (memory_of kept).durable.running.items synced.checkpointed.sound.sees.running

  -- each image that a crash may leave stands for the state
  pub synced_stands : EachStands (medium.may_leave (disk_of kept)) (records_of kept) (state_of kept)
  synced_stands =
      let it = synced.checkpointed in
      let first = it.disks.first in
      (idle_stays rules _ _ _ _ _ _ it.header_is first.only first.encodes (sym first.layout.count) it.makes).stands
