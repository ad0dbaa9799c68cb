use Rattle.std.proofs.Common.{◌≡◌, length}
use Rattle.std.specs.List.{AllByRecursion}
use Rattle.iot_disk.specs.Memory.{in_memory}
use Rattle.iot_world.specs.Disks.{IsEmpty}
use Rattle.iot_app_tests.proofs.worlds.fresh_disks.Given as goal

abbrev pub invariant-disks : goal.invariant-disks
invariant-disks l = record {
  count : length l.disks.items ≡ l.counter;
  each : AllByRecursion (IsEmpty in_memory) l.disks.items;
}
