-- A server that has one disk.
use Rattle.std.proofs.Common.{◌≡◌, Option, Some, None, Result, Ok, Err}
use Rattle.iot_backup.specs.Parts.{OneRose}
use Rattle.iot_count.specs.Counts.{Rose}
use Rattle.iot_disk.specs.Disk.{Medium}
use Rattle.iot_server.specs.Faults.{CountsServerFault, CountsServerFaults}
use Rattle.iot_server.specs.declared.fault.ServerFault.{ServerFault}
use Rattle.iot_server.specs.declared.fault.ServerFault.TheVariants.{NoMemory, Malformed, Stopped}
use Rattle.iot_slots.specs.declared.slots.Slots.{Slots}
use Rattle.iot_store.specs.Store.{IsAlone, disk_of, first_of, second_of}
use Rattle.iot_store.specs.declared.store.Store.{Store}

module _ {D : Type 0} (medium : Medium D) (old new : Store D) where
  one_rose : (other other_new : Option (Slots D)) → other ≡ None → OneRose medium (first_of old) (first_of new) other other_new
      → Rose (medium.faults (disk_of old)) (medium.faults (disk_of new))
  one_rose None now alone rose = rose
  one_rose (Some was) now alone rose = absurd cc

  -- its count is that of the disk
  pub alone_counts : {T : Type 0} (result : Result T ServerFault) → IsAlone old → CountsServerFaults medium result old new
      → CountsServerFault result (medium.faults (disk_of old)) (medium.faults (disk_of new))
  alone_counts (Ok value) alone counts = counts.0
  alone_counts (Err NoMemory) alone counts = counts.0
  alone_counts (Err (Malformed at)) alone counts = counts.0
  alone_counts (Err Stopped) alone counts = one_rose (second_of old) (second_of new) alone counts
