-- What the server's disk reads as, of the disks that a run gives back.
use Rattle.std.specs.Prelude.{ℕ, List, [], Option, None, Some, slice_get}
use Rattle.iot_disk.specs.Disk.{Medium}
use Rattle.iot_machine.specs.Machine.{Machine}
use Rattle.iot_world.specs.Disks.{place_of}

abbrev pub reads_if : {D : Type 0} → Medium D → Option D → List ℕ
reads_if medium None = []
reads_if medium (Some disk) = medium.reads disk

-- what the disk at its place reads as
abbrev pub server_reads : {D : Type 0} → Medium D → List D → Machine → List ℕ
server_reads medium disks m = reads_if medium (slice_get disks (place_of m.promoted))
