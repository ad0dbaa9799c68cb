-- The disks in memory that the program runs on.
use Rattle.std.specs.Prelude.{◌≡◌, List}
use Rattle.std.specs.List.{AllByRecursion}
use Rattle.iot_disk.specs.Disk.{never_armed}
use Rattle.iot_disk.specs.Failures.{arms_of}
use Rattle.iot_disk.specs.Memory.{Memory, in_memory}
use Rattle.iot_world.specs.Disks.{AreFresh}

-- ten empty disks in memory
abbrev pub AreEmptyDisks : List Memory → Type 0
AreEmptyDisks disks = AreFresh in_memory disks

-- none was ever armed
abbrev pub AreUnarmed : List Memory → Type 0
AreUnarmed disks = AllByRecursion (λ disk. arms_of disk.failures ≡ never_armed) disks

-- none has failed
abbrev pub AreFaultless : List Memory → Type 0
AreFaultless disks = AllByRecursion (λ disk. disk.failures.faults ≡ 0) disks
