-- What the start of a twin answers if an append fails.
use Rattle.iot_disk.specs.declared.faults.StartFault.TheVariants as start
use Rattle.iot_disk.specs.declared.faults.JournalFault.{JournalFault}
use Rattle.iot_disk.specs.declared.faults.JournalFault.TheVariants as journal
use Rattle.iot_backup.specs.declared.faults.TwinFault.{TwinFault}
use Rattle.iot_backup.specs.declared.faults.TwinFault.TheVariants.{Disk}

abbrev pub twin_fault_of : JournalFault → TwinFault
twin_fault_of journal.NoMemory = Disk start.NoMemory
twin_fault_of journal.Stopped = Disk start.Stopped
