-- The status with which a fault of a disk that is saved ends a run.
use Rattle.iot_disk.specs.declared.disk.DiskFault.{DiskFault}
use Rattle.iot_disk.specs.declared.disk.DiskFault.TheVariants as reading
use Rattle.iot_app.specs.declared.status.Status.{Status}
use Rattle.iot_app.specs.declared.status.Status.TheVariants as status

abbrev pub ended_by_read : DiskFault → Status
ended_by_read reading.NoMemory = status.NoMemory
ended_by_read reading.Failed = status.SaveFailed
