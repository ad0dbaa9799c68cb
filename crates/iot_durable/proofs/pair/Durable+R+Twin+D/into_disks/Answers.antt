use Rattle.iot_backup.specs.Following.{MayFollow}
use Rattle.iot_backup.specs.Pairs.{EachPair}
use Rattle.iot_slots.specs.Slots.{disk_of}
use Rattle.iot_durable.specs.Standing.{header_of}
use Rattle.iot_durable.proofs.PairLaws.{if_mapped}
use Rattle.iot_durable.proofs.RoomLaws.{synced_follow}
use Rattle.iot_durable.proofs.pair.Durable+R+Twin+D.into_disks.Goals as goal

pub returns-clause-follows : goal.returns-clause-follows
returns-clause-follows g c synced =
    let log = c.args.self.log in
    let header = header_of g.R.Recorded.rules in
    rw (c.into_disks.ensures.first, c.into_disks.ensures.second)
    (if_mapped disk_of (λ disk. EachPair (MayFollow header) (g.D.Disk.medium.may_leave (disk_of log.first))
    (g.D.Disk.medium.may_leave disk)) log.second (synced_follow g.D.Disk.medium header log.first log.second synced.header_is synced.disks))
