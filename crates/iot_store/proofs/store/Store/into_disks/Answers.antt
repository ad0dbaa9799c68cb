use Rattle.std.proofs.Common.{Option, sym, subst}
use Rattle.iot_backup.specs.Parts.{If}
use Rattle.iot_slots.specs.Slots.{disk_of as disk_on}
use Rattle.iot_store.proofs.PartsLaws.{if_mapped}
use Rattle.iot_store.proofs.RestartLaws.{synced_starts}
use Rattle.iot_store.specs.Standing.{EachStarts}
use Rattle.iot_store.specs.Store.{disk_of, second_of}
use Rattle.iot_store.proofs.store.Store.into_disks.Goals as goal

pub returns-clause-restarts : goal.returns-clause-restarts
returns-clause-restarts g c = λ synced.
    let medium = g.D.Disk.medium in
    let done = c.into_disks.ensures in
    subst (λ d. If (λ disk. EachStarts (medium.may_leave d) (medium.may_leave disk)) c.into_disks.result.1) (sym done.first)
    (subst (λ o. If (λ disk. EachStarts (medium.may_leave (disk_of c.args.self)) (medium.may_leave disk)) o) (sym done.second)
    (if_mapped (λ disk. EachStarts (medium.may_leave (disk_of c.args.self)) (medium.may_leave disk)) disk_on (second_of c.args.self)
    (synced_starts medium c.args.self synced)))
