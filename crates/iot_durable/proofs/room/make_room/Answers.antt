use Rattle.iot_slots.specs.Slots.{count_of, state_on}
use Rattle.iot_durable.specs.Durable.{images_of}
use Rattle.iot_durable.specs.Standing.{EachStays}
use Rattle.iot_durable.proofs.PartsLaws.{changes_same}
use Rattle.iot_durable.proofs.RoomLaws.{IsKept, kept_second, kept_stays}
use Rattle.iot_durable.proofs.room.make_room.Goals as goal

pub returns-in_err-make_room_on-clause-second_stays : goal.returns-in_err-make_room_on-clause-second_stays
returns-in_err-make_room_on-clause-second_stays g c =
    let medium = g.L.Disk.Disk.medium in
    let rules = g.R.Recorded.rules in
    let log = c.args.log.now in
    let count = count_of (g.L.Log.first log) in
    let now = g.R.Recorded.kept c.args.state.now in
    changes_same (IsKept medium rules count now) (λ old new. EachStays rules (images_of medium new) count (state_on medium old) now)
    (kept_stays medium rules count now) (g.L.Log.second log) _ c.in_err-make_room_on.ensures.other
    (kept_second medium g.L.Log.first g.L.Log.second rules now log c.requires.keeps)
