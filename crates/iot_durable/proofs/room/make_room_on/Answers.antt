use Rattle.std.proofs.Common.{ℕ, refl, sym, subst, ◌∙◌}
use Rattle.iot_slots.specs.Slots.{count_of, state_on}
use Rattle.iot_backup.specs.Parts.{part}
use Rattle.iot_durable.specs.Durable.{images_of}
use Rattle.iot_durable.specs.Standing.{EachStays}
use Rattle.iot_durable.proofs.PartsLaws.{changes_join, changes_same}
use Rattle.iot_durable.proofs.RoomLaws.{Alone, IsKept, alone_stays, kept_part, kept_stays, keeps_follow, ok_both, room_twice}
use Rattle.iot_durable.proofs.room.make_room_on.Goals as goal

pub returns-then-not-due-clause-stays : goal.returns-then-not-due-clause-stays
returns-then-not-due-clause-stays g c =
    let medium = g.L.Disk.Disk.medium in
    let rules = g.R.Recorded.rules in
    let log = c.args.log.now in
    let count = count_of (g.L.Log.first log) in
    let now = g.R.Recorded.kept c.args.state.now in
    changes_same (IsKept medium rules count now) (λ old new. EachStays rules (images_of medium new) count (state_on medium old) now)
    (kept_stays medium rules count now) (part c.args.on_second (g.L.Log.first log) (g.L.Log.second log)) _ refl
    (kept_part medium g.L.Log.first g.L.Log.second rules now log c.requires.keeps c.args.on_second)

pub returns-then-not-due-clause-follows : goal.returns-then-not-due-clause-follows
returns-then-not-due-clause-follows g c =
    keeps_follow g.L.Disk.Disk.medium g.L.Log.first g.L.Log.second g.R.Recorded.rules (g.R.Recorded.kept c.args.state.now) c.args.log.now
    c.requires.keeps

pub returns-clause-stays : goal.returns-clause-stays
returns-clause-stays g c =
    let medium = g.L.Disk.Disk.medium in
    let rules = g.R.Recorded.rules in
    let old = c.args.log.now in
    let mid = c.checkpoint.new.log in
    let new = c.checkpoint-2.new.log in
    let count = count_of (g.L.Log.first old) in
    let now = g.R.Recorded.kept c.args.state.now in
    let one = c.in_ok-checkpoint.ensures in
    changes_join (Alone medium rules now)
    (λ a b. EachStays rules (images_of medium b) (count_of (g.L.Log.first mid)) (state_on medium a) now)
    (λ a b. EachStays rules (images_of medium b) count (state_on medium a) now)
    (λ a b e alone stays. alone_stays medium rules count now a b e alone
    (subst (λ (n : ℕ). EachStays rules (images_of medium e) n (state_on medium b) now) one.count stays))
    (part c.args.on_second (g.L.Log.first old) (g.L.Log.second old)) (part c.args.on_second (g.L.Log.first mid) (g.L.Log.second mid))
    (part c.args.on_second (g.L.Log.first new) (g.L.Log.second new)) one.renews c.checkpoint-2.ensures.stays

pub returns-clause-room : goal.returns-clause-room
returns-clause-room g c =
    let medium = g.L.Disk.Disk.medium in
    let rules = g.R.Recorded.rules in
    let old = c.args.log.now in
    let mid = c.checkpoint.new.log in
    let new = c.checkpoint-2.new.log in
    let now = g.R.Recorded.kept c.args.state.now in
    let one = c.in_ok-checkpoint.ensures in
    ok_both c.checkpoint-2.result
    (λ renews more. room_twice medium rules now c.args.size (part c.args.on_second (g.L.Log.first old) (g.L.Log.second old))
    (part c.args.on_second (g.L.Log.first mid) (g.L.Log.second mid)) (part c.args.on_second (g.L.Log.first new) (g.L.Log.second new))
    (sym c.due.ensures ∙ c.if-not-due.false) one.renews one.room (sym c.due-2.ensures ∙ c.if-not-due-2.false) renews more)
    c.checkpoint-2.ensures.renews c.checkpoint-2.ensures.room
