use Rattle.std.proofs.Common.{List, ℕ, refl, sym, subst}
use Rattle.iot_slots.specs.Slots.{count_of, header_of, state_on, renewed, EachEncodesEither}
use Rattle.iot_slots.specs.declared.version.Version.TheVariants.{Two}
use Rattle.iot_backup.specs.Parts.{part}
use Rattle.iot_durable.specs.Durable.{images_of}
use Rattle.iot_durable.specs.Standing.{EachStays}
use Rattle.iot_durable.proofs.PartsLaws.{changes_same, changes_with}
use Rattle.iot_durable.proofs.RoomLaws.{IsKept, kept_part, kept_stays, keeps_follow, renewed_stays}
use Rattle.iot_durable.proofs.room.checkpoint.Goals as goal

pub returns-in_err-spell-clause-stays : goal.returns-in_err-spell-clause-stays
returns-in_err-spell-clause-stays g c =
    let medium = g.L.Disk.Disk.medium in
    let rules = g.R.Recorded.rules in
    let log = c.args.log.now in
    let count = count_of (g.L.Log.first log) in
    let now = g.R.Recorded.kept c.args.state.now in
    changes_same (IsKept medium rules count now) (λ old new. EachStays rules (images_of medium new) count (state_on medium old) now)
    (kept_stays medium rules count now) (part c.args.on_second (g.L.Log.first log) (g.L.Log.second log)) _ refl
    (kept_part medium g.L.Log.first g.L.Log.second rules now log c.requires.keeps c.args.on_second)

pub returns-in_err-spell-clause-follows : goal.returns-in_err-spell-clause-follows
returns-in_err-spell-clause-follows g c =
    keeps_follow g.L.Disk.Disk.medium g.L.Log.first g.L.Log.second g.R.Recorded.rules (g.R.Recorded.kept c.args.state.now) c.args.log.now
    c.requires.keeps

pub returns-clause-stays : goal.returns-clause-stays
returns-clause-stays g c =
    let medium = g.L.Disk.Disk.medium in
    let rules = g.R.Recorded.rules in
    let log = c.args.log.now in
    let count = count_of (g.L.Log.first log) in
    let now = g.R.Recorded.kept c.args.state.now in
    let body = c.as_bytes.result.now in
    let spells = subst (λ (l : List ℕ). (rules Two).IsBody l now) (sym c.as_bytes.ensures) c.in_ok-spell.ensures in
    changes_with (IsKept medium rules count now)
    (λ old new. EachEncodesEither (header_of old) (images_of medium new) (state_on medium old) (renewed (state_on medium old) body))
    (λ old new. EachStays rules (images_of medium new) count (state_on medium old) now)
    (renewed_stays medium rules count now body spells) (part c.args.on_second (g.L.Log.first log) (g.L.Log.second log)) _
    (kept_part medium g.L.Log.first g.L.Log.second rules now log c.requires.keeps c.args.on_second) c.checkpoint.ensures.images
