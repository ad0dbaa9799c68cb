use Rattle.std.proofs.Common.{◌≡◌, refl}
use Rattle.iot_slots.specs.Slots as on_slots
use Rattle.iot_slots.specs.Slots.{count_of, state_on}
use Rattle.iot_slots.specs.declared.version.Version.TheVariants.{Two}
use Rattle.iot_durable.specs.Durable.{images_of, Keeps}
use Rattle.iot_durable.proofs.PartsLaws.{changes_same}
use Rattle.iot_durable.proofs.RoomLaws.{keeps_stays, keeps_stay, keeps_follow, none_rose}
use Rattle.iot_durable.proofs.NotingLaws.{stays_either, stays_goes, stay_either, stay_goes, stay_stands, notes_by}
use Rattle.iot_durable.proofs.durable.Durable.note.Goals as goal

pub returns-in_err-spell_change-clause-images : goal.returns-in_err-spell_change-clause-images
returns-in_err-spell_change-clause-images g c =
    let medium = g.L.Disk.Disk.medium in
    let rules = g.R.Recorded.rules in
    let first = g.L.Log.first in
    let second = g.L.Log.second in
    let old = c.args.self.now.log in
    let now = g.R.Recorded.kept c.args.self.now.state in
    let synced = c.requires.synced in
    let keeps : Keeps medium first second rules now old =
    record { disks = synced.disks; header_is = synced.header_is; makes = synced.makes; also = synced.also } in
    stays_either rules (images_of medium (first old)) (count_of (first old)) (state_on medium (first old)) now
    ((rules Two).after now c.args.change) (keeps_stays medium first second rules now old keeps)

pub returns-in_err-spell_change-clause-no_memory : goal.returns-in_err-spell_change-clause-no_memory
returns-in_err-spell_change-clause-no_memory g c =
    let medium = g.L.Disk.Disk.medium in
    let rules = g.R.Recorded.rules in
    let first = g.L.Log.first in
    let second = g.L.Log.second in
    let old = c.args.self.now.log in
    let now = g.R.Recorded.kept c.args.self.now.state in
    let synced = c.requires.synced in
    let keeps : Keeps medium first second rules now old =
    record { disks = synced.disks; header_is = synced.header_is; makes = synced.makes; also = synced.also } in
    λ _ _. keeps_stays medium first second rules now old keeps

pub returns-in_err-spell_change-clause-goes : goal.returns-in_err-spell_change-clause-goes
returns-in_err-spell_change-clause-goes g c =
    let medium = g.L.Disk.Disk.medium in
    let rules = g.R.Recorded.rules in
    let first = g.L.Log.first in
    let second = g.L.Log.second in
    let old = c.args.self.now.log in
    let now = g.R.Recorded.kept c.args.self.now.state in
    let synced = c.requires.synced in
    let keeps : Keeps medium first second rules now old =
    record { disks = synced.disks; header_is = synced.header_is; makes = synced.makes; also = synced.also } in
    stays_goes rules (images_of medium (first old)) (count_of (first old)) (state_on medium (first old)) now c.args.change
    (keeps_stays medium first second rules now old keeps)

pub returns-in_err-spell_change-clause-second_images : goal.returns-in_err-spell_change-clause-second_images
returns-in_err-spell_change-clause-second_images g c =
    let medium = g.L.Disk.Disk.medium in
    let rules = g.R.Recorded.rules in
    let first = g.L.Log.first in
    let second = g.L.Log.second in
    let old = c.args.self.now.log in
    let now = g.R.Recorded.kept c.args.self.now.state in
    let synced = c.requires.synced in
    let keeps : Keeps medium first second rules now old =
    record { disks = synced.disks; header_is = synced.header_is; makes = synced.makes; also = synced.also } in
    stay_either medium rules (count_of (first old)) now (second old) (second old)
    (keeps_stay medium first second rules now old keeps) ((rules Two).after now c.args.change)

pub returns-in_err-spell_change-clause-second_memory : goal.returns-in_err-spell_change-clause-second_memory
returns-in_err-spell_change-clause-second_memory g c =
    let medium = g.L.Disk.Disk.medium in
    let rules = g.R.Recorded.rules in
    let first = g.L.Log.first in
    let second = g.L.Log.second in
    let old = c.args.self.now.log in
    let now = g.R.Recorded.kept c.args.self.now.state in
    let synced = c.requires.synced in
    let keeps : Keeps medium first second rules now old =
    record { disks = synced.disks; header_is = synced.header_is; makes = synced.makes; also = synced.also } in
    λ _. stay_stands medium rules (count_of (first old)) now (second old) (second old)
    (keeps_stay medium first second rules now old keeps)

pub returns-in_err-spell_change-clause-second_goes : goal.returns-in_err-spell_change-clause-second_goes
returns-in_err-spell_change-clause-second_goes g c =
    let medium = g.L.Disk.Disk.medium in
    let rules = g.R.Recorded.rules in
    let first = g.L.Log.first in
    let second = g.L.Log.second in
    let old = c.args.self.now.log in
    let now = g.R.Recorded.kept c.args.self.now.state in
    let synced = c.requires.synced in
    let keeps : Keeps medium first second rules now old =
    record { disks = synced.disks; header_is = synced.header_is; makes = synced.makes; also = synced.also } in
    stay_goes medium rules (count_of (first old)) now (second old) (second old)
    (keeps_stay medium first second rules now old keeps) c.args.change

pub returns-in_err-spell_change-clause-follows : goal.returns-in_err-spell_change-clause-follows
returns-in_err-spell_change-clause-follows g c =
    let medium = g.L.Disk.Disk.medium in
    let rules = g.R.Recorded.rules in
    let first = g.L.Log.first in
    let second = g.L.Log.second in
    let old = c.args.self.now.log in
    let now = g.R.Recorded.kept c.args.self.now.state in
    let synced = c.requires.synced in
    let keeps : Keeps medium first second rules now old =
    record { disks = synced.disks; header_is = synced.header_is; makes = synced.makes; also = synced.also } in
    keeps_follow medium first second rules now old keeps

pub returns-in_err-spell_change-clause-faults : goal.returns-in_err-spell_change-clause-faults
returns-in_err-spell_change-clause-faults g c =
    let medium = g.L.Disk.Disk.medium in
    let first = g.L.Log.first in
    let second = g.L.Log.second in
    let old = c.args.self.now.log in
    notes_by medium (Unit {0}) (first old) (first old) c.from_residual.result (second old) (second old) c.from_residual.ensures.1
    (none_rose medium (first old) (first old) (second old) refl)

pub returns-in_err-spell_change-clause-second_arms : goal.returns-in_err-spell_change-clause-second_arms
returns-in_err-spell_change-clause-second_arms g c =
    let medium = g.L.Disk.Disk.medium in
    let rules = g.R.Recorded.rules in
    let first = g.L.Log.first in
    let second = g.L.Log.second in
    let old = c.args.self.now.log in
    changes_same (on_slots.IsSynced medium) (λ a b. medium.arms (on_slots.disk_of b) ≡ medium.arms (on_slots.disk_of a)) (λ _ _. refl)
    (second old) (second old) refl c.requires.synced.disks.second
