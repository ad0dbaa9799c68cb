use Rattle.std.proofs.Common.{Ok, Err, length, sym, subst, ◌∙◌}
use Rattle.iot_slots.specs.Slots.{count_of, header_of, state_on}
use Rattle.iot_slots.specs.declared.version.Version.TheVariants.{Two}
use Rattle.iot_backup.specs.Parts.{If}
use Rattle.iot_durable.specs.Durable.{images_of, HasRoom}
use Rattle.iot_durable.specs.Standing.{MakesOf}
use Rattle.iot_durable.specs.Standing as standing
use Rattle.iot_durable.proofs.PartsLaws.{none_comes}
use Rattle.iot_durable.proofs.RoomLaws.{follow_under}
use Rattle.iot_durable.proofs.NotingLaws.{IsReady, MayHave, stays_either, stays_goes, stay_either, stay_goes, stay_stands}
use Rattle.iot_durable.proofs.NotingLaws.{first_either, first_goes, first_doubt, first_stays, first_noted, first_makes, first_grown}
use Rattle.iot_durable.proofs.NotingLaws.{second_either, second_goes, second_stays, second_noted, second_makes, second_grown}
use Rattle.iot_durable.proofs.NotingLaws.{lacks_alone, lacks_second, memory_from, counts_join, notes_ok, notes_by}
use Rattle.iot_durable.proofs.NotingLaws.{notes_before, notes_in_doubt}
use Rattle.iot_durable.proofs.durable.Durable.note_spelled.Goals as goal

pub returns-in-Err-clause-images : goal.returns-in-Err-clause-images
returns-in-Err-clause-images g c =
    let medium = g.L.Disk.Disk.medium in
    let rules = g.R.Recorded.rules in
    let first = g.L.Log.first in
    let second = g.L.Log.second in
    let old = c.args.self.now.log in
    let now = g.R.Recorded.kept c.args.self.now.state in
    let room = c.in-Err.ensures in
    stays_either rules (images_of medium (first c.make_room.new.log)) (count_of (first old)) (state_on medium (first old)) now
    ((rules Two).after now c.args.change) room.first_stays

pub returns-in-Err-clause-goes : goal.returns-in-Err-clause-goes
returns-in-Err-clause-goes g c =
    let medium = g.L.Disk.Disk.medium in
    let rules = g.R.Recorded.rules in
    let first = g.L.Log.first in
    let second = g.L.Log.second in
    let old = c.args.self.now.log in
    let now = g.R.Recorded.kept c.args.self.now.state in
    let room = c.in-Err.ensures in
    stays_goes rules (images_of medium (first c.make_room.new.log)) (count_of (first old)) (state_on medium (first old)) now c.args.change
    room.first_stays

pub returns-in-Err-clause-second_images : goal.returns-in-Err-clause-second_images
returns-in-Err-clause-second_images g c =
    let medium = g.L.Disk.Disk.medium in
    let rules = g.R.Recorded.rules in
    let first = g.L.Log.first in
    let second = g.L.Log.second in
    let old = c.args.self.now.log in
    let now = g.R.Recorded.kept c.args.self.now.state in
    let room = c.in-Err.ensures in
    stay_either medium rules (count_of (first old)) now (second old) (second c.make_room.new.log) room.second_stays
    ((rules Two).after now c.args.change)

pub returns-in-Err-clause-second_memory : goal.returns-in-Err-clause-second_memory
returns-in-Err-clause-second_memory g c =
    let medium = g.L.Disk.Disk.medium in
    let rules = g.R.Recorded.rules in
    let first = g.L.Log.first in
    let second = g.L.Log.second in
    let old = c.args.self.now.log in
    let now = g.R.Recorded.kept c.args.self.now.state in
    let room = c.in-Err.ensures in
    λ _. stay_stands medium rules (count_of (first old)) now (second old) (second c.make_room.new.log) room.second_stays

pub returns-in-Err-clause-second_before : goal.returns-in-Err-clause-second_before
returns-in-Err-clause-second_before g c =
    let medium = g.L.Disk.Disk.medium in
    let rules = g.R.Recorded.rules in
    let first = g.L.Log.first in
    let second = g.L.Log.second in
    let old = c.args.self.now.log in
    let now = g.R.Recorded.kept c.args.self.now.state in
    let room = c.in-Err.ensures in
    λ _. stay_stands medium rules (count_of (first old)) now (second old) (second c.make_room.new.log) room.second_stays

pub returns-in-Err-clause-second_goes : goal.returns-in-Err-clause-second_goes
returns-in-Err-clause-second_goes g c =
    let medium = g.L.Disk.Disk.medium in
    let rules = g.R.Recorded.rules in
    let first = g.L.Log.first in
    let second = g.L.Log.second in
    let old = c.args.self.now.log in
    let now = g.R.Recorded.kept c.args.self.now.state in
    let room = c.in-Err.ensures in
    stay_goes medium rules (count_of (first old)) now (second old) (second c.make_room.new.log) room.second_stays c.args.change

pub returns-in-Err-clause-faults : goal.returns-in-Err-clause-faults
returns-in-Err-clause-faults g c =
    let first = g.L.Log.first in
    let second = g.L.Log.second in
    let old = c.args.self.now.log in
    let mid = c.make_room.new.log in
    let medium = g.L.Disk.Disk.medium in
    notes_before medium (Unit {0}) (first old) (first mid) c.in-Err.fault c.before-in-Err.result c.before-in-Err.ensures (second old)
    (second mid) c.in-Err.ensures.faults

pub returns-in_err-apply-clause-images : goal.returns-in_err-apply-clause-images
returns-in_err-apply-clause-images g c =
    let medium = g.L.Disk.Disk.medium in
    let rules = g.R.Recorded.rules in
    let first = g.L.Log.first in
    let second = g.L.Log.second in
    let old = c.args.self.now.log in
    let now = g.R.Recorded.kept c.args.self.now.state in
    let room = c.in-Ok.ensures in
    stays_either rules (images_of medium (first c.make_room.new.log)) (count_of (first old)) (state_on medium (first old)) now
    ((rules Two).after now c.args.change) room.first_stays

pub returns-in_err-apply-clause-goes : goal.returns-in_err-apply-clause-goes
returns-in_err-apply-clause-goes g c =
    let medium = g.L.Disk.Disk.medium in
    let rules = g.R.Recorded.rules in
    let first = g.L.Log.first in
    let second = g.L.Log.second in
    let old = c.args.self.now.log in
    let now = g.R.Recorded.kept c.args.self.now.state in
    let room = c.in-Ok.ensures in
    stays_goes rules (images_of medium (first c.make_room.new.log)) (count_of (first old)) (state_on medium (first old)) now c.args.change
    room.first_stays

pub returns-in_err-apply-clause-second_images : goal.returns-in_err-apply-clause-second_images
returns-in_err-apply-clause-second_images g c =
    let medium = g.L.Disk.Disk.medium in
    let rules = g.R.Recorded.rules in
    let first = g.L.Log.first in
    let second = g.L.Log.second in
    let old = c.args.self.now.log in
    let now = g.R.Recorded.kept c.args.self.now.state in
    let room = c.in-Ok.ensures in
    stay_either medium rules (count_of (first old)) now (second old) (second c.make_room.new.log) room.second_stays
    ((rules Two).after now c.args.change)

pub returns-in_err-apply-clause-second_memory : goal.returns-in_err-apply-clause-second_memory
returns-in_err-apply-clause-second_memory g c =
    let medium = g.L.Disk.Disk.medium in
    let rules = g.R.Recorded.rules in
    let first = g.L.Log.first in
    let second = g.L.Log.second in
    let old = c.args.self.now.log in
    let now = g.R.Recorded.kept c.args.self.now.state in
    let room = c.in-Ok.ensures in
    λ _. stay_stands medium rules (count_of (first old)) now (second old) (second c.make_room.new.log) room.second_stays

pub returns-in_err-apply-clause-second_goes : goal.returns-in_err-apply-clause-second_goes
returns-in_err-apply-clause-second_goes g c =
    let medium = g.L.Disk.Disk.medium in
    let rules = g.R.Recorded.rules in
    let first = g.L.Log.first in
    let second = g.L.Log.second in
    let old = c.args.self.now.log in
    let now = g.R.Recorded.kept c.args.self.now.state in
    let room = c.in-Ok.ensures in
    stay_goes medium rules (count_of (first old)) now (second old) (second c.make_room.new.log) room.second_stays c.args.change

pub returns-in_err-apply-clause-faults : goal.returns-in_err-apply-clause-faults
returns-in_err-apply-clause-faults g c =
    let first = g.L.Log.first in
    let second = g.L.Log.second in
    let old = c.args.self.now.log in
    let mid = c.make_room.new.log in
    notes_by g.L.Disk.Disk.medium (Unit {0}) (first old) (first mid) c.from_residual.result (second old) (second mid)
    c.from_residual.ensures.1 c.in-Ok.ensures.faults

pub returns-in-Ok-append-clause-images : goal.returns-in-Ok-append-clause-images
returns-in-Ok-append-clause-images g c =
    let medium = g.L.Disk.Disk.medium in
    let rules = g.R.Recorded.rules in
    let first = g.L.Log.first in
    let second = g.L.Log.second in
    let old = c.args.self.now.log in
    let now = g.R.Recorded.kept c.args.self.now.state in
    let mid = c.make_room.new.log in
    let new = c.append.new.self in
    let body = c.args.body.now in
    let room = c.in-Ok.ensures in
    let ready : IsReady medium first second rules now (length body) old mid = record {
      keeps = room.keeps;
      same = room.count;
      first_room = room.first_room;
      second_room = room.second_room;
    } in
    first_either medium first second rules now c.args.change body c.requires.spelled c.requires.follows
    old mid new ready c.in-Ok-append.ensures.first_images

pub returns-in-Ok-append-clause-goes : goal.returns-in-Ok-append-clause-goes
returns-in-Ok-append-clause-goes g c =
    let medium = g.L.Disk.Disk.medium in
    let rules = g.R.Recorded.rules in
    let first = g.L.Log.first in
    let second = g.L.Log.second in
    let old = c.args.self.now.log in
    let now = g.R.Recorded.kept c.args.self.now.state in
    let mid = c.make_room.new.log in
    let new = c.append.new.self in
    let body = c.args.body.now in
    let room = c.in-Ok.ensures in
    let ready : IsReady medium first second rules now (length body) old mid = record {
      keeps = room.keeps;
      same = room.count;
      first_room = room.first_room;
      second_room = room.second_room;
    } in
    first_goes medium first second rules now c.args.change body c.requires.spelled c.requires.follows
    old mid new ready c.in-Ok-append.ensures.first_images

pub returns-in-Ok-append-clause-second_images : goal.returns-in-Ok-append-clause-second_images
returns-in-Ok-append-clause-second_images g c =
    let medium = g.L.Disk.Disk.medium in
    let rules = g.R.Recorded.rules in
    let first = g.L.Log.first in
    let second = g.L.Log.second in
    let old = c.args.self.now.log in
    let now = g.R.Recorded.kept c.args.self.now.state in
    let mid = c.make_room.new.log in
    let new = c.append.new.self in
    let body = c.args.body.now in
    let room = c.in-Ok.ensures in
    let ready : IsReady medium first second rules now (length body) old mid = record {
      keeps = room.keeps;
      same = room.count;
      first_room = room.first_room;
      second_room = room.second_room;
    } in
    second_either medium first second rules now c.args.change body c.requires.spelled c.requires.follows
    old mid new ready c.in-Ok-append.ensures.second_images

pub returns-in-Ok-append-clause-second_goes : goal.returns-in-Ok-append-clause-second_goes
returns-in-Ok-append-clause-second_goes g c =
    let medium = g.L.Disk.Disk.medium in
    let rules = g.R.Recorded.rules in
    let first = g.L.Log.first in
    let second = g.L.Log.second in
    let old = c.args.self.now.log in
    let now = g.R.Recorded.kept c.args.self.now.state in
    let mid = c.make_room.new.log in
    let new = c.append.new.self in
    let body = c.args.body.now in
    let room = c.in-Ok.ensures in
    let ready : IsReady medium first second rules now (length body) old mid = record {
      keeps = room.keeps;
      same = room.count;
      first_room = room.first_room;
      second_room = room.second_room;
    } in
    second_goes medium first second rules now c.args.change body c.requires.spelled c.requires.follows
    old mid new ready c.in-Ok-append.ensures.second_images

pub returns-in-Ok-append-clause-follows : goal.returns-in-Ok-append-clause-follows
returns-in-Ok-append-clause-follows g c =
    let medium = g.L.Disk.Disk.medium in
    let rules = g.R.Recorded.rules in
    let first = g.L.Log.first in
    let second = g.L.Log.second in
    let old = c.args.self.now.log in
    let now = g.R.Recorded.kept c.args.self.now.state in
    let mid = c.make_room.new.log in
    let new = c.append.new.self in
    let body = c.args.body.now in
    let room = c.in-Ok.ensures in
    let ready : IsReady medium first second rules now (length body) old mid = record {
      keeps = room.keeps;
      same = room.count;
      first_room = room.first_room;
      second_room = room.second_room;
    } in
    follow_under (header_of (first mid)) (standing.header_of rules) (images_of medium (first new)) (images_of medium) (second new)
    room.keeps.header_is c.in-Ok-append.ensures.follows

pub returns-in-Err-append-clause-images : goal.returns-in-Err-append-clause-images
returns-in-Err-append-clause-images g c =
    let medium = g.L.Disk.Disk.medium in
    let rules = g.R.Recorded.rules in
    let first = g.L.Log.first in
    let second = g.L.Log.second in
    let old = c.args.self.now.log in
    let now = g.R.Recorded.kept c.args.self.now.state in
    let mid = c.make_room.new.log in
    let new = c.append.new.self in
    let body = c.args.body.now in
    let room = c.in-Ok.ensures in
    let ready : IsReady medium first second rules now (length body) old mid = record {
      keeps = room.keeps;
      same = room.count;
      first_room = room.first_room;
      second_room = room.second_room;
    } in
    first_either medium first second rules now c.args.change body c.requires.spelled c.requires.follows
    old mid new ready c.in-Err-append.ensures.first_images

pub returns-in-Err-append-clause-goes : goal.returns-in-Err-append-clause-goes
returns-in-Err-append-clause-goes g c =
    let medium = g.L.Disk.Disk.medium in
    let rules = g.R.Recorded.rules in
    let first = g.L.Log.first in
    let second = g.L.Log.second in
    let old = c.args.self.now.log in
    let now = g.R.Recorded.kept c.args.self.now.state in
    let mid = c.make_room.new.log in
    let new = c.append.new.self in
    let body = c.args.body.now in
    let room = c.in-Ok.ensures in
    let ready : IsReady medium first second rules now (length body) old mid = record {
      keeps = room.keeps;
      same = room.count;
      first_room = room.first_room;
      second_room = room.second_room;
    } in
    first_goes medium first second rules now c.args.change body c.requires.spelled c.requires.follows
    old mid new ready c.in-Err-append.ensures.first_images

pub returns-in-Err-append-clause-second_images : goal.returns-in-Err-append-clause-second_images
returns-in-Err-append-clause-second_images g c =
    let medium = g.L.Disk.Disk.medium in
    let rules = g.R.Recorded.rules in
    let first = g.L.Log.first in
    let second = g.L.Log.second in
    let old = c.args.self.now.log in
    let now = g.R.Recorded.kept c.args.self.now.state in
    let mid = c.make_room.new.log in
    let new = c.append.new.self in
    let body = c.args.body.now in
    let room = c.in-Ok.ensures in
    let ready : IsReady medium first second rules now (length body) old mid = record {
      keeps = room.keeps;
      same = room.count;
      first_room = room.first_room;
      second_room = room.second_room;
    } in
    second_either medium first second rules now c.args.change body c.requires.spelled c.requires.follows
    old mid new ready c.in-Err-append.ensures.second_images

pub returns-in-Err-append-clause-second_goes : goal.returns-in-Err-append-clause-second_goes
returns-in-Err-append-clause-second_goes g c =
    let medium = g.L.Disk.Disk.medium in
    let rules = g.R.Recorded.rules in
    let first = g.L.Log.first in
    let second = g.L.Log.second in
    let old = c.args.self.now.log in
    let now = g.R.Recorded.kept c.args.self.now.state in
    let mid = c.make_room.new.log in
    let new = c.append.new.self in
    let body = c.args.body.now in
    let room = c.in-Ok.ensures in
    let ready : IsReady medium first second rules now (length body) old mid = record {
      keeps = room.keeps;
      same = room.count;
      first_room = room.first_room;
      second_room = room.second_room;
    } in
    second_goes medium first second rules now c.args.change body c.requires.spelled c.requires.follows
    old mid new ready c.in-Err-append.ensures.second_images

pub returns-in-Err-append-clause-follows : goal.returns-in-Err-append-clause-follows
returns-in-Err-append-clause-follows g c =
    let medium = g.L.Disk.Disk.medium in
    let rules = g.R.Recorded.rules in
    let first = g.L.Log.first in
    let second = g.L.Log.second in
    let old = c.args.self.now.log in
    let now = g.R.Recorded.kept c.args.self.now.state in
    let mid = c.make_room.new.log in
    let new = c.append.new.self in
    let body = c.args.body.now in
    let room = c.in-Ok.ensures in
    let ready : IsReady medium first second rules now (length body) old mid = record {
      keeps = room.keeps;
      same = room.count;
      first_room = room.first_room;
      second_room = room.second_room;
    } in
    follow_under (header_of (first mid)) (standing.header_of rules) (images_of medium (first new)) (images_of medium) (second new)
    room.keeps.header_is c.in-Err-append.ensures.follows

pub returns-in-Ok-append-clause-noted : goal.returns-in-Ok-append-clause-noted
returns-in-Ok-append-clause-noted g c =
    let medium = g.L.Disk.Disk.medium in
    let rules = g.R.Recorded.rules in
    let first = g.L.Log.first in
    let second = g.L.Log.second in
    let old = c.args.self.now.log in
    let now = g.R.Recorded.kept c.args.self.now.state in
    let mid = c.make_room.new.log in
    let new = c.append.new.self in
    let body = c.args.body.now in
    let room = c.in-Ok.ensures in
    let ready : IsReady medium first second rules now (length body) old mid = record {
      keeps = room.keeps;
      same = room.count;
      first_room = room.first_room;
      second_room = room.second_room;
    } in
    first_noted medium first second rules now c.args.change body c.requires.spelled c.requires.follows
    old mid new ready c.in-Ok-append.ensures.first_appended

pub returns-in-Ok-append-clause-second_noted : goal.returns-in-Ok-append-clause-second_noted
returns-in-Ok-append-clause-second_noted g c =
    let medium = g.L.Disk.Disk.medium in
    let rules = g.R.Recorded.rules in
    let first = g.L.Log.first in
    let second = g.L.Log.second in
    let old = c.args.self.now.log in
    let now = g.R.Recorded.kept c.args.self.now.state in
    let mid = c.make_room.new.log in
    let new = c.append.new.self in
    let body = c.args.body.now in
    let room = c.in-Ok.ensures in
    let ready : IsReady medium first second rules now (length body) old mid = record {
      keeps = room.keeps;
      same = room.count;
      first_room = room.first_room;
      second_room = room.second_room;
    } in
    second_noted medium first second rules now c.args.change body c.requires.spelled c.requires.follows
    old mid new ready c.in-Ok-append.ensures.second_appended

pub returns-in-Ok-append-clause-recorded : goal.returns-in-Ok-append-clause-recorded
returns-in-Ok-append-clause-recorded g c =
    let medium = g.L.Disk.Disk.medium in
    let rules = g.R.Recorded.rules in
    let first = g.L.Log.first in
    let second = g.L.Log.second in
    let old = c.args.self.now.log in
    let now = g.R.Recorded.kept c.args.self.now.state in
    let mid = c.make_room.new.log in
    let new = c.append.new.self in
    let body = c.args.body.now in
    let room = c.in-Ok.ensures in
    let ready : IsReady medium first second rules now (length body) old mid = record {
      keeps = room.keeps;
      same = room.count;
      first_room = room.first_room;
      second_room = room.second_room;
    } in
    first_grown medium first second rules now c.args.change body c.requires.spelled c.requires.follows
    old mid new ready c.in-Ok-append.ensures.first_state

pub returns-in-Ok-append-clause-second_recorded : goal.returns-in-Ok-append-clause-second_recorded
returns-in-Ok-append-clause-second_recorded g c =
    let medium = g.L.Disk.Disk.medium in
    let rules = g.R.Recorded.rules in
    let first = g.L.Log.first in
    let second = g.L.Log.second in
    let old = c.args.self.now.log in
    let now = g.R.Recorded.kept c.args.self.now.state in
    let mid = c.make_room.new.log in
    let new = c.append.new.self in
    let body = c.args.body.now in
    let room = c.in-Ok.ensures in
    let ready : IsReady medium first second rules now (length body) old mid = record {
      keeps = room.keeps;
      same = room.count;
      first_room = room.first_room;
      second_room = room.second_room;
    } in
    second_grown medium first second rules now c.args.change body c.requires.spelled c.requires.follows
    old mid new ready c.in-Ok-append.ensures.second_state

pub returns-in-Ok-append-clause-synced : goal.returns-in-Ok-append-clause-synced
returns-in-Ok-append-clause-synced g c =
    let medium = g.L.Disk.Disk.medium in
    let rules = g.R.Recorded.rules in
    let first = g.L.Log.first in
    let second = g.L.Log.second in
    let old = c.args.self.now.log in
    let now = g.R.Recorded.kept c.args.self.now.state in
    let mid = c.make_room.new.log in
    let new = c.append.new.self in
    let body = c.args.body.now in
    let room = c.in-Ok.ensures in
    let ready : IsReady medium first second rules now (length body) old mid = record {
      keeps = room.keeps;
      same = room.count;
      first_room = room.first_room;
      second_room = room.second_room;
    } in
    let kept = g.R.Recorded.kept in
    let is = c.in_ok-apply.ensures.kept in
    record {
      disks = c.in-Ok-append.ensures.synced;
      header_is = c.in-Ok-append.ensures.header ∙ room.keeps.header_is;
      makes = subst (λ (s : _). MakesOf rules (state_on medium (first new)) s) (sym is)
          (first_makes medium first second rules now c.args.change body c.requires.spelled c.requires.follows
          old mid new ready c.in-Ok-append.ensures.first_state);
      also = subst (λ (s : _). If (λ x. MakesOf rules (state_on medium x) s) (second new)) (sym is)
          (second_makes medium first second rules now c.args.change body c.requires.spelled c.requires.follows
          old mid new ready c.in-Ok-append.ensures.second_state);
      sound = c.in_ok-apply.ensures.sound;
    }

pub returns-in-Ok-append-clause-faults : goal.returns-in-Ok-append-clause-faults
returns-in-Ok-append-clause-faults g c =
    let medium = g.L.Disk.Disk.medium in
    let rules = g.R.Recorded.rules in
    let first = g.L.Log.first in
    let second = g.L.Log.second in
    let old = c.args.self.now.log in
    let now = g.R.Recorded.kept c.args.self.now.state in
    let mid = c.make_room.new.log in
    let new = c.append.new.self in
    let body = c.args.body.now in
    let room = c.in-Ok.ensures in
    let ready : IsReady medium first second rules now (length body) old mid = record {
      keeps = room.keeps;
      same = room.count;
      first_room = room.first_room;
      second_room = room.second_room;
    } in
    notes_ok medium (Unit {0}) (first old) (first new) tt (second old) (second new)
    (counts_join medium {T = Unit {0}} (Ok tt) (first old) (first mid) (first new) (second old) (second mid) (second new) room.faults
    c.in-Ok-append.ensures.faults)

pub returns-in-Err-append-clause-no_memory : goal.returns-in-Err-append-clause-no_memory
returns-in-Err-append-clause-no_memory g c =
    let medium = g.L.Disk.Disk.medium in
    let rules = g.R.Recorded.rules in
    let first = g.L.Log.first in
    let second = g.L.Log.second in
    let old = c.args.self.now.log in
    let now = g.R.Recorded.kept c.args.self.now.state in
    let mid = c.make_room.new.log in
    let new = c.append.new.self in
    let body = c.args.body.now in
    let room = c.in-Ok.ensures in
    let ready : IsReady medium first second rules now (length body) old mid = record {
      keeps = room.keeps;
      same = room.count;
      first_room = room.first_room;
      second_room = room.second_room;
    } in
    λ memory none.
    let gone = none_comes (HasRoom medium rules now (length body)) (second old) (second mid) room.second_room none in
    let why = memory_from c.in-Err-append.fault _ (search) memory in
    first_stays medium first second rules now c.args.change body c.requires.spelled c.requires.follows old mid new ready
    (lacks_alone medium body (first mid) (first new) (second mid) (second new) gone (c.in-Err-append.ensures.no_memory why))

pub returns-in-Err-append-clause-second_memory : goal.returns-in-Err-append-clause-second_memory
returns-in-Err-append-clause-second_memory g c =
    let medium = g.L.Disk.Disk.medium in
    let rules = g.R.Recorded.rules in
    let first = g.L.Log.first in
    let second = g.L.Log.second in
    let old = c.args.self.now.log in
    let now = g.R.Recorded.kept c.args.self.now.state in
    let mid = c.make_room.new.log in
    let new = c.append.new.self in
    let body = c.args.body.now in
    let room = c.in-Ok.ensures in
    let ready : IsReady medium first second rules now (length body) old mid = record {
      keeps = room.keeps;
      same = room.count;
      first_room = room.first_room;
      second_room = room.second_room;
    } in
    λ memory.
    let why = memory_from c.in-Err-append.fault _ (search) memory in
    stay_stands medium rules (count_of (first old)) now (second old) (second new)
    (second_stays medium first second rules now c.args.change body c.requires.spelled c.requires.follows old mid new ready
    (lacks_second medium body (first mid) (first new) (MayHave medium body) (second mid) (second new) c.in-Err-append.ensures.second_images
    (c.in-Err-append.ensures.no_memory why)))

pub returns-in-Err-append-clause-in_doubt : goal.returns-in-Err-append-clause-in_doubt
returns-in-Err-append-clause-in_doubt g c =
    let medium = g.L.Disk.Disk.medium in
    let rules = g.R.Recorded.rules in
    let first = g.L.Log.first in
    let second = g.L.Log.second in
    let old = c.args.self.now.log in
    let now = g.R.Recorded.kept c.args.self.now.state in
    let mid = c.make_room.new.log in
    let new = c.append.new.self in
    let body = c.args.body.now in
    let room = c.in-Ok.ensures in
    let ready : IsReady medium first second rules now (length body) old mid = record {
      keeps = room.keeps;
      same = room.count;
      first_room = room.first_room;
      second_room = room.second_room;
    } in
    λ _. first_doubt medium first second rules now c.args.change body c.requires.spelled c.requires.follows
    old mid new ready c.in-Err-append.ensures.first_images

pub returns-in-Err-append-clause-faults : goal.returns-in-Err-append-clause-faults
returns-in-Err-append-clause-faults g c =
    let medium = g.L.Disk.Disk.medium in
    let rules = g.R.Recorded.rules in
    let first = g.L.Log.first in
    let second = g.L.Log.second in
    let old = c.args.self.now.log in
    let now = g.R.Recorded.kept c.args.self.now.state in
    let mid = c.make_room.new.log in
    let new = c.append.new.self in
    let body = c.args.body.now in
    let room = c.in-Ok.ensures in
    let ready : IsReady medium first second rules now (length body) old mid = record {
      keeps = room.keeps;
      same = room.count;
      first_room = room.first_room;
      second_room = room.second_room;
    } in
    notes_in_doubt medium (Unit {0}) (first old) (first new) c.in-Err-append.fault _ (search) (second old) (second new)
    (counts_join medium {T = Unit {0}} (Err c.in-Err-append.fault) (first old) (first mid) (first new) (second old)
    (second mid) (second new)
    room.faults c.in-Err-append.ensures.faults)
