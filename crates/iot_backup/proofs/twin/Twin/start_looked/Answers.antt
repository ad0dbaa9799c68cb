use Rattle.std.proofs.Common.{◌≡◌, [], length, Some, refl, ◌∙◌, sym, ap}
use Rattle.iot_slots.specs.Decoding.{Encodes}
use Rattle.iot_slots.specs.Looked.{disk_of as disk_in}
use Rattle.iot_slots.specs.Slots.{disk_of, header_of}
use Rattle.iot_backup.specs.Start.{last_of}
use Rattle.iot_backup.proofs.StartLaws.{are_found, as_in_step, as_of, bring_cause, brought_images, brought_in_step, brought_of}
use Rattle.iot_backup.proofs.StartLaws.{brought_state, brought_takes, changes_none, found_as, is_started, lacks, looked_again, no_change}
use Rattle.iot_backup.proofs.StartLaws.{counted_as, room_again, room_of, room_takes, same_as, same_room, second_cause}
use Rattle.iot_backup.proofs.StartLaws.{start_again, started_brought, started_same, takes_of, taken_as}
use Rattle.iot_backup.proofs.twin.Twin.start_looked.Goals as goal

pub returns-in-Err-clause-cause : goal.returns-in-Err-clause-cause
returns-in-Err-clause-cause g c =
    second_cause c.in-Err.fault _ _ _ _ _ _
    (taken_as c.args.body.now _ _ (found_as _ _ _ _ c.requires.header c.requires.first.seen.found c.args.body.now))
    (ap g.D.Disk.medium.faults c.into_disk.ensures ∙ refl) c.in-Err.ensures.cause

pub returns-in-Err-start-clause-in_step : goal.returns-in-Err-start-clause-in_step
returns-in-Err-start-clause-in_step g c it =
    as_in_step c.args.header c.args.body.now (g.D.Disk.medium.reads (disk_in c.args.first)) (g.D.Disk.medium.reads c.args.second) _ _
    (as_of _ _ _ _ _ _ c.requires.header refl c.in-Err-start.ensures.images)
    (rw c.into_disk-in-Err-start.ensures
    (same_as c.args.header c.args.body.now (g.D.Disk.medium.reads c.args.second) (g.D.Disk.medium.may_leave c.args.second) _
    c.requires.second c.in-Ok.ensures.images)) it

pub returns-in-Err-start-2-clause-takes : goal.returns-in-Err-start-2-clause-takes
returns-in-Err-start-2-clause-takes g c =
    room_takes c.args.header c.args.body.now (g.D.Disk.medium.reads (disk_in c.args.first)) (g.D.Disk.medium.reads c.args.second) _
    c.requires.behind (room_of _ _ _ _ _ c.in-Ok.ensures.header c.in-Ok.ensures.reads c.in-Err-start-2.ensures.room)

pub returns-in-Err-clause-again : goal.returns-in-Err-clause-again
returns-in-Err-clause-again g c =
    rw c.into_disk.ensures (looked_again c.args.header c.args.body.now _ _ _ _ _ _ c.requires.behind c.requires.first.only (no_change _)
    c.requires.second c.in-Err.ensures.images)

pub returns-in-Err-start-clause-again : goal.returns-in-Err-start-clause-again
returns-in-Err-start-clause-again g c =
    rw c.into_disk-in-Err-start.ensures (room_again c.args.header c.args.body.now _ _ _ _ c.requires.behind
    (as_of _ _ _ _ _ _ c.requires.header refl c.in-Err-start.ensures.images)
    (same_as _ _ _ _ _ c.requires.second c.in-Ok.ensures.images)
    (same_room _ _ _ _ c.requires.second c.in-Ok.ensures.images))

pub returns-in-Err-start-2-clause-again : goal.returns-in-Err-start-2-clause-again
returns-in-Err-start-2-clause-again g c =
    rw c.into_disk-in-Err-start-2.ensures (room_again c.args.header c.args.body.now _ _ _ _ c.requires.behind
    (as_of _ _ _ _ _ _ c.requires.header refl c.in-Ok-start.ensures.images)
    (as_of _ _ _ _ _ _ c.in-Ok.ensures.header c.in-Ok.ensures.reads c.in-Err-start-2.ensures.images)
    (room_of _ _ _ _ _ c.in-Ok.ensures.header c.in-Ok.ensures.reads c.in-Err-start-2.ensures.room))

pub bring_up-requires-clause-more : goal.bring_up-requires-clause-more
bring_up-requires-clause-more g c differ =
    let both = are_found c.args.header c.args.body.now (g.D.Disk.medium.reads (disk_in c.args.first)) (g.D.Disk.medium.reads c.args.second)
    c.args.first.seen.found c.in-Ok.second.seen.found _ _ c.count-one.result c.count-other.result
    (found_as _ _ _ _ c.requires.header c.requires.first.seen.found)
    c.in-Ok-start.ensures.state c.in-Ok.ensures.state c.in-Ok-start-2.ensures.state c.count-one.ensures c.count-other.ensures
    c.if-not-follows.ensures in
    (lacks c.args.header c.args.body.now _ _ _ _ _ _ both c.requires.behind differ).0

pub bring_up-requires-clause-not_due : goal.bring_up-requires-clause-not_due
bring_up-requires-clause-not_due g c differ =
    let both = are_found c.args.header c.args.body.now (g.D.Disk.medium.reads (disk_in c.args.first)) (g.D.Disk.medium.reads c.args.second)
    c.args.first.seen.found c.in-Ok.second.seen.found _ _ c.count-one.result c.count-other.result
    (found_as _ _ _ _ c.requires.header c.requires.first.seen.found)
    c.in-Ok-start.ensures.state c.in-Ok.ensures.state c.in-Ok-start-2.ensures.state c.count-one.ensures c.count-other.ensures
    c.if-not-follows.ensures in
    let head : header_of c.in-Ok-start-2.made.0 ≡ c.args.header = c.in-Ok-start-2.ensures.header ∙ c.in-Ok.ensures.header in
    let room = room_of _ _ _ _ _ c.in-Ok.ensures.header c.in-Ok.ensures.reads c.in-Ok-start-2.ensures.room in
    let it = lacks c.args.header c.args.body.now _ _ _ _ _ _ both c.requires.behind differ in
    rw head ((room.takes (length (last_of c.in-Ok-start.made.1.records)) it.1).each (g.D.Disk.medium.reads (disk_of c.in-Ok-start-2.made.0))
    (g.met.D.Disk.reads_is_image (disk_of c.in-Ok-start-2.made.0)))

pub returns-in-Ok-bring_up-clause-second_state : goal.returns-in-Ok-bring_up-clause-second_state
returns-in-Ok-bring_up-clause-second_state g c was is =
    let both = are_found c.args.header c.args.body.now (g.D.Disk.medium.reads (disk_in c.args.first)) (g.D.Disk.medium.reads c.args.second)
    c.args.first.seen.found c.in-Ok.second.seen.found _ _ c.count-one.result c.count-other.result
    (found_as _ _ _ _ c.requires.header c.requires.first.seen.found)
    c.in-Ok-start.ensures.state c.in-Ok.ensures.state c.in-Ok-start-2.ensures.state c.count-one.ensures c.count-other.ensures
    c.if-not-follows.ensures in
    brought_state c.args.header c.args.body.now _ _ _ _ _ _ both _ _ _ was c.in-Ok-start.ensures.same c.in-Ok-start-2.ensures.same is
    c.in-Ok-bring_up.ensures.state

pub returns-in-Ok-bring_up-clause-synced : goal.returns-in-Ok-bring_up-clause-synced
returns-in-Ok-bring_up-clause-synced g c =
    let both = are_found c.args.header c.args.body.now (g.D.Disk.medium.reads (disk_in c.args.first)) (g.D.Disk.medium.reads c.args.second)
    c.args.first.seen.found c.in-Ok.second.seen.found _ _ c.count-one.result c.count-other.result
    (found_as _ _ _ _ c.requires.header c.requires.first.seen.found)
    c.in-Ok-start.ensures.state c.in-Ok.ensures.state c.in-Ok-start-2.ensures.state c.count-one.ensures c.count-other.ensures
    c.if-not-follows.ensures in
    record {
      first = c.in-Ok-start.ensures.synced;
      second = c.in-Ok-bring_up.ensures.synced;
      header = c.bring_up.ensures.header ∙ c.in-Ok-start-2.ensures.header ∙ c.in-Ok.ensures.header
          ∙ sym (c.in-Ok-start.ensures.header ∙ c.requires.header);
      count = c.in-Ok-bring_up.ensures.count ∙ both.count_is;
    }

pub returns-in-Ok-bring_up-clause-only_read : goal.returns-in-Ok-bring_up-clause-only_read
returns-in-Ok-bring_up-clause-only_read g c started =
    let was = is_started _ _ _ _ c.requires.header refl started in
    c.in-Ok-start.ensures.only_read was ∙ refl

pub returns-in-Ok-bring_up-clause-only_read_images : goal.returns-in-Ok-bring_up-clause-only_read_images
returns-in-Ok-bring_up-clause-only_read_images g c started =
    let was = is_started _ _ _ _ c.requires.header refl started in
    changes_none _ _ _ (no_change _) (c.in-Ok-start.ensures.only_read_images was)

pub returns-in-Err-bring_up-clause-only_read : goal.returns-in-Err-bring_up-clause-only_read
returns-in-Err-bring_up-clause-only_read g c started =
    let was = is_started _ _ _ _ c.requires.header refl started in
    rw c.into_disk-in-Err-bring_up.ensures (c.in-Ok-start.ensures.only_read was ∙ refl)

pub returns-in-Err-bring_up-clause-only_read_images : goal.returns-in-Err-bring_up-clause-only_read_images
returns-in-Err-bring_up-clause-only_read_images g c started =
    let was = is_started _ _ _ _ c.requires.header refl started in
    rw c.into_disk-in-Err-bring_up.ensures (changes_none _ _ _ (no_change _) (c.in-Ok-start.ensures.only_read_images was))

pub returns-in-Err-bring_up-clause-cause : goal.returns-in-Err-bring_up-clause-cause
returns-in-Err-bring_up-clause-cause g c =
    rw (c.from.ensures, c.into_disk-in-Err-bring_up.ensures, c.into_disk-in-Err-bring_up-2.ensures)
    (bring_cause c.in-Err-bring_up.fault _ _ _ _ _ _
    (taken_as c.args.body.now _ _ (found_as _ _ _ _ c.requires.header c.requires.first.seen.found c.args.body.now))
    (c.in-Ok-start.ensures.faults ∙ refl)
    (rw (c.in-Ok-start-2.ensures.faults ∙ c.in-Ok.ensures.steady) at c.in-Err-bring_up.ensures.faults))

pub returns-in-Ok-bring_up-clause-second_images : goal.returns-in-Ok-bring_up-clause-second_images
returns-in-Ok-bring_up-clause-second_images g c =
    let both = are_found c.args.header c.args.body.now (g.D.Disk.medium.reads (disk_in c.args.first)) (g.D.Disk.medium.reads c.args.second)
    c.args.first.seen.found c.in-Ok.second.seen.found _ _ c.count-one.result c.count-other.result
    (found_as _ _ _ _ c.requires.header c.requires.first.seen.found)
    c.in-Ok-start.ensures.state c.in-Ok.ensures.state c.in-Ok-start-2.ensures.state c.count-one.ensures c.count-other.ensures
    c.if-not-follows.ensures in
    let head : header_of c.in-Ok-start-2.made.0 ≡ c.args.header = c.in-Ok-start-2.ensures.header ∙ c.in-Ok.ensures.header in
    let all = brought_of _ _ _ _ _ _ _ _ head c.in-Ok-start-2.ensures.same c.bring_up.ensures.images in
    brought_images c.args.header c.args.body.now _ _ _ _ _ _ both _ all

pub returns-in-Err-bring_up-clause-second_images : goal.returns-in-Err-bring_up-clause-second_images
returns-in-Err-bring_up-clause-second_images g c =
    let both = are_found c.args.header c.args.body.now (g.D.Disk.medium.reads (disk_in c.args.first)) (g.D.Disk.medium.reads c.args.second)
    c.args.first.seen.found c.in-Ok.second.seen.found _ _ c.count-one.result c.count-other.result
    (found_as _ _ _ _ c.requires.header c.requires.first.seen.found)
    c.in-Ok-start.ensures.state c.in-Ok.ensures.state c.in-Ok-start-2.ensures.state c.count-one.ensures c.count-other.ensures
    c.if-not-follows.ensures in
    let head : header_of c.in-Ok-start-2.made.0 ≡ c.args.header = c.in-Ok-start-2.ensures.header ∙ c.in-Ok.ensures.header in
    let all = brought_of _ _ _ _ _ _ _ _ head c.in-Ok-start-2.ensures.same c.bring_up.ensures.images in
    rw c.into_disk-in-Err-bring_up-2.ensures (brought_images c.args.header c.args.body.now _ _ _ _ _ _ both _ all)

pub returns-in-Err-bring_up-clause-takes : goal.returns-in-Err-bring_up-clause-takes
returns-in-Err-bring_up-clause-takes g c =
    let both = are_found c.args.header c.args.body.now (g.D.Disk.medium.reads (disk_in c.args.first)) (g.D.Disk.medium.reads c.args.second)
    c.args.first.seen.found c.in-Ok.second.seen.found _ _ c.count-one.result c.count-other.result
    (found_as _ _ _ _ c.requires.header c.requires.first.seen.found)
    c.in-Ok-start.ensures.state c.in-Ok.ensures.state c.in-Ok-start-2.ensures.state c.count-one.ensures c.count-other.ensures
    c.if-not-follows.ensures in
    let head : header_of c.in-Ok-start-2.made.0 ≡ c.args.header = c.in-Ok-start-2.ensures.header ∙ c.in-Ok.ensures.header in
    let all = brought_of _ _ _ _ _ _ _ _ head c.in-Ok-start-2.ensures.same c.bring_up.ensures.images in
    let takes = takes_of _ _ _ _ _ _ _ _ head c.in-Ok-start-2.ensures.same c.bring_up.ensures.takes in
    rw c.into_disk-in-Err-bring_up-2.ensures (brought_takes c.args.header c.args.body.now _ _ _ _ _ _ both _ all takes)

pub returns-in-Ok-bring_up-clause-in_step : goal.returns-in-Ok-bring_up-clause-in_step
returns-in-Ok-bring_up-clause-in_step g c it =
    let both = are_found c.args.header c.args.body.now (g.D.Disk.medium.reads (disk_in c.args.first)) (g.D.Disk.medium.reads c.args.second)
    c.args.first.seen.found c.in-Ok.second.seen.found _ _ c.count-one.result c.count-other.result
    (found_as _ _ _ _ c.requires.header c.requires.first.seen.found)
    c.in-Ok-start.ensures.state c.in-Ok.ensures.state c.in-Ok-start-2.ensures.state c.count-one.ensures c.count-other.ensures
    c.if-not-follows.ensures in
    let head : header_of c.in-Ok-start-2.made.0 ≡ c.args.header = c.in-Ok-start-2.ensures.header ∙ c.in-Ok.ensures.header in
    let all = brought_of _ _ _ _ _ _ _ _ head c.in-Ok-start-2.ensures.same c.bring_up.ensures.images in
    let firsts = as_of _ _ c.args.body.now _ _ _ c.requires.header refl c.in-Ok-start.ensures.images in
    brought_in_step c.args.header c.args.body.now _ _ _ _ _ _ both _ _ firsts all

pub returns-in-Err-bring_up-clause-in_step : goal.returns-in-Err-bring_up-clause-in_step
returns-in-Err-bring_up-clause-in_step g c it =
    let both = are_found c.args.header c.args.body.now (g.D.Disk.medium.reads (disk_in c.args.first)) (g.D.Disk.medium.reads c.args.second)
    c.args.first.seen.found c.in-Ok.second.seen.found _ _ c.count-one.result c.count-other.result
    (found_as _ _ _ _ c.requires.header c.requires.first.seen.found)
    c.in-Ok-start.ensures.state c.in-Ok.ensures.state c.in-Ok-start-2.ensures.state c.count-one.ensures c.count-other.ensures
    c.if-not-follows.ensures in
    let head : header_of c.in-Ok-start-2.made.0 ≡ c.args.header = c.in-Ok-start-2.ensures.header ∙ c.in-Ok.ensures.header in
    let all = brought_of _ _ _ _ _ _ _ _ head c.in-Ok-start-2.ensures.same c.bring_up.ensures.images in
    let firsts = as_of _ _ c.args.body.now _ _ _ c.requires.header refl c.in-Ok-start.ensures.images in
    rw (c.into_disk-in-Err-bring_up.ensures, c.into_disk-in-Err-bring_up-2.ensures)
    (brought_in_step c.args.header c.args.body.now _ _ _ _ _ _ both _ _ firsts all)

pub returns-in-Ok-bring_up-clause-again : goal.returns-in-Ok-bring_up-clause-again
returns-in-Ok-bring_up-clause-again g c =
    let both = are_found c.args.header c.args.body.now (g.D.Disk.medium.reads (disk_in c.args.first)) (g.D.Disk.medium.reads c.args.second)
    c.args.first.seen.found c.in-Ok.second.seen.found _ _ c.count-one.result c.count-other.result
    (found_as _ _ _ _ c.requires.header c.requires.first.seen.found)
    c.in-Ok-start.ensures.state c.in-Ok.ensures.state c.in-Ok-start-2.ensures.state c.count-one.ensures c.count-other.ensures
    c.if-not-follows.ensures in
    let head : header_of c.in-Ok-start-2.made.0 ≡ c.args.header = c.in-Ok-start-2.ensures.header ∙ c.in-Ok.ensures.header in
    let all = brought_of _ _ _ _ _ _ _ _ head c.in-Ok-start-2.ensures.same c.bring_up.ensures.images in
    let firsts = as_of _ _ c.args.body.now _ _ _ c.requires.header refl c.in-Ok-start.ensures.images in
    let takes = takes_of _ _ _ _ _ _ _ _ head c.in-Ok-start-2.ensures.same c.bring_up.ensures.takes in
    start_again c.args.header c.args.body.now _ _ _ _ c.requires.behind firsts
    (brought_images c.args.header c.args.body.now _ _ _ _ _ _ both _ all)
    (brought_takes c.args.header c.args.body.now _ _ _ _ _ _ both _ all takes)

pub returns-in-Err-bring_up-clause-again : goal.returns-in-Err-bring_up-clause-again
returns-in-Err-bring_up-clause-again g c =
    let both = are_found c.args.header c.args.body.now (g.D.Disk.medium.reads (disk_in c.args.first)) (g.D.Disk.medium.reads c.args.second)
    c.args.first.seen.found c.in-Ok.second.seen.found _ _ c.count-one.result c.count-other.result
    (found_as _ _ _ _ c.requires.header c.requires.first.seen.found)
    c.in-Ok-start.ensures.state c.in-Ok.ensures.state c.in-Ok-start-2.ensures.state c.count-one.ensures c.count-other.ensures
    c.if-not-follows.ensures in
    let head : header_of c.in-Ok-start-2.made.0 ≡ c.args.header = c.in-Ok-start-2.ensures.header ∙ c.in-Ok.ensures.header in
    let all = brought_of _ _ _ _ _ _ _ _ head c.in-Ok-start-2.ensures.same c.bring_up.ensures.images in
    let firsts = as_of _ _ c.args.body.now _ _ _ c.requires.header refl c.in-Ok-start.ensures.images in
    let takes = takes_of _ _ _ _ _ _ _ _ head c.in-Ok-start-2.ensures.same c.bring_up.ensures.takes in
    rw (c.into_disk-in-Err-bring_up.ensures, c.into_disk-in-Err-bring_up-2.ensures)
    (start_again c.args.header c.args.body.now _ _ _ _ c.requires.behind firsts
    (brought_images c.args.header c.args.body.now _ _ _ _ _ _ both _ all)
    (brought_takes c.args.header c.args.body.now _ _ _ _ _ _ both _ all takes))

-- ---- neither is refused, and they are apart

pub returns-then-not-follows-clause-again : goal.returns-then-not-follows-clause-again
returns-then-not-follows-clause-again g c =
    rw (c.into_disk-then-not-follows.ensures, c.into_disk-then-not-follows-2.ensures)
    (looked_again c.args.header c.args.body.now _ _ _ _ _ _ c.requires.behind c.requires.first.only (no_change _) c.requires.second
    c.in-Ok.ensures.images)

pub returns-then-not-follows-clause-cause : goal.returns-then-not-follows-clause-cause
returns-then-not-follows-clause-cause g c = (
  record {
    first_is = counted_as [] _ _ (found_as _ _ _ _ c.requires.header c.requires.first.seen.found []) ∙ ap Some (sym c.count-one.ensures);
    second_is = counted_as [] _ _ (c.in-Ok.ensures.state []) ∙ ap Some (sym c.count-other.ensures);
    apart = sym c.if-not-follows.ensures;
  },
  ap g.D.Disk.medium.faults c.into_disk-then-not-follows.ensures,
  ap g.D.Disk.medium.faults c.into_disk-then-not-follows-2.ensures ∙ c.in-Ok.ensures.steady,
)

pub returns-in-Err-start-2-clause-in_step : goal.returns-in-Err-start-2-clause-in_step
returns-in-Err-start-2-clause-in_step g c it =
    rw c.into_disk-in-Err-start-2.ensures
    (as_in_step c.args.header c.args.body.now (g.D.Disk.medium.reads (disk_in c.args.first)) (g.D.Disk.medium.reads c.args.second) _ _
    (as_of _ _ _ _ _ _ c.requires.header refl c.in-Ok-start.ensures.images)
    (as_of _ _ _ _ _ _ c.in-Ok.ensures.header c.in-Ok.ensures.reads c.in-Err-start-2.ensures.images) it)

pub returns-in-Ok-bring_up-clause-state : goal.returns-in-Ok-bring_up-clause-state
returns-in-Ok-bring_up-clause-state g c =
    found_as _ _ _ _ c.requires.header c.requires.first.seen.found c.args.body.now ∙ ap Encodes c.in-Ok-start.ensures.state

-- ---- a second disk that was started

pub returns-in-Err-clause-second_started : goal.returns-in-Err-clause-second_started
returns-in-Err-clause-second_started g c started = started_same _ _ _ _ c.requires.second c.in-Err.ensures.images started

pub returns-then-not-follows-clause-second_started : goal.returns-then-not-follows-clause-second_started
returns-then-not-follows-clause-second_started g c started =
    rw c.into_disk-then-not-follows-2.ensures (started_same _ _ _ _ c.requires.second c.in-Ok.ensures.images started)

pub returns-in-Err-start-clause-second_started : goal.returns-in-Err-start-clause-second_started
returns-in-Err-start-clause-second_started g c started =
    rw c.into_disk-in-Err-start.ensures (started_same _ _ _ _ c.requires.second c.in-Ok.ensures.images started)

pub returns-in-Err-start-2-clause-second_started : goal.returns-in-Err-start-2-clause-second_started
returns-in-Err-start-2-clause-second_started g c started =
    let was = is_started _ _ _ _ c.in-Ok.ensures.header c.in-Ok.ensures.reads started in
    started_same _ _ _ _ c.requires.second
    (changes_none _ _ _ c.in-Ok.ensures.images (c.in-Err-start-2.ensures.only_read_images was)) started

pub returns-in-Ok-bring_up-clause-second_started : goal.returns-in-Ok-bring_up-clause-second_started
returns-in-Ok-bring_up-clause-second_started g c started =
    let head : header_of c.in-Ok-start-2.made.0 ≡ c.args.header = c.in-Ok-start-2.ensures.header ∙ c.in-Ok.ensures.header in
    started_brought _ _ _ _ _ _ (brought_of _ _ _ _ _ _ _ _ head c.in-Ok-start-2.ensures.same c.bring_up.ensures.images)

pub returns-in-Err-bring_up-clause-second_started : goal.returns-in-Err-bring_up-clause-second_started
returns-in-Err-bring_up-clause-second_started g c started =
    let head : header_of c.in-Ok-start-2.made.0 ≡ c.args.header = c.in-Ok-start-2.ensures.header ∙ c.in-Ok.ensures.header in
    rw c.into_disk-in-Err-bring_up-2.ensures
    (started_brought _ _ _ _ _ _ (brought_of _ _ _ _ _ _ _ _ head c.in-Ok-start-2.ensures.same c.bring_up.ensures.images))
