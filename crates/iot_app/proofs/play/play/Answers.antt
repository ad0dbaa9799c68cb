use Rattle.std.proofs.Common.{List, map, subst, sym}
use Rattle.std.specs.Io.KnownBytes.{Appends}
use Rattle.iot_world.specs.Disks.{counts_on}
use Rattle.iot_app.specs.Keeping.{DisksKeep, DisksStay}
use Rattle.iot_app.specs.Played.{Played}
use Rattle.iot_app.proofs.PlayedLaws.{opened_on, disks_keep, disks_stay, none_played, holds_as}
use Rattle.iot_app.proofs.play.play.Goals as goal

pub into_disks-requires : goal.into_disks-requires
into_disks-requires g c = c.play_on-status.ensures.disks.has c.in-Ok.ensures.opens.has

pub play_on-status-requires-clause-opened : goal.play_on-status-requires-clause-opened
play_on-status-requires-clause-opened g c =
    let it = g.D.Disk.medium in
    let counts = map (counts_on it) c.args.disks.items in
    record {
      handed = counts;
      is = opened_on it c.args.disks.items c.new-opening.result c.new.new.out c.in-Ok.world c.new-opening.ensures c.in-Ok.ensures.opens;
    }

pub returns-in-Ok-clause-ends : goal.returns-in-Ok-clause-ends
returns-in-Ok-clause-ends g c =
    let it = g.D.Disk.medium in
    let counts = map (counts_on it) c.args.disks.items in
    subst
    (λ (back : List g.row.D.Denot). Played counts c.play_on-status.result
    (Appends (g.K.Sink.written c.args.sink.now) (g.K.Sink.written c.play_on-status.new.sink))
    (DisksKeep it c.args.disks.items back) (DisksStay it c.args.disks.items back) c.args.events.now)
    (sym c.into_disks.ensures)
    (holds_as counts c.play_on-status.result _ _ _ _ _ c.args.events.now
    (disks_keep it c.args.disks.items _ _ _ _ c.in-Ok.ensures.opens c.play_on-status.ensures.disks g.met.D.Disk.reads_is_image)
    (disks_stay it c.args.disks.items _ _ _ _ c.in-Ok.ensures.opens c.play_on-status.ensures.disks)
    (c.play_on-status.ensures.ends counts
    (opened_on it c.args.disks.items c.new-opening.result c.new.new.out c.in-Ok.world c.new-opening.ensures c.in-Ok.ensures.opens)))

pub returns-clause-ends : goal.returns-clause-ends
returns-clause-ends g c =
    let it = g.D.Disk.medium in
    none_played it c.args.disks.items c.in-Err.disks.items c.args.events.now c.requires.fresh
    c.in-Err.ensures.refused _
