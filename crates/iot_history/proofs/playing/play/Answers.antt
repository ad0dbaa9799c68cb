use Rattle.std.proofs.Common.{map, sym, inr}
use Rattle.std.proofs.KnownBytes.{Appends-nil}
use Rattle.std.proofs.lemmas.List.{append-nil}
use Rattle.iot_journal.specs.Journal.{bodies_on}
use Rattle.iot_world.specs.Disks.{counts_on}
use Rattle.iot_app.proofs.PlayedLaws.{opened_on}
use Rattle.iot_history.proofs.MarksLaws.{synced_marked}
use Rattle.iot_history.proofs.playing.play.Goals as goal

pub play_on-requires-clause-opened : goal.play_on-requires-clause-opened
play_on-requires-clause-opened g c =
    let it = g.D.Disk.medium in
    record {
      handed = map (counts_on it) c.args.disks.items;
      is = opened_on it c.args.disks.items c.new-opening.result c.new.new.out c.in-Ok.world c.new-opening.ensures c.in-Ok.ensures.opens;
    }

pub returns-in-Ok-clause-ends : goal.returns-in-Ok-clause-ends
returns-in-Ok-clause-ends g c =
    let it = g.D.Disk.medium in
    c.play_on.ensures.ends (map (counts_on it) c.args.disks.items)
    (opened_on it c.args.disks.items c.new-opening.result c.new.new.out c.in-Ok.world c.new-opening.ensures c.in-Ok.ensures.opens)

pub returns-clause-ends : goal.returns-clause-ends
returns-clause-ends g c =
    let bodies = bodies_on g.J.Disk.medium c.args.journal.now in
    inr (
      Appends-nil (g.K.Sink.written c.args.sink.now),
      synced_marked g.J.Disk.medium c.args.journal.now bodies 0 c.requires.synced (sym (append-nil bodies)),
    )
