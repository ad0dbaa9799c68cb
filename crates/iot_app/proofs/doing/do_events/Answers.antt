use Rattle.std.proofs.Common.{map}
use Rattle.std.specs.Io.KnownBytes.{Appends}
use Rattle.iot_world.specs.Disks.{counts_on}
use Rattle.iot_app.specs.Keeping.{DisksKeep, DisksKeepUnread, DisksStay}
use Rattle.iot_app.specs.Saving.{server_reads}
use Rattle.iot_app.proofs.RunningLaws.{played_did}
use Rattle.iot_app.proofs.doing.do_events.Goals as goal

pub returns-in-Transcript-clause-ends : goal.returns-in-Transcript-clause-ends
returns-in-Transcript-clause-ends g c =
    let it = g.D.Disk.medium in
    let counts = map (counts_on it) c.args.disks.items in
    let back = c.play.result.1.items in
    rw c.in-Transcript.is
    (played_did counts (Appends (g.K.Sink.written c.args.sink.now) (g.K.Sink.written c.play.new.sink))
    (DisksKeep it c.args.disks.items back) (DisksStay it c.args.disks.items back) (DisksKeepUnread it c.args.disks.items back)
    (server_reads g.D.Disk.medium back) c.args.events.now c.play.result.0 c.play.ensures.ends)
