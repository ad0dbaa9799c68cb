use Rattle.std.proofs.Common.{◌≡◌, ℕ, List, map, subst, sym}
use Rattle.std.specs.Io.KnownBytes.{Appends}
use Rattle.iot_world.specs.Disks.{counts_on}
use Rattle.iot_app.specs.Keeping.{DisksKeep, DisksKeepAt, DisksKeepUnread, DisksStay}
use Rattle.iot_app.specs.Played.{Reported, DidFirst}
use Rattle.iot_app.specs.Running.{tells}
use Rattle.iot_app.specs.Saving.{server_reads}
use Rattle.iot_app.proofs.PlayedLaws.{appends_none, reported_as}
use Rattle.iot_app.proofs.RunningLaws.{if_ok, if_err, text_did, nothing_did}
use Rattle.iot_app.proofs.doing.report.Goals as goal

pub returns-in-Ok-clause-ends : goal.returns-in-Ok-clause-ends
returns-in-Ok-clause-ends g c =
    let it = g.D.Disk.medium in
    let counts = map (counts_on it) c.args.disks.items in
    let place = c.run_events-told.result.1 in
    let back = c.run_events-told.result.2.items in
    let told_at =
    if_ok c.run_events-told.result.0
    (λ (text : List ℕ). Reported counts (λ told. text ≡ told)
    (DisksKeepAt it c.args.disks.items back place) (tells c.args.job) c.args.events.now)
    c.in-Ok.text c.in-Ok.is c.run_events-told.ensures.told in
    let told =
    reported_as counts (λ told. c.in-Ok.text ≡ told) (DisksKeepAt it c.args.disks.items back place)
    (DisksKeep it c.args.disks.items back) c.args.events.now (λ m kept. kept.keeps) (tells c.args.job) told_at in
    text_did counts (Appends (g.K.Sink.written c.args.sink.now) (g.K.Sink.written c.write_text.new.sink))
    (DisksKeep it c.args.disks.items back) (DisksStay it c.args.disks.items back) (DisksKeepUnread it c.args.disks.items back)
    (server_reads it back) c.args.events.now c.args.job c.as_bytes.result.now c.write_text.result
    (record { before = g.K.Sink.faults c.args.sink.now; after = g.K.Sink.faults c.write_text.new.sink })
    (record { before = g.K.Sink.empties c.args.sink.now; after = g.K.Sink.empties c.write_text.new.sink }) c.requires.told
    (subst
    (λ (t : List ℕ). Reported counts (λ told. t ≡ told)
    (DisksKeep it c.args.disks.items back) (tells c.args.job) c.args.events.now)
    (sym c.as_bytes.ensures) told)
    c.write_text.ensures

pub returns-in-Err-clause-ends : goal.returns-in-Err-clause-ends
returns-in-Err-clause-ends g c =
    let it = g.D.Disk.medium in
    let counts = map (counts_on it) c.args.disks.items in
    let back = c.run_events-told.result.2.items in
    nothing_did counts (Appends (g.K.Sink.written c.args.sink.now) (g.K.Sink.written c.args.sink.now))
    (DisksKeep it c.args.disks.items back) (DisksStay it c.args.disks.items back) (DisksKeepUnread it c.args.disks.items back)
    (server_reads it back) c.args.events.now c.args.job c.requires.told
    (if_err c.run_events-told.result.0 (λ _. DidFirst counts (DisksStay it c.args.disks.items back) c.args.events.now)
    c.in-Err._no_memory c.in-Err.is c.run_events-told.ensures.failed)
    (appends_none _)
