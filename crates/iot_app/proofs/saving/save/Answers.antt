use Rattle.std.proofs.Common.{◌≡◌, ◌<◌, ℕ, List, Vec, Global, map, ◌∙◌, slice_set, subst, sym}
use Rattle.std.specs.Io.KnownBytes.{Appends}
use Rattle.iot_world.specs.Disks.{counts_on}
use Rattle.iot_app.specs.Keeping.{DisksKeep, DisksKeepAt, DisksKeepUnread, DisksStay}
use Rattle.iot_app.specs.Played.{Reported, DidFirst}
use Rattle.iot_app.specs.Running.{tells}
use Rattle.iot_app.specs.Saving.{server_reads}
use Rattle.iot_words.specs.declared.jobs.Run.TheVariants.{Save}
use Rattle.iot_app.proofs.PlayedLaws.{appends_none}
use Rattle.iot_app.proofs.RunningLaws.{if_ok, if_err, keeps_read, place_inside, reads_changed, saved_did, unsaved_did}
use Rattle.iot_app.proofs.saving.save.Goals as goal

pub index_mut-requires : goal.index_mut-requires
index_mut-requires g c =
    let it = g.D.Disk.medium in
    let place = c.run_events-told.result.1 in
    let old = c.run_events-told.result.2.items in
    let told =
    if_ok c.run_events-told.result.0
    (λ (text : List ℕ). Reported (map (counts_on it) c.args.disks.items) (λ told. text ≡ told)
    (DisksKeepAt it c.args.disks.items old place) (tells Save) c.args.events.now)
    c.in-Ok.field-0 c.in-Ok.is c.run_events-told.ensures.told in
    subst (λ (n : ℕ). place < n) (sym c.run_events-told.result.2.ok.0)
    (place_inside it c.args.disks.items old c.requires.fresh told.ran.machine told.ran.kept.keeps place told.ran.kept.at)

pub returns-in-Ok-read_whole-clause-ends : goal.returns-in-Ok-read_whole-clause-ends
returns-in-Ok-read_whole-clause-ends g c =
    let it = g.D.Disk.medium in
    let counts = map (counts_on it) c.args.disks.items in
    let place = c.run_events-told.result.1 in
    let old = c.run_events-told.result.2.items in
    let new = slice_set old place c.read_whole.new.disk in
    let told =
    if_ok c.run_events-told.result.0
    (λ (text : List ℕ). Reported counts (λ told. text ≡ told)
    (DisksKeepAt it c.args.disks.items old place) (tells Save) c.args.events.now)
    c.in-Ok.field-0 c.in-Ok.is c.run_events-told.ensures.told in
    saved_did counts (Appends (g.K.Sink.written c.args.sink.now) (g.K.Sink.written c.write_text.new.sink))
    (DisksKeep it c.args.disks.items new) (DisksStay it c.args.disks.items new) (DisksKeepUnread it c.args.disks.items new)
    (server_reads it new) c.args.events.now (DisksKeepAt it c.args.disks.items old place) told.ran
    (λ m kept.
    keeps_read it c.args.disks.items old c.requires.fresh place c.index_mut.result.now c.read_whole.new.disk c.index_mut.ensures.value
    c.read_whole.ensures.images c.read_whole.ensures.arms m kept.at kept.keeps c.in-Ok-read_whole.ensures.faults)
    c.deref.result.now c.write_text.result
    (record { before = g.K.Sink.faults c.args.sink.now; after = g.K.Sink.faults c.write_text.new.sink })
    (record { before = g.K.Sink.empties c.args.sink.now; after = g.K.Sink.empties c.write_text.new.sink })
    (c.deref.ensures.value ∙ c.in-Ok-read_whole.ensures.bytes
    ∙ reads_changed it c.args.disks.items old c.requires.fresh place c.index_mut.result.now c.read_whole.new.disk
    c.index_mut.ensures.value c.read_whole.ensures.images c.read_whole.ensures.arms told.ran.machine told.ran.kept.at told.ran.kept.keeps)
    c.write_text.ensures

pub returns-in-Ok-clause-ends : goal.returns-in-Ok-clause-ends
returns-in-Ok-clause-ends g c =
    let it = g.D.Disk.medium in
    let counts = map (counts_on it) c.args.disks.items in
    let place = c.run_events-told.result.1 in
    let old = c.run_events-told.result.2.items in
    let new = slice_set old place c.read_whole.new.disk in
    let told =
    if_ok c.run_events-told.result.0
    (λ (text : List ℕ). Reported counts (λ told. text ≡ told)
    (DisksKeepAt it c.args.disks.items old place) (tells Save) c.args.events.now)
    c.in-Ok.field-0 c.in-Ok.is c.run_events-told.ensures.told in
    rw c.of_read.ensures
    (unsaved_did it c.args.disks.items old c.requires.fresh place c.index_mut.result.now
    c.read_whole.new.disk c.index_mut.ensures.value c.read_whole.ensures.images c.read_whole.ensures.arms
    (Appends (g.K.Sink.written c.args.sink.now) (g.K.Sink.written c.args.sink.now)) (server_reads it new)
    c.args.events.now told.ran (appends_none _) (Vec ℕ Global) c.in-Err-read_whole.fault c.in-Err-read_whole.ensures.faults)

pub returns-clause-ends : goal.returns-clause-ends
returns-clause-ends g c =
    let it = g.D.Disk.medium in
    let counts = map (counts_on it) c.args.disks.items in
    record {
      did =
          if_err c.run_events-told.result.0
          (λ _. DidFirst counts (DisksStay it c.args.disks.items c.run_events-told.result.2.items) c.args.events.now)
          c.in-Err._no_memory c.in-Err.is c.run_events-told.ensures.failed;
      written = appends_none _;
    }
