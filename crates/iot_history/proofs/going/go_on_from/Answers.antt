use Rattle.std.proofs.Common.{◌∙◌, List, [], ◌∷◌, ◌++◌, ℕ, map, refl, sym, ap, subst}
use Rattle.std.specs.Io.KnownBytes.{Appends, IsAtEnd}
use Rattle.iot_io.specs.ReadAll.{Took}
use Rattle.iot_journal.specs.Decoding.{Encodes}
use Rattle.iot_journal.specs.Journal.{bodies_on, disk_of}
use Rattle.iot_journal.proofs.ImagesLaws.{each_only}
use Rattle.iot_world.specs.Disks.{counts_on}
use Rattle.iot_history.specs.Ending.{RefusalEnds}
use Rattle.iot_history.proofs.CountsLaws.{past_source, past_sink, past_disk, refused_source, refused_disk}
use Rattle.iot_history.proofs.EndingLaws.{refused_ends, recorded_ends}
use Rattle.iot_history.proofs.going.go_on_from.Goals as goal

pub returns-in-Err-clause-source_faults : goal.returns-in-Err-clause-source_faults
returns-in-Err-clause-source_faults g c = past_source c.args.bodies.now c.in-Err.status _ c.in-Err.ensures.none refl

pub returns-in-Err-clause-sink_faults : goal.returns-in-Err-clause-sink_faults
returns-in-Err-clause-sink_faults g c = past_sink c.args.bodies.now c.in-Err.status _ _ c.in-Err.ensures.none refl refl

pub returns-in-Err-clause-disk_faults : goal.returns-in-Err-clause-disk_faults
returns-in-Err-clause-disk_faults g c = past_disk c.args.bodies.now c.in-Err.status _ c.in-Err.ensures.none refl

pub returns-in-Err-read_input-clause-ends : goal.returns-in-Err-read_input-clause-ends
returns-in-Err-read_input-clause-ends g c =
    refused_ends
    (record {
      took = Took g.S.Source.left g.S.Source.taken c.args.source.now c.read_input.new.source;
      at_end = IsAtEnd (g.S.Source.left c.read_input.new.source);
      wrote = Appends (g.K.Sink.written c.args.sink.now) (g.K.Sink.written c.refuse.new.sink);
      handed = map (counts_on g.D.Disk.medium) c.args.disks.items;
      found = Encodes c.args.bodies.now;
      images = g.J.Disk.medium.may_leave (disk_of c.args.journal.now);
    })
    c.args.bodies.now refl
    (each_only (g.J.Disk.medium.reads (disk_of c.args.journal.now)) (g.J.Disk.medium.may_leave (disk_of c.args.journal.now))
    (Encodes c.args.bodies.now) c.requires.synced.only
    (c.requires.synced.encodes ∙ ap (λ (b : List (List ℕ)). Encodes b) c.requires.bodies))
    c.deref.result.now c.in-Err-read_input.fault c.refuse.result
    (c.deref.ensures.value ∙ c.in-Ok.ensures.text)
    c.in-Err-read_input.ensures.none
    (subst
    (λ (p : List ℕ). RefusalEnds p c.in-Err-read_input.fault
    (Appends (g.K.Sink.written c.args.sink.now) (g.K.Sink.written c.refuse.new.sink))
    c.refuse.result)
    (c.deref-in-Err-read_input.ensures.value ∙ sym c.deref.ensures.value) c.refuse.ensures.ends)

pub returns-in-Err-read_input-clause-source_faults : goal.returns-in-Err-read_input-clause-source_faults
returns-in-Err-read_input-clause-source_faults g c =
    refused_source c.deref-in-Err-read_input.result.now
    (Appends (g.K.Sink.written c.args.sink.now) (g.K.Sink.written c.refuse.new.sink)) c.refuse.result _ c.in-Err-read_input.fault
    c.refuse.ensures.ends c.in-Err-read_input.ensures.cause

pub returns-in-Err-read_input-clause-disk_faults : goal.returns-in-Err-read_input-clause-disk_faults
returns-in-Err-read_input-clause-disk_faults g c =
    refused_disk c.deref-in-Err-read_input.result.now
    (Appends (g.K.Sink.written c.args.sink.now) (g.K.Sink.written c.refuse.new.sink)) c.refuse.result _ c.in-Err-read_input.fault
    c.refuse.ensures.ends refl

pub returns-in-Ok-append-clause-ends : goal.returns-in-Ok-append-clause-ends
returns-in-Ok-append-clause-ends g c =
    recorded_ends
    (record {
      took = Took g.S.Source.left g.S.Source.taken c.args.source.now c.read_input.new.source;
      at_end = IsAtEnd (g.S.Source.left c.read_input.new.source);
      wrote = Appends (g.K.Sink.written c.args.sink.now) (g.K.Sink.written c.play.new.sink);
      handed = map (counts_on g.D.Disk.medium) c.args.disks.items;
      found = Encodes c.args.bodies.now;
      images = g.J.Disk.medium.may_leave (disk_of c.play.new.journal);
    })
    c.args.bodies.now (bodies_on g.J.Disk.medium c.append.new.self) c.deref.result.now c.in-Ok-read_input.input.text.items
    c.in-Ok.past.pieces c.in-Ok-read_input.input.events.items c.deref-in-Ok-append.result.now c.play.result refl c.in-Ok.ensures.gives
    c.in-Ok-read_input.ensures.text (c.deref.ensures.value ∙ c.in-Ok.ensures.text) c.in-Ok-read_input.ensures.events
    (c.in-Ok-append.ensures.bodies
    ∙ ap (λ (bs : List (List ℕ)). bs ++ c.deref-2.result.now ∷ []) c.requires.bodies
    ∙ ap (λ (t : List ℕ). c.args.bodies.now ++ t ∷ []) c.deref-2.ensures.value)
    c.in-Ok.ensures.pieces c.deref-in-Ok-append.ensures.value c.play.ensures.ends
