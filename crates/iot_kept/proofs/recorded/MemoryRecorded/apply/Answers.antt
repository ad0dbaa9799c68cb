use Rattle.std.proofs.lemmas.Result.{on_ok_weaker}
use Rattle.iot_kept.proofs.ChangedLaws.{noted_sound}
use Rattle.iot_kept.proofs.recorded.MemoryRecorded.apply.Goals as goal

pub returns-clause-kept : goal.returns-clause-kept
returns-clause-kept c = on_ok_weaker c.note.result (λ noted. noted.state) c.note.ensures

pub returns-clause-makes : goal.returns-clause-makes
returns-clause-makes c = on_ok_weaker c.note.result (λ noted. noted.makes) c.note.ensures

pub returns-clause-sound : goal.returns-clause-sound
returns-clause-sound c =
    on_ok_weaker c.note.result
    (λ noted. noted_sound c.args.self.now c.args.change c.note.new.self c.requires.sound c.requires.change c.requires.follows noted)
    c.note.ensures
