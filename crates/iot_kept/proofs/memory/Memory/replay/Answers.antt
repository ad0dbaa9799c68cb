use Rattle.iot_kept.proofs.ChangedLaws.{keeps_started, noted_sound}
use Rattle.iot_kept.proofs.SeesLaws.{own_seen}
use Rattle.iot_kept.proofs.memory.Memory.replay.Goals as goal

pub can_follow-requires-clause-sees : goal.can_follow-requires-clause-sees
can_follow-requires-clause-sees c =
    own_seen c.args.self.now.view c.args.self.now.durable.running.items c.requires.sound.sees.running

pub returns-clause-sound : goal.returns-clause-sound
returns-clause-sound c = λ made.
    noted_sound c.args.self.now c.args.change c.note.new.self c.requires.sound c.requires.change
    (c.in_ok-can_follow.ensures.0 c.if-not-branch.false) c.in_ok-note.ensures

pub returns-clause-fresh : goal.returns-clause-fresh
returns-clause-fresh c = λ made started.
    keeps_started c.args.self.now c.args.change c.note.new.self c.in_ok-note.ensures started
