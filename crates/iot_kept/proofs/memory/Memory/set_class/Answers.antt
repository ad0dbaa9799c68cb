use Rattle.iot_kept.proofs.ChangedLaws.{still_sound}
use Rattle.iot_kept.proofs.memory.Memory.set_class.Goals as goal

pub returns-clause-sound : goal.returns-clause-sound
returns-clause-sound c =
    still_sound c.args.self.now c.set_class.new.self c.set_class.ensures.state c.set_class.ensures.sees
