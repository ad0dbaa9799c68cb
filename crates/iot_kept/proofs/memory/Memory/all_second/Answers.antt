use Rattle.iot_kept.proofs.ChangedLaws.{still_sound}
use Rattle.iot_kept.proofs.memory.Memory.all_second.Goals as goal

pub returns-clause-sound : goal.returns-clause-sound
returns-clause-sound c =
    still_sound c.args.self.now c.all_second.new.self c.all_second.ensures.state c.all_second.ensures.sees
