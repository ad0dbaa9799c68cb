use Rattle.iot_machine.proofs.laws.an_opening_is_sound.Goals as goal
use Rattle.iot_machine.proofs.SoundLaws.{sound_opening}

pub returns : goal.returns
returns c = sound_opening
