use Rattle.iot_machine.proofs.laws.an_event_keeps_it_sound.Goals as goal
use Rattle.iot_machine.proofs.SoundLaws.{sound_event}

pub returns : goal.returns
returns c = sound_event
