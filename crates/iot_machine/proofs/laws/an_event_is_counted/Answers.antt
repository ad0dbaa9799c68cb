use Rattle.iot_machine.proofs.laws.an_event_is_counted.Goals as goal
use Rattle.iot_machine.proofs.SoundLaws.{counted_event}

pub returns : goal.returns
returns c = counted_event
