use Rattle.iot_machine.proofs.laws.an_opening_is_counted.Goals as goal
use Rattle.iot_machine.proofs.SoundLaws.{counted_opening}

pub returns : goal.returns
returns c = counted_opening
