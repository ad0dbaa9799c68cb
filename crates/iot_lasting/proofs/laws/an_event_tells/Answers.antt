use Rattle.iot_lasting.proofs.ToldLaws.{an_event_tells}
use Rattle.iot_lasting.proofs.laws.an_event_tells.Goals as goal

pub returns : goal.returns
returns c = an_event_tells
