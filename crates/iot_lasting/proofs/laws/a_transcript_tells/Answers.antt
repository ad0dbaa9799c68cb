use Rattle.iot_lasting.proofs.ToldLaws.{a_transcript_tells}
use Rattle.iot_lasting.proofs.laws.a_transcript_tells.Goals as goal

pub returns : goal.returns
returns c = a_transcript_tells
