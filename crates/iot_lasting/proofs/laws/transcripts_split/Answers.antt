use Rattle.iot_lasting.proofs.laws.transcripts_split.Goals as goal
use Rattle.iot_lasting.proofs.LastingLaws.{transcripts_split}

pub returns : goal.returns
returns c = transcripts_split
