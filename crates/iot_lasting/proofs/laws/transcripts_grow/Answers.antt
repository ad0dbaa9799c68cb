use Rattle.iot_lasting.proofs.laws.transcripts_grow.Goals as goal
use Rattle.iot_lasting.proofs.LastingLaws.{transcripts_grow}

pub returns : goal.returns
returns c = transcripts_grow
