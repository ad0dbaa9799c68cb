use Rattle.iot_lasting.proofs.laws.commits_last.Goals as goal
use Rattle.iot_lasting.proofs.LastingLaws.{commits_last}

pub returns : goal.returns
returns c = commits_last
