use Rattle.iot_lasting.proofs.laws.commits_keep_their_numbers.Goals as goal
use Rattle.iot_lasting.proofs.LastingLaws.{commits_keep_their_numbers}

pub returns : goal.returns
returns c = commits_keep_their_numbers
