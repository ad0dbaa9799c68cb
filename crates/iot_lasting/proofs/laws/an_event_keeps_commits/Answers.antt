use Rattle.iot_lasting.proofs.laws.an_event_keeps_commits.Goals as goal
use Rattle.iot_lasting.proofs.LastingLaws.{an_event_keeps_commits}

pub returns : goal.returns
returns c = an_event_keeps_commits
