use Rattle.iot_lasting.proofs.laws.a_promotion_keeps_commits.Goals as goal
use Rattle.iot_lasting.proofs.PromotingLaws.{a_promotion_keeps_commits}

pub returns : goal.returns
returns c = a_promotion_keeps_commits
