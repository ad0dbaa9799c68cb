use Rattle.iot_lasting.proofs.AcknowledgedLaws.{a_settled_commit_lasts}
use Rattle.iot_lasting.proofs.laws.a_settled_commit_lasts.Goals as goal

pub returns : goal.returns
returns c = a_settled_commit_lasts
