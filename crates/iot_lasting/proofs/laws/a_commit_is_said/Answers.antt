use Rattle.iot_lasting.proofs.AcknowledgedLaws.{a_commit_is_said}
use Rattle.iot_lasting.proofs.laws.a_commit_is_said.Goals as goal

pub returns : goal.returns
returns c = a_commit_is_said
