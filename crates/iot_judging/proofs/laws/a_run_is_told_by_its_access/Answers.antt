use Rattle.iot_judging.proofs.ToldLaws.{is_told}
use Rattle.iot_judging.proofs.laws.a_run_is_told_by_its_access.Goals as goal

pub returns : goal.returns
returns c = is_told
