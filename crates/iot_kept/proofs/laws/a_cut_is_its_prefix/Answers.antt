use Rattle.iot_kept.proofs.ContinuingLaws as laws
use Rattle.iot_kept.proofs.laws.a_cut_is_its_prefix.Goals as goal

pub returns : goal.returns
returns c = laws.a_cut_is_its_prefix
