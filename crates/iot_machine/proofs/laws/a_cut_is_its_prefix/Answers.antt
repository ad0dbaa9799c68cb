use Rattle.iot_machine.proofs.laws.a_cut_is_its_prefix.Goals as goal
use Rattle.iot_machine.proofs.CutLaws.{a_cut_is_its_prefix}

pub returns : goal.returns
returns c = a_cut_is_its_prefix
