use Rattle.iot_kept.proofs.OneStateLaws.{stand_for_one}
use Rattle.iot_kept.proofs.laws.a_disk_stands_for_one.Goals as goal

pub returns : goal.returns
returns c = stand_for_one
