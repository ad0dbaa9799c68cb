use Rattle.std.proofs.Common.{rules}
use Rattle.iot_records.specs.Bytes.{number}
use Rattle.iot_records.proofs.records.spell_record.Goals as goal

pub returns : goal.returns
unfolding number
returns c = search rules
