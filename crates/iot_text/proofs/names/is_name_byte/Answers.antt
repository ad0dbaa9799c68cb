use Rattle.std.proofs.Common.{refl, arith}
use Rattle.iot_text.specs.Names.{is_name_byte}
use Rattle.iot_text.specs.declared.names.TheConstants.{NAME_BYTES}
use Rattle.iot_text.proofs.TablesLaws.{table_tells}
use Rattle.iot_text.proofs.names.is_name_byte.Goals as goal

pub returns : goal.returns
returns c = rw c.from.ensures (table_tells is_name_byte NAME_BYTES refl c.args.byte (omega arith))
