use Rattle.std.proofs.Common.{refl, arith}
use Rattle.iot_text.proofs.TablesLaws.{table_tells}
use Rattle.iot_event.specs.Bytes.{is_line_byte}
use Rattle.iot_event.specs.declared.bytes.TheConstants.{LINE_BYTES}
use Rattle.iot_event.proofs.bytes.is_line_byte.Goals as goal

pub returns : goal.returns
returns c = rw c.from.ensures (table_tells is_line_byte LINE_BYTES refl c.args.byte (omega arith))
