use Rattle.std.proofs.Common.{arith}
use Rattle.iot_text.proofs.TextsLaws.{decimal-is}
use Rattle.iot_text.proofs.texts.Text.append_number.Goals as goal

pub returns-clause-spelling : goal.returns-clause-spelling
returns-clause-spelling c = decimal-is c.args.number (omega arith)
