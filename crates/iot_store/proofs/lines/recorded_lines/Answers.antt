use Rattle.iot_store.proofs.LinesLaws.{view_lines}
use Rattle.iot_store.proofs.lines.recorded_lines.Goals as goal

pub returns-in-Ok-Some : goal.returns-in-Ok-Some
returns-in-Ok-Some c =
    view_lines c.args.bytes.now c.header.result c.in-Ok-Some.field-0 c.in-Ok-Some.view c.requires.0 c.lines_of_all.result c.header.ensures
    c.in-Ok-Some.field-0-is c.in-Ok-Some.ensures.some c.requires.1 c.lines_of_all.ensures
