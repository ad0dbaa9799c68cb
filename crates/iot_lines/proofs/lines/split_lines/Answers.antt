use Rattle.iot_lines.proofs.LinesLaws.{lines-length}
use Rattle.iot_lines.proofs.lines.split_lines.Goals as goal

pub returns-clause-few : goal.returns-clause-few
returns-clause-few c = lines-length c.args.text.now
