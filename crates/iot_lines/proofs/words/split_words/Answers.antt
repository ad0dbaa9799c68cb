use Rattle.iot_lines.proofs.WordsLaws.{words-length}
use Rattle.iot_lines.proofs.words.split_words.Goals as goal

pub returns-clause-few : goal.returns-clause-few
returns-clause-few c = words-length c.args.line.now
