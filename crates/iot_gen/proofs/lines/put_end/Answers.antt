use Rattle.iot_gen.specs.Generated.{end_lines}
use Rattle.iot_gen.proofs.lines.put_end.Goals as goal

pub returns : goal.returns
unfolding end_lines
returns c = c.put_lasts.ensures
