use Rattle.iot_codec.specs.Laws.Sorted.{sorted_table}
use Rattle.iot_kept.proofs.bringing.merge.Goals as goal

pub merge-requires-clause-rows : goal.merge-requires-clause-rows
merge-requires-clause-rows c = sorted_table c.args.changes.rows c.requires.changes.rows.rising
