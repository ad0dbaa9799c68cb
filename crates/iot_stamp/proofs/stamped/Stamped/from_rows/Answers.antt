use Rattle.std.proofs.Common.{◌∙◌, ap, List}
use Rattle.iot_tree.specs.Tree.{Row}
use Rattle.iot_stamp.specs.Pairing.{paired}
use Rattle.iot_stamp.proofs.PairingLaws.{entries_paired}
use Rattle.iot_stamp.proofs.stamped.Stamped.from_rows.Goals as goal

pub returns-in-Ok-clause-ok : goal.returns-in-Ok-clause-ok
returns-in-Ok-clause-ok c = (
  entries_paired c.in-Ok.tree c.args.stamps.items ∙ ap (λ (rows : List Row). paired rows c.args.stamps.items) c.in-Ok.ensures.ok.0,
  c.in-Ok.ensures.ok.1,
)
