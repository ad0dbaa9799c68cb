use Rattle.iot_kept.proofs.SeesLaws.{added_stands}
use Rattle.iot_kept.proofs.running.Running.add.Goals as goal

pub returns-clause-stands : goal.returns-clause-stands
returns-clause-stands c =
    added_stands c.push.result c.args.self.now c.apply_if_any.new.tree c.push.new.self c.args.act c.requires.sees
    c.in_ok-apply_if_any.ensures c.push.ensures.ok
