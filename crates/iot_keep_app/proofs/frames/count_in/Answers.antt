use Rattle.iot_keep_app.proofs.FramesLaws.{spells}
use Rattle.iot_keep_app.proofs.frames.count_in.Goals as goal

pub returns-clause-spelled : goal.returns-clause-spelled
returns-clause-spelled c =
    spells c.args.digits.now c.number_at.result c.requires c.number_at.ensures (λ i. (c.type_inv.digits i).fits)
