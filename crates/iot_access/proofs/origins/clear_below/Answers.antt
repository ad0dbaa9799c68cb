use Rattle.std.proofs.Common.{◌∙◌}
use Rattle.iot_access.proofs.OriginsLaws.{kept_outside}
use Rattle.iot_access.proofs.origins.clear_below.Goals as goal

pub below-preserved : goal.below-preserved
below-preserved c k out =
    kept_outside c.below.index c.take_below.new.index c.args.path.now.items c.in_ok-take_below.field-0 c.in_ok-take_below.ensures k out
    ∙ c.below.invariant k out
