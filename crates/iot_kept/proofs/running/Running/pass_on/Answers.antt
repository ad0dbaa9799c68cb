use Rattle.std.proofs.Common.{sym, subst}
use Rattle.iot_stamp.specs.Acting.{UpdatesFit}
use Rattle.iot_stamp.proofs.ActingLaws.{holds_fit}
use Rattle.iot_kept.proofs.running.Running.pass_on.Goals as goal

pub pass-requires : goal.pass-requires
pass-requires c =
    subst (UpdatesFit c.args.view.now) (sym c.as_slice.ensures) (holds_fit c.args.view.now c.args.self.now.acts c.requires.hold)
