use Rattle.std.proofs.Common.{sym, ap, ◌∙◌}
use Rattle.iot_exec.specs.Positions.{skip}
use Rattle.iot_exec.proofs.PositionLaws.{here_is}
use Rattle.iot_exec.proofs.position.Position.rest.Goals as goal

pub returns : goal.returns
returns c = λ script block.
    c.from.ensures ∙ ap (skip c.args.self.now.here.at) block
    ∙ sym (here_is script c.args.self.now.outer.items c.args.self.now.here)
