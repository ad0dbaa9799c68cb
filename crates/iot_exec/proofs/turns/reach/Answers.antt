use Rattle.std.proofs.Common.{sym, ◌∙◌}
use Rattle.iot_exec.specs.Positions.{here, around}
use Rattle.iot_exec.proofs.PositionLaws.{is_reached}
use Rattle.iot_exec.proofs.turns.reach.Goals as goal

pub returns : goal.returns
returns c =
    is_reached c.rest.result.now (here c.args.script.now c.passing.position) (around c.args.script.now c.passing.position) c.passing.env
    (sym c.is_empty.ensures ∙ c.passing-test.false) (c.rest.ensures c.args.script.now c.passing.invariant.block)
    ∙ c.passing.invariant.reaches
