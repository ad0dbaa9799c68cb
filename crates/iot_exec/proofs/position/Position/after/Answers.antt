use Rattle.std.proofs.Common.{arith}
use Rattle.iot_exec.specs.declared.position.Role.TheVariants.{Script}
use Rattle.iot_exec.proofs.PositionLaws.{past_here}
use Rattle.iot_exec.proofs.position.Position.after.Goals as goal

pub returns : goal.returns
returns c = past_here c.args.script.now c.new.result.items Script _ c.statements.result.now c.statements.ensures (omega arith)
