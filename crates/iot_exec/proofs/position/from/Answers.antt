use Rattle.std.proofs.Common.{sym}
use Rattle.iot_exec.proofs.PositionLaws.{skipped, skipped_all}
use Rattle.std.proofs.lemmas.List.{take_rest}
use Rattle.iot_exec.proofs.position.from.Goals as goal

pub returns-then-at-statements : goal.returns-then-at-statements
returns-then-at-statements c = rw take_rest (skipped c.args.statements.now c.args.at)

pub returns-else-at-statements : goal.returns-else-at-statements
returns-else-at-statements c = sym (skipped_all c.args.statements.now c.args.at c.if-at-statements.false)
