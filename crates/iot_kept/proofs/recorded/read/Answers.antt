use Rattle.std.proofs.Common.{arith}
use Rattle.iot_kept.proofs.StandingLaws.{read_has, read_only}
use Rattle.iot_kept.proofs.recorded.read.Goals as goal

pub returns-clause-only : goal.returns-clause-only
returns-clause-only c = λ change is.
    read_only c.args.version c.args.body.now c.read_change.result (omega arith) c.read_change.ensures change is

pub returns-clause-change : goal.returns-clause-change
returns-clause-change c = read_has c.args.version c.args.body.now c.read_change.result c.read_change.ensures
