use Rattle.std.proofs.Common.{sym, ap, ◌∙◌}
use Rattle.iot_exec.specs.Positions.{rest_of}
use Rattle.iot_exec.proofs.PositionLaws.{advanced_here, past_here, same_around, same_weight}
use Rattle.iot_exec.proofs.position.Position.advance.Goals as goal

pub returns-then-self-statements-clause-here : goal.returns-then-self-statements-clause-here
returns-then-self-statements-clause-here c = λ script block.
    advanced_here script c.args.self.now.outer.items c.args.self.now.here.role c.args.self.now.here.at

pub returns-then-self-statements-clause-around : goal.returns-then-self-statements-clause-around
returns-then-self-statements-clause-around c = λ script.
    same_around script c.args.self.now.outer.items c.args.self.now.here.role c.args.self.now.here.at _

pub returns-then-self-statements-clause-weight : goal.returns-then-self-statements-clause-weight
returns-then-self-statements-clause-weight c = same_weight c.args.self.now.outer.items c.args.self.now.here.role c.args.self.now.here.at _

pub returns-else-self-statements-clause-here : goal.returns-else-self-statements-clause-here
returns-else-self-statements-clause-here c = λ script block.
    let end =
    past_here script c.args.self.now.outer.items c.args.self.now.here.role c.args.self.now.here.at c.args.statements.now
    block c.if-self-statements.false in
    end ∙ ap rest_of (sym end)
