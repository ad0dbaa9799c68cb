use Rattle.std.proofs.Common.{rules, refl}
use Rattle.iot_lang.proofs.NestingLaws.{closes_at}
use Rattle.iot_lang.proofs.nesting.Nesting.close.Goals as goal

pub returns-clause-moves : goal.returns-clause-moves
returns-clause-moves c =
    closes_at c.args.self.now _ c.pop.new.self.items (record { before = c.in-Some.before; head = c.in-Some.head }) c.closed.result
    (search rules) refl (search rules) (search rules)
