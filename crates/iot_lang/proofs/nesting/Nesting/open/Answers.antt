use Rattle.std.proofs.Common.{rules, refl}
use Rattle.iot_lang.proofs.NestingLaws.{opens_at, is_full}
use Rattle.iot_lang.proofs.nesting.Nesting.open.Goals as goal

pub returns-then-len-ge-DEPTH_LIMIT-clause-deep : goal.returns-then-len-ge-DEPTH_LIMIT-clause-deep
returns-then-len-ge-DEPTH_LIMIT-clause-deep c = λ _. is_full c.args.self.now (search rules)

pub returns-clause-opens : goal.returns-clause-opens
returns-clause-opens c =
    opens_at c.args.self.now _ (record { before = c.replace-before.result; head = c.args.head }) c.args.head (search rules) (search rules)
    refl (search rules) (search rules)
