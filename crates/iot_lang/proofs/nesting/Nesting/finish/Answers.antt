use Rattle.std.proofs.Common.{rules}
use Rattle.std.proofs.lemmas.List.{nil_from_length}
use Rattle.iot_lang.proofs.NestingLaws.{left_open, all_closed, is_script}
use Rattle.iot_lang.proofs.nesting.Nesting.finish.Goals as goal

pub returns-then-not-is_empty-clause-none : goal.returns-then-not-is_empty-clause-none
returns-then-not-is_empty-clause-none c = λ texts h. left_open c.args.self texts (search rules) h

pub of-requires-2 : goal.of-requires-2
of-requires-2 c =
    rw c.of.ensures
    (is_script c.requires.0 _ (all_closed c.args.self c.requires.0 (nil_from_length c.args.self.open.items (search rules)) c.requires.1))
