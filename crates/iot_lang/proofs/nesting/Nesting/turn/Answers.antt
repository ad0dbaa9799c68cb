use Rattle.std.proofs.Common.{rules, refl}
use Rattle.iot_lang.proofs.NestingLaws.{turns_at, cannot_turn, may_turn-other}
use Rattle.iot_lang.specs.declared.nesting.Head.TheVariants.{Else}
use Rattle.iot_lang.proofs.nesting.Nesting.turn.Goals as goal

pub returns-in_default-head : goal.returns-in_default-head
returns-in_default-head c = record {
  moves = tt;
  bad =
      λ _. cannot_turn c.args.self.now c.pop.new.self.items c.in-Some.field-0 (search rules)
      (may_turn-other c.in-Some.field-0.head c.in_default-head.not-If);
  not_deep = λ e. cc;
}

pub returns-clause-moves : goal.returns-clause-moves
returns-clause-moves c =
    turns_at c.args.self.now _ c.pop.new.self.items c.in-Some.field-0
    (record { before = c.in-Some.before; head = Else c.in-If.condition c.of-first.result }) c.in-If.condition c.of-first.result
    (search rules) (search rules) (search rules) (search rules) refl (search rules) (search rules)
