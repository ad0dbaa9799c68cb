use Rattle.std.proofs.Common.{[], ◌∷◌}
use Rattle.iot_text.proofs.TextsLaws.{on_err, part_of_list}
use Rattle.iot_inspect.specs.Texts.{child_text}
use Rattle.iot_inspect.proofs.reading.put_others.Goals as goal

pub returns-in_err-put_other-clause-err : goal.returns-in_err-put_other-clause-err
returns-in_err-put_other-clause-err c =
    on_err _
    (part_of_list (λ child. 32 ∷ child_text child) c.args.children.now c.loop-child.child-index c.child-item.result [] c.args.out.now
    c.loop-child.out c.put_other.new.out c.loop-child-test.true c.child-item.is c.loop-child.invariant c.in_err-put_other.ensures.err)
