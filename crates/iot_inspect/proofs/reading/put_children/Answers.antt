use Rattle.std.proofs.Common.{[], ◌++◌, sym, ap, subst, append-nil}
use Rattle.iot_text.specs.Texts.{AppendsPart}
use Rattle.iot_text.proofs.TextsLaws.{on_err, part_after}
use Rattle.iot_inspect.specs.Texts.{child_text, others_text, children_text}
use Rattle.iot_inspect.proofs.reading.put_children.Goals as goal

pub returns-in_err-put_others-clause-err : goal.returns-in_err-put_others-clause-err
returns-in_err-put_others-clause-err c =
    let first = child_text c.in-Some.first.now in
    let others = others_text c.in-Some.others.now in
    on_err _
    (subst (λ children. AppendsPart c.args.out.now c.put_others.new.out (children_text children)) (sym c.in-Some.ensures.cases.0)
    (part_after c.args.out.now c.put_child.new.out c.put_others.new.out first others [] (first ++ others) c.in_ok-put_child.ensures.ok
    c.in_err-put_others.ensures.err (ap (λ t. first ++ t) (append-nil others))))
