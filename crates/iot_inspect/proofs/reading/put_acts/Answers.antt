use Rattle.std.proofs.Common.{List, ap, ◌∙◌, ◌+◌, ◌++◌, length, subst}
use Rattle.iot_tree.specs.declared.acts.Read.{Read}
use Rattle.iot_text.specs.Texts.{AppendsPart}
use Rattle.iot_text.proofs.TextsLaws.{on_err, leaves_next, leaves_part}
use Rattle.iot_inspect.specs.Texts.{reads_from}
use Rattle.iot_inspect.proofs.ReadsLaws.{one_act}
use Rattle.iot_inspect.proofs.reading.put_acts.Goals as goal

pub returns-in_err-number-clause-err : goal.returns-in_err-number-clause-err
returns-in_err-number-clause-err c =
    on_err _
    (leaves_part c.args.out.now c.loop-act.out c.put_reads.new.out _ _ _ _ c.loop-act.invariant
    (one_act c.args.acts.now c.loop-act.act-index c.act-item.result c.loop-act.number c.loop-act-test.true c.act-item.is)
    (subst (λ (rs : List Read). AppendsPart c.loop-act.out c.put_reads.new.out (reads_from c.loop-act.number rs)) c.as_slice.ensures
    c.in_err-number.ensures.err))

pub loop-act-preserved : goal.loop-act-preserved
loop-act-preserved c =
    let next = c.in_ok-number.ensures.next ∙ ap (λ (rs : List Read). c.loop-act.number + length rs) c.as_slice.ensures in
    rw next
    (leaves_next c.args.out.now c.loop-act.out c.put_reads.new.out _ _ _ _ c.loop-act.invariant
    (c.in_ok-number.ensures.ok ∙ ap (λ (rs : List Read). c.loop-act.out ++ reads_from c.loop-act.number rs) c.as_slice.ensures)
    (one_act c.args.acts.now c.loop-act.act-index c.act-item.result c.loop-act.number c.loop-act-test.true c.act-item.is))
