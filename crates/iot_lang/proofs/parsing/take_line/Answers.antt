use Rattle.std.proofs.Common.{rules, ap, ◌∙◌, Some}
use Rattle.std.proofs.lemmas.Result.{on_ok_weaker, err_from_is_err_and}
use Rattle.iot_lang.proofs.NestingLaws.{moved, stuck, too_deep}
use Rattle.iot_lang.proofs.ScriptsLaws.{says_line, refused_line}
use Rattle.iot_lang.proofs.parsing.take_line.Goals as goal

pub returns-in_err-line-clause-bad : goal.returns-in_err-line-clause-bad
returns-in_err-line-clause-bad c = λ e texts h. let p = err_from_is_err_and c.from_residual.result c.from_residual.ensures.1 in
    refused_line c.in_err-line.field-0.0 texts c.args.text.now (search (rules, p, e)) c.in_err-line.ensures

pub returns-in-Some-clause-ok : goal.returns-in-Some-clause-ok
returns-in-Some-clause-ok c =
    on_ok_weaker c.take.result
    (λ m texts h. moved c.args.nesting.now c.take.new.self c.args.text.now c.in-Some.line texts
    (says_line c.args.text.now c.in-Some.line (c.in_ok-line.ensures ∙ ap Some c.in-Some.is)) m h)
    c.take.ensures.moves

pub returns-in-Some-clause-bad : goal.returns-in-Some-clause-bad
returns-in-Some-clause-bad c =
    λ e texts h. stuck c.args.nesting.now c.args.text.now c.in-Some.line texts
    (says_line c.args.text.now c.in-Some.line (c.in_ok-line.ensures ∙ ap Some c.in-Some.is)) (c.take.ensures.bad e) h

pub returns-in-Some-clause-deep : goal.returns-in-Some-clause-deep
returns-in-Some-clause-deep c =
    λ e texts h. too_deep c.args.nesting.now c.args.text.now c.in-Some.line texts
    (says_line c.args.text.now c.in-Some.line (c.in_ok-line.ensures ∙ ap Some c.in-Some.is)) (c.take.ensures.deep e) h
