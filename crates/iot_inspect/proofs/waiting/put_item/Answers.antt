use Rattle.std.proofs.Common.{[], ◌∷◌, ◌++◌, length, codes, decimal, ℕ, ap, subst, ◌∙◌}
use Rattle.std.proofs.lemmas.Result.{IfOk-weaker}
use Rattle.iot_text.specs.Texts.{AppendsPart}
use Rattle.iot_text.proofs.TextsLaws.{on_err, on_err_then}
use Rattle.iot_inspect.specs.Texts.{transaction_name, option_text, stage_text, cut_text, item_line}
use Rattle.iot_inspect.proofs.PiecesLaws.{six_pieces, second_part, third_part, fourth_part, fifth_part, sixth_part, item_words}
use Rattle.iot_inspect.proofs.waiting.put_item.Goals as goal

pub returns-clause-ok : goal.returns-clause-ok
returns-clause-ok c =
    let item = c.args.item.now in
    let tid = transaction_name c.args.client.now item.tid in
    IfOk-weaker c.push.result _ _
    (λ _ last.
    six_pieces c.args.out.now c.append.new.self c.put_subject.new.out c.put_state.new.out c.put_count.new.out c.put_cut.new.out
    c.push.new.self (codes "item ") (tid ++ 32 ∷ item.script ++ 32 ∷ []) (option_text item.option ++ 32 ∷ stage_text item.stage ++ 32 ∷ [])
    (decimal (length item.acts) ++ codes " acts") (cut_text item.budget) (10 ∷ []) (item_line c.args.client.now item)
    c.in_ok-append.ensures.ok c.in_ok-put_subject.ensures.ok c.in_ok-put_state.ensures.ok
    (c.in_ok-put_count.ensures.ok ∙ ap (λ (n : ℕ). c.put_state.new.out ++ (decimal n ++ codes " acts")) c.len.ensures)
    c.in_ok-put_cut.ensures.ok last
    (item_words (codes "item ") tid (32 ∷ []) item.script (option_text item.option) (stage_text item.stage) (decimal (length item.acts))
    (codes " acts") (cut_text item.budget) (10 ∷ [])))
    c.push.ensures.ok

pub returns-in_err-put_subject-clause-err : goal.returns-in_err-put_subject-clause-err
returns-in_err-put_subject-clause-err c =
    let item = c.args.item.now in
    let tid = transaction_name c.args.client.now item.tid in
    on_err _
    (second_part c.args.out.now (codes "item ") (tid ++ 32 ∷ item.script ++ 32 ∷ []) (option_text item.option ++ 32 ∷ stage_text
    item.stage ++ 32 ∷ [])
    (decimal (length item.acts) ++ codes " acts") (cut_text item.budget) (10 ∷ []) (item_line c.args.client.now item)
    (item_words (codes "item ") tid (32 ∷ []) item.script (option_text item.option) (stage_text item.stage) (decimal (length item.acts))
    (codes " acts") (cut_text item.budget) (10 ∷ []))
    c.append.new.self c.put_subject.new.out c.in_ok-append.ensures.ok c.in_err-put_subject.ensures.err)

pub returns-in_err-put_state-clause-err : goal.returns-in_err-put_state-clause-err
returns-in_err-put_state-clause-err c =
    let item = c.args.item.now in
    let tid = transaction_name c.args.client.now item.tid in
    on_err _
    (third_part c.args.out.now (codes "item ") (tid ++ 32 ∷ item.script ++ 32 ∷ []) (option_text item.option ++ 32 ∷ stage_text item.stage
    ++ 32 ∷ [])
    (decimal (length item.acts) ++ codes " acts") (cut_text item.budget) (10 ∷ []) (item_line c.args.client.now item)
    (item_words (codes "item ") tid (32 ∷ []) item.script (option_text item.option) (stage_text item.stage) (decimal (length item.acts))
    (codes " acts") (cut_text item.budget) (10 ∷ []))
    c.append.new.self c.put_subject.new.out c.put_state.new.out c.in_ok-append.ensures.ok c.in_ok-put_subject.ensures.ok
    c.in_err-put_state.ensures.err)

pub returns-in_err-put_count-clause-err : goal.returns-in_err-put_count-clause-err
returns-in_err-put_count-clause-err c =
    let item = c.args.item.now in
    let tid = transaction_name c.args.client.now item.tid in
    on_err _
    (fourth_part c.args.out.now (codes "item ") (tid ++ 32 ∷ item.script ++ 32 ∷ []) (option_text item.option ++ 32 ∷ stage_text
    item.stage ++ 32 ∷ [])
    (decimal (length item.acts) ++ codes " acts") (cut_text item.budget) (10 ∷ []) (item_line c.args.client.now item)
    (item_words (codes "item ") tid (32 ∷ []) item.script (option_text item.option) (stage_text item.stage) (decimal (length item.acts))
    (codes " acts") (cut_text item.budget) (10 ∷ []))
    c.append.new.self c.put_subject.new.out c.put_state.new.out c.put_count.new.out
    c.in_ok-append.ensures.ok c.in_ok-put_subject.ensures.ok c.in_ok-put_state.ensures.ok
    (subst (λ (n : ℕ). AppendsPart c.put_state.new.out c.put_count.new.out (decimal n ++ codes " acts")) c.len.ensures
    c.in_err-put_count.ensures.err))

pub returns-in_err-put_cut-clause-err : goal.returns-in_err-put_cut-clause-err
returns-in_err-put_cut-clause-err c =
    let item = c.args.item.now in
    let tid = transaction_name c.args.client.now item.tid in
    on_err _
    (fifth_part c.args.out.now (codes "item ") (tid ++ 32 ∷ item.script ++ 32 ∷ []) (option_text item.option ++ 32 ∷ stage_text item.stage
    ++ 32 ∷ [])
    (decimal (length item.acts) ++ codes " acts") (cut_text item.budget) (10 ∷ []) (item_line c.args.client.now item)
    (item_words (codes "item ") tid (32 ∷ []) item.script (option_text item.option) (stage_text item.stage) (decimal (length item.acts))
    (codes " acts") (cut_text item.budget) (10 ∷ []))
    c.append.new.self c.put_subject.new.out c.put_state.new.out c.put_count.new.out c.put_cut.new.out
    c.in_ok-append.ensures.ok c.in_ok-put_subject.ensures.ok c.in_ok-put_state.ensures.ok
    (c.in_ok-put_count.ensures.ok ∙ ap (λ (n : ℕ). c.put_state.new.out ++ (decimal n ++ codes " acts")) c.len.ensures)
    c.in_err-put_cut.ensures.err)

pub returns-clause-err : goal.returns-clause-err
returns-clause-err c =
    let item = c.args.item.now in
    let tid = transaction_name c.args.client.now item.tid in
    on_err_then _ c.push.ensures.err
    (sixth_part c.args.out.now (codes "item ") (tid ++ 32 ∷ item.script ++ 32 ∷ []) (option_text item.option ++ 32 ∷ stage_text item.stage
    ++ 32 ∷ [])
    (decimal (length item.acts) ++ codes " acts") (cut_text item.budget) (10 ∷ []) (item_line c.args.client.now item)
    (item_words (codes "item ") tid (32 ∷ []) item.script (option_text item.option) (stage_text item.stage) (decimal (length item.acts))
    (codes " acts") (cut_text item.budget) (10 ∷ []))
    c.append.new.self c.put_subject.new.out c.put_state.new.out c.put_count.new.out c.put_cut.new.out c.push.new.self
    c.in_ok-append.ensures.ok c.in_ok-put_subject.ensures.ok c.in_ok-put_state.ensures.ok
    (c.in_ok-put_count.ensures.ok ∙ ap (λ (n : ℕ). c.put_state.new.out ++ (decimal n ++ codes " acts")) c.len.ensures)
    c.in_ok-put_cut.ensures.ok)
