use Rattle.std.proofs.Common.{[], ◌∷◌, ◌++◌, codes, decimal}
use Rattle.std.proofs.lemmas.Result.{IfOk-weaker}
use Rattle.iot_text.proofs.TextsLaws.{on_err, on_err_then}
use Rattle.iot_inspect.specs.Texts.{transaction_name, class_text, running_line}
use Rattle.iot_inspect.proofs.PiecesLaws.{six_pieces, second_part, third_part, fifth_part, sixth_part, running_words}
use Rattle.iot_inspect.proofs.waiting.put_running.Goals as goal

pub returns-clause-ok : goal.returns-clause-ok
returns-clause-ok c =
    let run = c.args.run.now in
    let tid = transaction_name c.args.client.now run.tid in
    IfOk-weaker c.push-2.result _ _
    (λ _ last.
    six_pieces c.args.out.now c.append.new.self c.put_subject.new.out c.put_class.new.out c.push.new.self c.put_count.new.out
    c.push-2.new.self (codes "running ") (tid ++ 32 ∷ run.script ++ 32 ∷ []) (class_text run.first) (32 ∷ [])
    (decimal run.acts ++ codes " acts") (10 ∷ []) (running_line c.args.client.now run)
    c.in_ok-append.ensures.ok c.in_ok-put_subject.ensures.ok c.in_ok-put_class.ensures.ok c.in_ok-push.ensures.ok
    c.in_ok-put_count.ensures.ok last
    (running_words (codes "running ") tid (32 ∷ []) run.script (class_text run.first) (decimal run.acts) (codes " acts") (10 ∷ [])))
    c.push-2.ensures.ok

pub returns-in_err-put_subject-clause-err : goal.returns-in_err-put_subject-clause-err
returns-in_err-put_subject-clause-err c =
    let run = c.args.run.now in
    let tid = transaction_name c.args.client.now run.tid in
    on_err _
    (second_part c.args.out.now (codes "running ") (tid ++ 32 ∷ run.script ++ 32 ∷ []) (class_text run.first) (32 ∷ [])
    (decimal run.acts ++ codes " acts") (10 ∷ []) (running_line c.args.client.now run)
    (running_words (codes "running ") tid (32 ∷ []) run.script (class_text run.first) (decimal run.acts) (codes " acts") (10 ∷ []))
    c.append.new.self c.put_subject.new.out c.in_ok-append.ensures.ok c.in_err-put_subject.ensures.err)

pub returns-in_err-put_class-clause-err : goal.returns-in_err-put_class-clause-err
returns-in_err-put_class-clause-err c =
    let run = c.args.run.now in
    let tid = transaction_name c.args.client.now run.tid in
    on_err _
    (third_part c.args.out.now (codes "running ") (tid ++ 32 ∷ run.script ++ 32 ∷ []) (class_text run.first) (32 ∷ [])
    (decimal run.acts ++ codes " acts") (10 ∷ []) (running_line c.args.client.now run)
    (running_words (codes "running ") tid (32 ∷ []) run.script (class_text run.first) (decimal run.acts) (codes " acts") (10 ∷ []))
    c.append.new.self c.put_subject.new.out c.put_class.new.out c.in_ok-append.ensures.ok c.in_ok-put_subject.ensures.ok
    c.in_err-put_class.ensures.err)

pub returns-in_err-put_count-clause-err : goal.returns-in_err-put_count-clause-err
returns-in_err-put_count-clause-err c =
    let run = c.args.run.now in
    let tid = transaction_name c.args.client.now run.tid in
    on_err _
    (fifth_part c.args.out.now (codes "running ") (tid ++ 32 ∷ run.script ++ 32 ∷ []) (class_text run.first) (32 ∷ [])
    (decimal run.acts ++ codes " acts") (10 ∷ []) (running_line c.args.client.now run)
    (running_words (codes "running ") tid (32 ∷ []) run.script (class_text run.first) (decimal run.acts) (codes " acts") (10 ∷ []))
    c.append.new.self c.put_subject.new.out c.put_class.new.out c.push.new.self c.put_count.new.out
    c.in_ok-append.ensures.ok c.in_ok-put_subject.ensures.ok c.in_ok-put_class.ensures.ok c.in_ok-push.ensures.ok
    c.in_err-put_count.ensures.err)

pub returns-clause-err : goal.returns-clause-err
returns-clause-err c =
    let run = c.args.run.now in
    let tid = transaction_name c.args.client.now run.tid in
    on_err_then _ c.push-2.ensures.err
    (sixth_part c.args.out.now (codes "running ") (tid ++ 32 ∷ run.script ++ 32 ∷ []) (class_text run.first) (32 ∷ [])
    (decimal run.acts ++ codes " acts") (10 ∷ []) (running_line c.args.client.now run)
    (running_words (codes "running ") tid (32 ∷ []) run.script (class_text run.first) (decimal run.acts) (codes " acts") (10 ∷ []))
    c.append.new.self c.put_subject.new.out c.put_class.new.out c.push.new.self c.put_count.new.out c.push-2.new.self
    c.in_ok-append.ensures.ok c.in_ok-put_subject.ensures.ok c.in_ok-put_class.ensures.ok c.in_ok-push.ensures.ok
    c.in_ok-put_count.ensures.ok)
