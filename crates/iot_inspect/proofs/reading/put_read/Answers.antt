use Rattle.std.proofs.Common.{[], ◌∷◌, ◌++◌, codes, decimal, sym, append-nil}
use Rattle.iot_text.proofs.TextsLaws.{on_err}
use Rattle.iot_inspect.specs.Texts.{question_text, answer_text}
use Rattle.iot_inspect.proofs.PiecesLaws.{read_words, second_part, third_part, fifth_part}
use Rattle.iot_inspect.proofs.reading.put_read.Goals as goal

pub returns-in_err-put_numbered-clause-err : goal.returns-in_err-put_numbered-clause-err
returns-in_err-put_numbered-clause-err c =
    on_err _
    (second_part c.args.out.now [] (codes "read " ++ decimal c.args.number ++ 32 ∷ []) (question_text c.args.read.now.question)
    (codes " = ")
    (answer_text c.args.read.now.answer) (10 ∷ []) _
    (read_words (codes "read ") (decimal c.args.number) (32 ∷ []) (question_text c.args.read.now.question) (codes " = ")
    (answer_text c.args.read.now.answer) (10 ∷ []))
    c.args.out.now c.put_numbered.new.out (sym (append-nil c.args.out.now)) c.in_err-put_numbered.ensures.err)

pub returns-in_err-put_question-clause-err : goal.returns-in_err-put_question-clause-err
returns-in_err-put_question-clause-err c =
    on_err _
    (third_part c.args.out.now [] (codes "read " ++ decimal c.args.number ++ 32 ∷ []) (question_text c.args.read.now.question) (codes " = ")
    (answer_text c.args.read.now.answer) (10 ∷ []) _
    (read_words (codes "read ") (decimal c.args.number) (32 ∷ []) (question_text c.args.read.now.question) (codes " = ")
    (answer_text c.args.read.now.answer) (10 ∷ []))
    c.args.out.now c.put_numbered.new.out c.put_question.new.out (sym (append-nil c.args.out.now)) c.in_ok-put_numbered.ensures.ok
    c.in_err-put_question.ensures.err)

pub returns-in_err-put_answer-clause-err : goal.returns-in_err-put_answer-clause-err
returns-in_err-put_answer-clause-err c =
    on_err _
    (fifth_part c.args.out.now [] (codes "read " ++ decimal c.args.number ++ 32 ∷ []) (question_text c.args.read.now.question) (codes " = ")
    (answer_text c.args.read.now.answer) (10 ∷ []) _
    (read_words (codes "read ") (decimal c.args.number) (32 ∷ []) (question_text c.args.read.now.question) (codes " = ")
    (answer_text c.args.read.now.answer) (10 ∷ []))
    c.args.out.now c.put_numbered.new.out c.put_question.new.out c.append.new.self c.put_answer.new.out (sym (append-nil c.args.out.now))
    c.in_ok-put_numbered.ensures.ok c.in_ok-put_question.ensures.ok c.in_ok-append.ensures.ok c.in_err-put_answer.ensures.err)
