use Rattle.std.proofs.Common.{◌≡◌, ℕ, List, [], ◌∷◌, ◌++◌, codes, decimal, slice_index_or, sym, ◌∙◌, append-nil}
use Rattle.std.proofs.lemmas.List.{get_or_default}
use Rattle.std.proofs.lemmas.Result.{IfOk-weaker}
use Rattle.iot_tree.specs.declared.labels.Label.{Label}
use Rattle.iot_text.proofs.TextsLaws.{on_err, on_err_then}
use Rattle.iot_inspect.specs.Texts.{line, transaction_name, way_text}
use Rattle.iot_inspect.proofs.PiecesLaws.{six_pieces, log_words, third_part, fourth_part, fifth_part, sixth_part}
use Rattle.iot_inspect.proofs.commits.put_commit.Goals as goal

-- the pieces of its line
abbrev numbered : ℕ → List ℕ
numbered number = codes "log " ++ decimal number ++ 32 ∷ []

abbrev subject : List ℕ → Label → List ℕ
subject client label = transaction_name client label.tid ++ 32 ∷ label.script ++ 32 ∷ []

abbrev whole : List ℕ → ℕ → Label → List ℕ
whole client number label = line (
    codes "log " ++ decimal number ++ 32 ∷ transaction_name client label.tid ++ 32 ∷ label.script ++ 32 ∷ way_text label.way
    )

line_is : (client : List ℕ) (number : ℕ) (label : Label)
    → ((numbered number ++ subject client label) ++ way_text label.way) ++ 10 ∷ [] ≡ whole client number label
line_is client number label =
    log_words (codes "log ") (decimal number) (32 ∷ []) (transaction_name client label.tid) label.script (way_text label.way) (10 ∷ [])

pub returns-in_err-put_numbered-clause-err : goal.returns-in_err-put_numbered-clause-err
returns-in_err-put_numbered-clause-err c =
    let client : List ℕ = slice_index_or c.args.clients.now c.args.label.now.client [] in
    on_err _
    (third_part c.args.out.now [] [] (numbered c.args.number) (subject client c.args.label.now) (way_text c.args.label.now.way) (10 ∷ []) _
    (line_is client c.args.number c.args.label.now)
    c.args.out.now c.args.out.now c.put_numbered.new.out (sym (append-nil c.args.out.now)) (sym (append-nil c.args.out.now))
    c.in_err-put_numbered.ensures.err)

pub returns-in_err-put_subject-clause-err : goal.returns-in_err-put_subject-clause-err
returns-in_err-put_subject-clause-err c =
    let named : c.index-clients-label.result ≡ slice_index_or c.args.clients.now c.args.label.now.client [] =
    c.index-clients-label.is ∙ get_or_default c.args.clients.now c.args.label.now.client c.index-clients-label.result [] c.requires in
    rw (← named)
    (on_err _
    (fourth_part c.args.out.now [] [] (numbered c.args.number) (subject c.index-clients-label.result c.args.label.now)
    (way_text c.args.label.now.way)
    (10 ∷ []) _ (line_is c.index-clients-label.result c.args.number c.args.label.now)
    c.args.out.now c.args.out.now c.put_numbered.new.out c.put_subject.new.out (sym (append-nil c.args.out.now))
    (sym (append-nil c.args.out.now))
    c.in_ok-put_numbered.ensures.ok c.in_err-put_subject.ensures.err))

pub returns-in_err-put_way-clause-err : goal.returns-in_err-put_way-clause-err
returns-in_err-put_way-clause-err c =
    let named : c.index-clients-label.result ≡ slice_index_or c.args.clients.now c.args.label.now.client [] =
    c.index-clients-label.is ∙ get_or_default c.args.clients.now c.args.label.now.client c.index-clients-label.result [] c.requires in
    rw (← named)
    (on_err _
    (fifth_part c.args.out.now [] [] (numbered c.args.number) (subject c.index-clients-label.result c.args.label.now)
    (way_text c.args.label.now.way)
    (10 ∷ []) _ (line_is c.index-clients-label.result c.args.number c.args.label.now)
    c.args.out.now c.args.out.now c.put_numbered.new.out c.put_subject.new.out c.put_way.new.out (sym (append-nil c.args.out.now))
    (sym (append-nil c.args.out.now))
    c.in_ok-put_numbered.ensures.ok c.in_ok-put_subject.ensures.ok c.in_err-put_way.ensures.err))

pub returns-clause-ok : goal.returns-clause-ok
returns-clause-ok c =
    let named : c.index-clients-label.result ≡ slice_index_or c.args.clients.now c.args.label.now.client [] =
    c.index-clients-label.is ∙ get_or_default c.args.clients.now c.args.label.now.client c.index-clients-label.result [] c.requires in
    rw (← named)
    (IfOk-weaker c.push.result _ _
    (λ _ last.
    six_pieces c.args.out.now c.args.out.now c.args.out.now c.put_numbered.new.out c.put_subject.new.out c.put_way.new.out c.push.new.self
    [] []
    (numbered c.args.number) (subject c.index-clients-label.result c.args.label.now) (way_text c.args.label.now.way) (10 ∷ [])
    (whole c.index-clients-label.result c.args.number c.args.label.now) (sym (append-nil c.args.out.now)) (sym (append-nil c.args.out.now))
    c.in_ok-put_numbered.ensures.ok c.in_ok-put_subject.ensures.ok c.in_ok-put_way.ensures.ok last
    (line_is c.index-clients-label.result c.args.number c.args.label.now))
    c.push.ensures.ok)

pub returns-clause-err : goal.returns-clause-err
returns-clause-err c =
    let named : c.index-clients-label.result ≡ slice_index_or c.args.clients.now c.args.label.now.client [] =
    c.index-clients-label.is ∙ get_or_default c.args.clients.now c.args.label.now.client c.index-clients-label.result [] c.requires in
    rw (← named)
    (on_err_then _ c.push.ensures.err
    (sixth_part c.args.out.now [] [] (numbered c.args.number) (subject c.index-clients-label.result c.args.label.now)
    (way_text c.args.label.now.way)
    (10 ∷ []) _ (line_is c.index-clients-label.result c.args.number c.args.label.now)
    c.args.out.now c.args.out.now c.put_numbered.new.out c.put_subject.new.out c.put_way.new.out c.push.new.self
    (sym (append-nil c.args.out.now)) (sym (append-nil c.args.out.now))
    c.in_ok-put_numbered.ensures.ok c.in_ok-put_subject.ensures.ok c.in_ok-put_way.ensures.ok))
