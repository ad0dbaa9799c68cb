use Rattle.std.proofs.Common.{◌∙◌, sym, ap}
use Rattle.iot_tree.specs.Place.{IsRowAt}
use Rattle.iot_tree.specs.Questions.{kind_answer}
use Rattle.iot_tree.proofs.AnswerLaws.{kind_here, content_here, mode_here}
use Rattle.iot_views.specs.Seen.{answer_seen}
use Rattle.iot_certify.proofs.AsksLaws.{of_equal}
use Rattle.iot_certify.proofs.asking.row_answers.Goals as goal

pub returns-in-Kind : goal.returns-in-Kind
returns-in-Kind c =
    let stands : IsRowAt c.args.rows.now c.in-Kind.field-0 c.args.at = rw c.in-Kind.is at c.requires.row in
    let is = kind_here c.args.rows.now c.requires.tree c.in-Kind.field-0 c.args.at stands c.index-rows-at.result in
    rw c.in-Kind.is
    (of_equal c.is_kind.result _ _ (answer_seen c.args.answer.now) (ap kind_answer (c.kind.ensures ∙ sym is)) c.is_kind.ensures)

pub returns-in-Content : goal.returns-in-Content
returns-in-Content c =
    let stands : IsRowAt c.args.rows.now c.in-Content.field-0 c.args.at = rw c.in-Content.is at c.requires.row in
    let is = content_here c.args.rows.now c.requires.tree c.in-Content.field-0 c.args.at stands c.index-rows-at-in-Content.result in
    rw c.in-Content.is (of_equal c.is_content.result _ _ (answer_seen c.args.answer.now) (sym is) c.is_content.ensures)

pub returns-in-Mode : goal.returns-in-Mode
returns-in-Mode c =
    let stands : IsRowAt c.args.rows.now c.in-Mode.field-0 c.args.at = rw c.in-Mode.is at c.requires.row in
    let is = mode_here c.args.rows.now c.requires.tree c.in-Mode.field-0 c.args.at stands c.index-rows-at-in-Mode.result in
    rw c.in-Mode.is (of_equal c.is_mode.result _ _ (answer_seen c.args.answer.now) (sym is) c.is_mode.ensures)
