use Rattle.std.proofs.Common.{◌∙◌, ap}
use Rattle.iot_tree.specs.Place.{IsGap}
use Rattle.iot_tree.specs.Questions.{kind_answer}
use Rattle.iot_views.specs.Seen.{question_seen}
use Rattle.iot_certify.specs.Asked.{path_asked}
use Rattle.iot_certify.proofs.AsksLaws.{tree_is, gap_answer}
use Rattle.iot_certify.proofs.asking.answer.Goals as goal

pub returns-in-Err : goal.returns-in-Err
returns-in-Err c =
    let is = tree_is c.args.t.now c.rows.result.now c.rows.ensures.valid c.rows.ensures.rows in
    let gap : IsGap c.rows.result.now (path_asked c.args.question.now) c.in-Err.gap =
    rw (c.in-Err.is, c.as_slice-rows.ensures, c.path_of-path.ensures) at c.place_of.ensures in
    let kind = rw (c.as_slice-rows.ensures, c.path_of-path.ensures) at c.kind_in_gap.ensures in
    let same =
    ap kind_answer kind ∙ gap_answer c.rows.result.now c.rows.ensures.valid (question_seen c.args.question.now) c.in-Err.gap gap in
    c.into_answer.ensures ∙ (rw is at same)
