use Rattle.std.proofs.Common.{sym, ap, ◌∙◌}
use Rattle.iot_tree.specs.Place.{IsRowAt, IsGap}
use Rattle.iot_tree.specs.Questions.{kind_answer}
use Rattle.iot_tree.proofs.AnswerLaws.{mode_here, mode_in_gap}
use Rattle.iot_tree.proofs.grown.Grown.mode_answer.Goals as goal

pub returns-in-Ok-clause-answer : goal.returns-in-Ok-clause-answer
returns-in-Ok-clause-answer c =
    let stands : IsRowAt c.self.inside.rows c.args.path.now c.in-Ok.at =
    rw (c.in-Ok.is, c.as_slice-rows.ensures, c.names.ensures.value) at c.place_of.ensures in
    let answer = rw c.as_slice-rows.ensures at c.mode_answer.ensures in
    rw (← c.self.view_is, mode_here c.self.inside.rows c.self.invariant c.args.path.now c.in-Ok.at stands c.index-rows-at.result) answer

pub returns-in-Err-clause-answer : goal.returns-in-Err-clause-answer
returns-in-Err-clause-answer c =
    let gap : IsGap c.self.inside.rows c.args.path.now c.in-Err.gap =
    rw (c.in-Err.is, c.as_slice-rows.ensures, c.names.ensures.value) at c.place_of.ensures in
    let kind = rw (c.as_slice-rows.ensures, c.names-in-Err.ensures.value) at c.kind_in_gap.ensures in
    rw (← c.self.view_is)
    (c.into_answer.ensures ∙ ap kind_answer kind
    ∙ sym (mode_in_gap c.self.inside.rows c.self.invariant c.args.path.now c.in-Err.gap gap))
