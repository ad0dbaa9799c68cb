use Rattle.std.proofs.Common.{sym, ap, ◌∙◌}
use Rattle.iot_tree.specs.Place.{IsRowAt, IsGap}
use Rattle.iot_tree.specs.Questions.{kind_answer}
use Rattle.iot_tree.proofs.AnswerLaws.{mode_here, mode_in_gap}
use Rattle.iot_tree.proofs.grown.Grown.has_mode.Goals as goal

pub returns-in-Ok-clause-answers : goal.returns-in-Ok-clause-answers
returns-in-Ok-clause-answers c =
    let stands : IsRowAt c.self.inside.rows c.args.path.now c.in-Ok.at =
    rw (c.in-Ok.is, c.as_slice-rows.ensures, c.names.ensures.value) at c.place_of.ensures in
    let answer = rw c.as_slice-rows.ensures at c.has_mode.ensures in
    rw (← c.self.view_is, mode_here c.self.inside.rows c.self.invariant c.args.path.now c.in-Ok.at stands c.index-rows-at.result) answer

pub returns-in-Err-clause-answers : goal.returns-in-Err-clause-answers
returns-in-Err-clause-answers c =
    let gap : IsGap c.self.inside.rows c.args.path.now c.in-Err.gap =
    rw (c.in-Err.is, c.as_slice-rows.ensures, c.names.ensures.value) at c.place_of.ensures in
    let kind = rw (c.as_slice-rows.ensures, c.names-in-Err.ensures.value) at c.kind_in_gap.ensures in
    let is = ap kind_answer kind ∙ sym (mode_in_gap c.self.inside.rows c.self.invariant c.args.path.now c.in-Err.gap gap) in
    rw (← c.self.view_is) ((λ yes. sym is ∙ c.is_answer.ensures.0 yes), (λ same. c.is_answer.ensures.1 (is ∙ same)))
