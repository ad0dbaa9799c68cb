use Rattle.std.proofs.Common.{◌≡◌, ◌↔◌, ◌∙◌, ◌+◌, ◌-◌, Bool, IsTrue, take, drop, false, sym, ap, refl}
use Rattle.std.specs.List.{filter_map, prefix_len}
use Rattle.iot_tree.specs.Place.{IsRowAt, IsGap}
use Rattle.iot_tree.specs.Questions.{kind_answer, is_dir, is_within, child_of}
use Rattle.iot_tree.specs.declared.questions.Answer.{Answer}
use Rattle.iot_tree.proofs.AnswerLaws.{names_of_dir, names_of_far, names_of_file, names_in_gap, file_is_no_dir}
use Rattle.iot_tree.proofs.CountLaws.{block_len, rising_block}
use Rattle.iot_tree.proofs.grown.Grown.has_names.Goals as goal

-- a test for one of two equal answers
of_equal : (test : Bool) (x y answer : Answer) → x ≡ y → (IsTrue test ↔ (x ≡ answer)) → IsTrue test ↔ (y ≡ answer)
of_equal test x y answer is tests = ((λ yes. sym is ∙ tests.0 yes), (λ same. tests.1 (is ∙ same)))

pub is_names-requires : goal.is_names-requires
is_names-requires c =
    rw c.as_slice-rows.ensures
    (rising_block c.in-Ok.at (c.in-Ok.at + c.count_within-count.result - c.in-Ok.at) c.self.inside.rows c.self.invariant.rising)

pub returns-in-Dir-clause-answers : goal.returns-in-Dir-clause-answers
returns-in-Dir-clause-answers c =
    let stands : IsRowAt c.self.inside.rows c.args.path.now c.in-Ok.at =
    rw (c.in-Ok.is, c.as_slice-rows.ensures, c.names.ensures.value) at c.place_of.ensures in
    let row = rw c.as_slice-rows.ensures at c.index-rows-at.is in
    let dir = rw c.as_slice-rows.ensures at c.in-Dir.is in
    let count = rw (c.as_slice-rows.ensures, c.names-in-Dir.ensures.value) at c.count_within-count.ensures.count in
    let tests =
    rw (c.as_slice-rows.ensures, c.names-in-Dir-2.ensures.value, block_len c.in-Ok.at c.count_within-count.result, count) at
    c.is_names.ensures in
    rw (← c.self.view_is)
    (of_equal c.is_names.result _ _ c.args.answer.now
    (names_of_dir c.self.inside.rows c.self.invariant c.args.path.now c.in-Ok.at stands c.index-rows-at.result row _
    (filter_map (child_of c.args.path.now)
    (take (prefix_len (is_within c.args.path.now) (drop c.in-Ok.at c.self.inside.rows)) (drop c.in-Ok.at c.self.inside.rows)))
    (ap (λ r. r.1) row ∙ dir) refl) tests)

pub returns-in-FarDir-clause-answers : goal.returns-in-FarDir-clause-answers
returns-in-FarDir-clause-answers c =
    let stands : IsRowAt c.self.inside.rows c.args.path.now c.in-Ok.at =
    rw (c.in-Ok.is, c.as_slice-rows.ensures, c.names.ensures.value) at c.place_of.ensures in
    let row = rw c.as_slice-rows.ensures at c.index-rows-at.is in
    let dir = rw c.as_slice-rows.ensures at c.in-FarDir.is in
    rw (← c.self.view_is)
    (of_equal c.is_answer.result _ _ c.args.answer.now
    (names_of_far c.self.inside.rows c.self.invariant c.args.path.now c.in-Ok.at stands c.index-rows-at.result row _
    (ap (λ r. r.1) row ∙ dir))
    c.is_answer.ensures)

pub returns-in-File-clause-answers : goal.returns-in-File-clause-answers
returns-in-File-clause-answers c =
    let stands : IsRowAt c.self.inside.rows c.args.path.now c.in-Ok.at =
    rw (c.in-Ok.is, c.as_slice-rows.ensures, c.names.ensures.value) at c.place_of.ensures in
    let row = rw c.as_slice-rows.ensures at c.index-rows-at.is in
    let file = rw c.as_slice-rows.ensures at c.in-File.is in
    rw (← c.self.view_is)
    (of_equal c.is_answer-in-File.result _ _ c.args.answer.now
    (names_of_file c.self.inside.rows c.self.invariant c.args.path.now c.in-Ok.at stands c.index-rows-at.result row false
    (ap (λ r. is_dir r.1) row ∙ file_is_no_dir _ file))
    c.is_answer-in-File.ensures)

pub returns-in-Err-clause-answers : goal.returns-in-Err-clause-answers
returns-in-Err-clause-answers c =
    let gap : IsGap c.self.inside.rows c.args.path.now c.in-Err.gap =
    rw (c.in-Err.is, c.as_slice-rows.ensures, c.names.ensures.value) at c.place_of.ensures in
    let kind = rw (c.as_slice-rows.ensures, c.names-in-Err.ensures.value) at c.kind_in_gap.ensures in
    rw (← c.self.view_is)
    (of_equal _ _ _ c.args.answer.now
    (ap kind_answer kind ∙ names_in_gap c.self.inside.rows c.self.invariant c.args.path.now c.in-Err.gap gap _)
    c.is_answer-in-Err.ensures)
