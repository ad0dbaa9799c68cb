use Rattle.std.proofs.Common.{◌∙◌, ◌+◌, ◌-◌, false, ap}
use Rattle.iot_tree.specs.Place.{IsRowAt, IsGap}
use Rattle.iot_tree.specs.Questions.{kind_answer, is_dir}
use Rattle.iot_tree.proofs.AnswerLaws.{names_of_dir, names_of_far, names_of_file, names_in_gap, file_is_no_dir}
use Rattle.iot_tree.proofs.CountLaws.{block_len, rising_block}
use Rattle.iot_tree.proofs.grown.Grown.names_answer.Goals as goal

pub children_of-requires : goal.children_of-requires
children_of-requires c =
    rw c.as_slice-rows.ensures
    (rising_block c.in-Ok.at (c.in-Ok.at + c.count_within-count.result - c.in-Ok.at) c.self.inside.rows c.self.invariant.rising)

pub returns-in_ok-children_of-in-Dir-clause-answer : goal.returns-in_ok-children_of-in-Dir-clause-answer
returns-in_ok-children_of-in-Dir-clause-answer c =
    let stands : IsRowAt c.self.inside.rows c.args.path.now c.in-Ok.at =
    rw (c.in-Ok.is, c.as_slice-rows.ensures, c.names.ensures.value) at c.place_of.ensures in
    let row = rw c.as_slice-rows.ensures at c.index-rows-at.is in
    let dir = rw c.as_slice-rows.ensures at c.in-Dir.is in
    let count = rw (c.as_slice-rows.ensures, c.names-in-Dir.ensures.value) at c.count_within-count.ensures.count in
    let kids =
    rw (c.as_slice-rows.ensures, c.names-in-Dir-2.ensures.value, block_len c.in-Ok.at c.count_within-count.result, count) at
    c.in_ok-children_of-in-Dir.ensures in
    rw (← c.self.view_is)
    (names_of_dir c.self.inside.rows c.self.invariant c.args.path.now c.in-Ok.at stands c.index-rows-at.result row _
    c.in_ok-children_of-in-Dir.field-0 (ap (λ r. r.1) row ∙ dir) kids)

pub returns-in-FarDir-clause-answer : goal.returns-in-FarDir-clause-answer
returns-in-FarDir-clause-answer c =
    let stands : IsRowAt c.self.inside.rows c.args.path.now c.in-Ok.at =
    rw (c.in-Ok.is, c.as_slice-rows.ensures, c.names.ensures.value) at c.place_of.ensures in
    let row = rw c.as_slice-rows.ensures at c.index-rows-at.is in
    let dir = rw c.as_slice-rows.ensures at c.in-FarDir.is in
    rw (← c.self.view_is)
    (names_of_far c.self.inside.rows c.self.invariant c.args.path.now c.in-Ok.at stands c.index-rows-at.result row _
    (ap (λ r. r.1) row ∙ dir))

pub returns-in-File-clause-answer : goal.returns-in-File-clause-answer
returns-in-File-clause-answer c =
    let stands : IsRowAt c.self.inside.rows c.args.path.now c.in-Ok.at =
    rw (c.in-Ok.is, c.as_slice-rows.ensures, c.names.ensures.value) at c.place_of.ensures in
    let row = rw c.as_slice-rows.ensures at c.index-rows-at.is in
    let file = rw c.as_slice-rows.ensures at c.in-File.is in
    rw (← c.self.view_is)
    (names_of_file c.self.inside.rows c.self.invariant c.args.path.now c.in-Ok.at stands c.index-rows-at.result row false
    (ap (λ r. is_dir r.1) row ∙ file_is_no_dir _ file))

pub returns-in-Err-clause-answer : goal.returns-in-Err-clause-answer
returns-in-Err-clause-answer c =
    let gap : IsGap c.self.inside.rows c.args.path.now c.in-Err.gap =
    rw (c.in-Err.is, c.as_slice-rows.ensures, c.names.ensures.value) at c.place_of.ensures in
    let kind = rw (c.as_slice-rows.ensures, c.names-in-Err.ensures.value) at c.kind_in_gap.ensures in
    rw (← c.self.view_is)
    (c.into_answer.ensures ∙ ap kind_answer kind ∙ names_in_gap c.self.inside.rows c.self.invariant c.args.path.now c.in-Err.gap gap _)
