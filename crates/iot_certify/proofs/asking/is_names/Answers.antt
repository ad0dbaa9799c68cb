use Rattle.std.proofs.Common.{◌≡◌, ◌∙◌, ◌+◌, ◌-◌, take, drop, false, refl, sym, subst, ap}
use Rattle.std.specs.List.{filter_map, prefix_len}
use Rattle.iot_tree.specs.Place.{IsRowAt}
use Rattle.iot_tree.specs.Questions.{is_dir, is_within, child_of}
use Rattle.iot_tree.proofs.AnswerLaws.{names_of_dir, names_of_far, names_of_file, file_is_no_dir}
use Rattle.iot_tree.proofs.CountLaws.{block_len, rising_block}
use Rattle.iot_views.specs.Seen.{answer_seen}
use Rattle.iot_certify.proofs.AsksLaws.{of_equal}
use Rattle.iot_certify.proofs.asking.is_names.Goals as goal

pub count_within-count-requires-clause-row : goal.count_within-count-requires-clause-row
count_within-count-requires-clause-row c =
    let path_is : c.names-names.result.now ≡ c.args.path.now =
    c.names-names.ensures.value ∙ c.requires.row.here c.index-rows-at-in-Dir.result in
    subst (λ path. IsRowAt c.args.rows.now path c.args.at) (sym path_is) c.requires.row

pub is_listed-requires : goal.is_listed-requires
is_listed-requires c =
    rising_block c.args.at (c.args.at + c.count_within-count.result - c.args.at) c.args.rows.now c.requires.tree.rising

pub returns-in-Dir : goal.returns-in-Dir
returns-in-Dir c =
    let path_is : c.names-names.result.now ≡ c.args.path.now =
    c.names-names.ensures.value ∙ c.requires.row.here c.index-rows-at-in-Dir.result in
    let count = rw path_is at c.count_within-count.ensures.count in
    let tests = rw (path_is, block_len c.args.at c.count_within-count.result, count) at c.is_listed.ensures in
    of_equal c.is_listed.result _ _ (answer_seen c.args.answer.now)
    (names_of_dir c.args.rows.now c.requires.tree c.args.path.now c.args.at c.requires.row c.index-rows-at.result c.index-rows-at.is _
    (filter_map (child_of c.args.path.now)
    (take (prefix_len (is_within c.args.path.now) (drop c.args.at c.args.rows.now)) (drop c.args.at c.args.rows.now)))
    (ap (λ r. r.1) c.index-rows-at.is ∙ c.in-Dir.is) refl) tests

pub returns-in-FarDir : goal.returns-in-FarDir
returns-in-FarDir c =
    of_equal c.is_kind.result _ _ (answer_seen c.args.answer.now)
    (names_of_far c.args.rows.now c.requires.tree c.args.path.now c.args.at c.requires.row c.index-rows-at.result c.index-rows-at.is _
    (ap (λ r. r.1) c.index-rows-at.is ∙ c.in-FarDir.is))
    c.is_kind.ensures

pub returns-in-File : goal.returns-in-File
returns-in-File c =
    of_equal c.is_kind-in-File.result _ _ (answer_seen c.args.answer.now)
    (names_of_file c.args.rows.now c.requires.tree c.args.path.now c.args.at c.requires.row c.index-rows-at.result c.index-rows-at.is
    false (ap (λ r. is_dir r.1) c.index-rows-at.is ∙ file_is_no_dir _ c.in-File.is))
    c.is_kind-in-File.ensures
