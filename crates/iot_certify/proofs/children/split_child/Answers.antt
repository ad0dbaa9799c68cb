use Rattle.std.proofs.Common.{◌≡◌, ◌∙◌, ◌+◌, ◌∷◌, List, drop, subst, sym, ap, arith}
use Rattle.std.proofs.lemmas.List.{take_rest, length-drop}
use Rattle.std.specs.List.{filter_map, prefix_len}
use Rattle.iot_tree.specs.Place.{IsRowAt}
use Rattle.iot_tree.specs.Questions.{is_within, child_of}
use Rattle.iot_tree.specs.Rows.{Rising}
use Rattle.iot_tree.specs.Tree.{Row}
use Rattle.iot_tree.proofs.ChildLaws.{child_first, child_later}
use Rattle.iot_tree.proofs.CountLaws.{own_row, own_counts, rising_drop}
use Rattle.iot_certify.proofs.children.split_child.Goals as goal

pub rows-preserved : goal.rows-preserved
rows-preserved c =
    c.rows.invariant
    ∙ child_later c.args.names.now c.args.rows.now c.rows.at c.index-rows-at.result c.rows-test.true c.index-rows-at.is
    (sym c.child_of.ensures ∙ c.in_default.is)

pub count_within-count-requires-clause-row : goal.count_within-count-requires-clause-row
count_within-count-requires-clause-row c =
    subst (λ path. IsRowAt c.args.rows.now path c.rows.at) (sym c.names.ensures.value)
    (own_row c.args.rows.now c.requires c.rows.at c.index-rows-at.result c.rows-test.true c.index-rows-at.is)

pub returns-in-Some-clause-children : goal.returns-in-Some-clause-children
returns-in-Some-clause-children c =
    let count : c.count_within-count.result ≡ prefix_len (is_within c.index-rows-at.result.0) (drop c.rows.at c.args.rows.now) =
    rw c.names.ensures.value at c.count_within-count.ensures.count in
    c.rows.invariant
    ∙ child_first c.args.names.now c.args.rows.now c.requires c.rows.at c.index-rows-at.result c.rows-test.true c.index-rows-at.is
    c.in-Some.child (sym c.child_of.ensures ∙ c.in-Some.is)
    ∙ ap (λ n. c.in-Some.child ∷ filter_map (child_of c.args.names.now) (drop (c.rows.at + n) c.args.rows.now)) (sym count)
    ∙ ap (λ (rest : List Row). c.in-Some.child ∷ filter_map (child_of c.args.names.now) rest)
    (sym (take_rest c.args.rows.now (c.rows.at + c.count_within-count.result)))

pub returns-in-Some-clause-rising : goal.returns-in-Some-clause-rising
returns-in-Some-clause-rising c =
    subst Rising (sym (take_rest c.args.rows.now (c.rows.at + c.count_within-count.result)))
    (rising_drop (c.rows.at + c.count_within-count.result) c.args.rows.now c.requires)

pub returns-in-Some-clause-fewer : goal.returns-in-Some-clause-fewer
returns-in-Some-clause-fewer c =
    let count : c.count_within-count.result ≡ prefix_len (is_within c.index-rows-at.result.0) (drop c.rows.at c.args.rows.now) =
    rw c.names.ensures.value at c.count_within-count.ensures.count in
    let own =
    own_counts c.args.rows.now c.requires c.index-rows-at.result.0 c.rows.at
    (own_row c.args.rows.now c.requires c.rows.at c.index-rows-at.result c.rows-test.true c.index-rows-at.is) in
    rw (take_rest c.args.rows.now (c.rows.at + c.count_within-count.result))
    (omega (arith, count, own, c.rows-test.true, length-drop (c.rows.at + c.count_within-count.result) c.args.rows.now))
