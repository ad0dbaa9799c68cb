use Rattle.std.proofs.Common.{◌≡◌, ◌∙◌, ◌+◌, ◌≤◌, length, drop, subst, sym, ap, arith, rules}
use Rattle.std.proofs.lemmas.List.{take_rest}
use Rattle.std.specs.List.{prefix_len}
use Rattle.std.specs.List.Sorted.{IsPartitionedBy}
use Rattle.iot_tree.specs.Questions.{is_within}
use Rattle.iot_tree.proofs.CountLaws.{rest_parted, own_and_rest, rest_fits}
use Rattle.iot_tree.proofs.children.count_within.Goals as goal

pub front_within-requires : goal.front_within-requires
front_within-requires c =
    subst (IsPartitionedBy (is_within c.args.names.now)) (sym (take_rest c.args.rows.now (c.args.at + 1)))
    (rest_parted c.args.rows.now c.requires.rising c.args.names.now c.args.at c.requires.row)

pub returns-clause-count : goal.returns-clause-count
returns-clause-count c =
    let rest : c.front_within.result ≡ prefix_len (is_within c.args.names.now) (drop (c.args.at + 1) c.args.rows.now) =
    rw (take_rest c.args.rows.now (c.args.at + 1)) at c.front_within.ensures in
    ap (λ n. 1 + n) rest ∙ own_and_rest c.args.rows.now c.requires.rising c.args.names.now c.args.at c.requires.row

pub overflow_add-result : goal.overflow_add-result
overflow_add-result c =
    let fits : c.args.at + (1 + c.front_within.result) ≤ length c.args.rows.now =
    omega (
      arith,
      rest_fits c.args.rows.now c.requires.rising c.args.names.now c.args.at c.requires.row,
      (rw (take_rest c.args.rows.now (c.args.at + 1)) at c.front_within.ensures),
    ) in
    search rules

pub returns-clause-fits : goal.returns-clause-fits
returns-clause-fits c =
    omega (
      arith,
      rest_fits c.args.rows.now c.requires.rising c.args.names.now c.args.at c.requires.row,
      (rw (take_rest c.args.rows.now (c.args.at + 1)) at c.front_within.ensures),
    )
