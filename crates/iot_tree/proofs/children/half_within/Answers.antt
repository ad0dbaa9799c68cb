use Rattle.std.proofs.Common.{◌≤◌, ◌∙◌, ◌*◌, length, sym, ap, arith, rules}
use Rattle.std.proofs.lemmas.List.Sums.{prefix_len-le-length}
use Rattle.iot_tree.specs.Questions.{is_within}
use Rattle.iot_tree.proofs.CountLaws.{in_front, not_in_front}
use Rattle.iot_tree.proofs.children.half_within.Goals as goal

pub overflow_mul-known : goal.overflow_mul-known
overflow_mul-known c =
    let known : c.doubling.known ≤ length c.args.rows.now =
    omega (arith, c.doubling.invariant, prefix_len-le-length (is_within c.args.names.now) c.args.rows.now) in
    search rules

pub doubling-preserved : goal.doubling-preserved
doubling-preserved c =
    let passes = ap (is_within c.args.names.now) (sym c.index-rows-known.is) ∙ sym c.is_within.ensures ∙ c.if-is_within.true in
    omega (
      arith,
      in_front (is_within c.args.names.now) c.args.rows.now c.requires (2 * c.doubling.known) c.index-rows-known.result c.doubling-test.true
          passes,
    )

pub returns-else-is_within-clause-half : goal.returns-else-is_within-clause-half
returns-else-is_within-clause-half c =
    not_in_front (is_within c.args.names.now) c.args.rows.now (2 * c.doubling.known) c.index-rows-known.result
    (ap (is_within c.args.names.now) (sym c.index-rows-known.is) ∙ sym c.is_within.ensures ∙ c.if-is_within.false)

pub returns-after-doubling-clause-half : goal.returns-after-doubling-clause-half
returns-after-doubling-clause-half c =
    omega (arith, prefix_len-le-length (is_within c.args.names.now) c.args.rows.now)
