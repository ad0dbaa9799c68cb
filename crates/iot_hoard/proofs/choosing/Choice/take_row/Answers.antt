use Rattle.std.proofs.Common.{◌≡◌, ◌+◌, ◌∙◌, Some, get_or, false, true, ap, arith, rules}
use Rattle.std.proofs.lemmas.List.{get_or_default}
use Rattle.iot_tree.specs.Tree.{Row}
use Rattle.iot_hoard.specs.Sizes.{bytes_in}
use Rattle.iot_hoard.proofs.ChoiceLaws.{mark_read, row_passed, row_taken, row_ends}
use Rattle.iot_hoard.proofs.choosing.Choice.take_row.Goals as goal

pub returns-then-index-clause-takes : goal.returns-then-index-clause-takes
returns-then-index-clause-takes c = λ so_far d is.
    let marked : get_or c.args.self.now.taken.items c.args.at false ≡ true =
    mark_read c.args.self.now.taken.items c.args.at c.index.result.now (omega (arith, c.requires.at, c.requires.marks)) c.index.ensures
    ∙ c.if-index.true in
    row_passed c.args.rows.now c.requires.tree c.args.at c.requires.at d so_far c.args.self.now is marked

pub returns-then-self-weight-clause-takes : goal.returns-then-self-weight-clause-takes
returns-then-self-weight-clause-takes c = λ so_far d is.
    let fresh : get_or c.args.self.now.taken.items c.args.at false ≡ false =
    mark_read c.args.self.now.taken.items c.args.at c.index.result.now (omega (arith, c.requires.at, c.requires.marks)) c.index.ensures
    ∙ c.if-index.false in
    let row = get_or_default c.args.rows.now c.args.at c.index-rows-at.result d c.requires.at in
    row_ends c.args.rows.now c.requires.tree c.args.at c.requires.at d so_far c.args.self.now is fresh c.weight-weight.result
    (c.weight-weight.ensures ∙ ap (λ (row : Row). 64 + bytes_in (Some row.1)) row) _ (omega arith) (search rules) (search rules)

pub returns-clause-takes : goal.returns-clause-takes
returns-clause-takes c = λ so_far d is.
    let fresh : get_or c.args.self.now.taken.items c.args.at false ≡ false =
    mark_read c.args.self.now.taken.items c.args.at c.index.result.now (omega (arith, c.requires.at, c.requires.marks)) c.index.ensures
    ∙ c.if-index.false in
    let row = get_or_default c.args.rows.now c.args.at c.index-rows-at.result d c.requires.at in
    row_taken c.args.rows.now c.requires.tree c.args.at c.requires.at d so_far c.args.self.now is fresh c.weight-weight.result
    (c.weight-weight.ensures ∙ ap (λ (row : Row). 64 + bytes_in (Some row.1)) row) _ c.requires.marks (omega arith) (search rules)
    (search rules)
