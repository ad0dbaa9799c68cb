use Rattle.iot_store.proofs.RowsLaws.{fit_count}
use Rattle.iot_store.proofs.body.are_stamps.Goals as goal

pub returns-then-stamps-rows : goal.returns-then-stamps-rows
returns-then-stamps-rows c = (
  (λ is. absurd cc),
  (λ fit. absurd (c.if-stamps-rows.true (fit_count c.args.rows.now c.args.stamps.now c.args.commits fit))),
)
