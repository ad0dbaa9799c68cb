use Rattle.std.proofs.Common.{◌∙◌}
use Rattle.iot_tree.specs.Snapshots.{has}
use Rattle.iot_hoard.proofs.ChoiceLaws.{path_left, path_out, row_marked}
use Rattle.iot_hoard.proofs.choosing.Choice.paths.Goals as goal
use Rattle.iot_hoard.proofs.choosing.Choice.paths.Goals.{then-index+in_ok-copy+in_ok-push, else-index}

pub rows-preserved : goal.rows-preserved
rows-preserved c = λ so_far is.
    let marked = row_marked c.args.rows.now so_far c.args.self.now is c.rows.at c.index-rows-at.result c.rows-test.true c.index-rows-at.is
    c.index.result.now c.requires c.index.ensures in
    elim c.if-index.branch [
      | then-index+in_ok-copy+in_ok-push w ↦
          w.paths-is
          ∙ path_out c.args.rows.now (has so_far.paths) c.rows.at c.index-rows-at.result c.rows-test.true c.index-rows-at.is c.rows.paths
          (c.rows.invariant so_far is) _ _ (marked ∙ w.if-index.true) w.in_ok-copy.ensures w.in_ok-push.ensures.ok
      | else-index w ↦
          w.paths-is
          ∙ path_left c.args.rows.now (has so_far.paths) c.rows.at c.index-rows-at.result c.rows-test.true c.index-rows-at.is c.rows.paths
          (c.rows.invariant so_far is) (marked ∙ w.if-index.false)
    ]
