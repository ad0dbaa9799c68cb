use Rattle.std.proofs.Common.{◌∙◌, refl, sym, arith}
use Rattle.iot_prune.proofs.CutLaws.{walk, walk_cuts, walked_over, walked_out}
use Rattle.iot_prune.proofs.PassLaws.{all_out}
use Rattle.iot_prune.specs.Walks.{last_row}
use Rattle.iot_prune.proofs.cutting.cut_rows.Goals.{then-not-is_hidden+in_ok-copy+in_ok-seen+in_ok-push, else-not-is_hidden}
use Rattle.iot_prune.proofs.cutting.cut_rows.Goals as goal

pub rows-preserved : goal.rows-preserved
rows-preserved c =
    let tested = rw c.as_slice.ensures at c.is_hidden.ensures in
    elim c.if-not-is_hidden.branch [
      | then-not-is_hidden+in_ok-copy+in_ok-seen+in_ok-push w ↦
          rw (w.out-is, w.rest-is)
          (walked_out c.args.paths.now c.rows.rest.now c.args.rows.now c.rows.out c.rows.row-index c.row-item.result c.rows-test.true
          c.row-item.is
          c.rows.invariant w.begins-known.result _ _ w.from-rest.result.now _ (sym tested ∙ w.if-not-is_hidden.true) w.from-rest.ensures
          w.begins-known.ensures
          w.in_ok-copy.ensures w.in_ok-seen.ensures w.in_ok-push.ensures.ok)
      | else-not-is_hidden w ↦
          rw (w.out-is, w.rest-is)
          (walked_over c.args.paths.now c.rows.rest.now c.args.rows.now c.rows.out c.rows.row-index c.row-item.result c.rows-test.true
          c.row-item.is
          c.rows.invariant (sym tested ∙ w.if-not-is_hidden.false))
    ]

pub returns : goal.returns
returns c =
    all_out (walk c.rows.rest.now (last_row c.rows.out)) _ c.args.rows.now c.rows.row-index c.rows.out (omega (arith, c.rows-test.false))
    refl c.rows.invariant
    ∙ walk_cuts c.args.paths.now c.requires.rising c.args.rows.now c.requires.tree
