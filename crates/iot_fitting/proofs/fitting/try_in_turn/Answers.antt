use Rattle.std.proofs.Common.{◌≡◌, ◌+◌, ◌∷◌, List, drop, reverse, sym, ap, ◌∙◌}
use Rattle.std.proofs.lemmas.List.{drop_more}
use Rattle.iot_tree.specs.declared.updates.Update.{Update}
use Rattle.iot_fitting.proofs.FittingLaws.{one_made}
use Rattle.iot_fitting.proofs.fitting.try_in_turn.Goals as goal

pub updates-preserved : goal.updates-preserved
updates-preserved c =
    let later : List Update = drop (c.updates.update-index + 1) c.args.updates.now in
    let next : drop c.updates.update-index c.args.updates.now ≡ c.update-item.result ∷ later =
    drop_more c.args.updates.now c.updates.update-index c.update-item.result c.updates-test.true
    ∙ ap (λ (update : Update). update ∷ later) (sym c.update-item.is) in
    rw (c.in_ok-push_undoing.ensures, c.in_ok-apply.ensures.ok)
    (one_made c.args.updates.now (drop c.updates.update-index c.args.updates.now) later (reverse c.updates.undo) c.update-item.result
    c.updates.tree c.args.tree.now next c.updates.invariant (c.fits.ensures.0 c.if-not-fits.false))
