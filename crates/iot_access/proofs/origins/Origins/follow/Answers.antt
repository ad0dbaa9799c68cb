use Rattle.std.proofs.Common.{◌≡◌, ◌⊎◌, ◌∷◌, List, inl, inr}
use Rattle.std.proofs.lemmas.Result.{IfOk-weaker}
use Rattle.iot_tree.specs.Tree.{Path}
use Rattle.iot_tree.specs.declared.updates.Update.{Update}
use Rattle.iot_tree.specs.declared.updates.Update.TheVariants.{MakeDir, Remove}
use Rattle.iot_access.specs.Entries.{Tells}
use Rattle.iot_access.specs.Origins.{TellAfter, entries}
use Rattle.iot_access.specs.Sources.{hidden, source, mode_source}
use Rattle.iot_access.specs.declared.origins.Origins.{Origins}
use Rattle.iot_access.proofs.origins.Origins.follow.Goals as goal

-- what is made or removed is hidden in both
both_hidden : (update : Update) (p : Path) → (update ≡ MakeDir p) ⊎ (update ≡ Remove p) → (origins : Origins) (done : List Update)
    → Tells (entries origins.rows) (hidden p (source done)) → Tells (entries origins.modes) (hidden p (mode_source done))
    → TellAfter origins (update ∷ done)
both_hidden update p (inl is) origins done rows modes = rw is (record { rows = rows; modes = modes })
both_hidden update p (inr is) origins done rows modes = rw is (record { rows = rows; modes = modes })

pub returns-in-Put : goal.returns-in-Put
returns-in-Put c =
    IfOk-weaker c.hide.result _ _
    (λ ok kept done tells. rw c.in-Put.is (record { rows = kept (source done) tells.rows; modes = tells.modes })) c.hide.ensures

pub returns-in_ok-carry-in-Move : goal.returns-in_ok-carry-in-Move
returns-in_ok-carry-in-Move c =
    IfOk-weaker c.carry-in-Move.result _ _
    (λ ok kept done tells.
    rw c.in-Move.is
    (record { rows = c.in_ok-carry-in-Move.ensures (source done) tells.rows; modes = kept (mode_source done) tells.modes }))
    c.carry-in-Move.ensures

pub returns-in-SetMode : goal.returns-in-SetMode
returns-in-SetMode c =
    IfOk-weaker c.hide-in-SetMode.result _ _
    (λ ok kept done tells. rw c.in-SetMode.is (record { rows = tells.rows; modes = kept (mode_source done) tells.modes }))
    c.hide-in-SetMode.ensures

pub returns-in_ok-hide-in-MakeDir : goal.returns-in_ok-hide-in-MakeDir
returns-in_ok-hide-in-MakeDir c =
    IfOk-weaker c.hide-in-MakeDir-2.result _ _
    (λ ok kept done tells.
    both_hidden c.args.update.now c.in-MakeDir.path c.in-MakeDir.is _ done
    (c.in_ok-hide-in-MakeDir.ensures (source done) tells.rows) (kept (mode_source done) tells.modes))
    c.hide-in-MakeDir-2.ensures
