-- Acts that neither read nor change a tree.
use Rattle.std.proofs.Common.{◌≡◌, Bool, true, false, ◌&&◌, ◌==◌, not, suc, List, [], ◌∷◌}
use Rattle.std.proofs.Common.{arith, eqb-true, length, Option, Some, None, is_some}
use Rattle.std.specs.List.{list_all}
use Rattle.std.specs.Cmp.{first_so, second_so}
use Rattle.iot_tree.specs.Tree.{Nodes}
use Rattle.iot_tree.specs.declared.acts.Act.{Act}
use Rattle.iot_tree.specs.declared.acts.Read.{Read}
use Rattle.iot_tree.specs.declared.updates.Update.{Update}
use Rattle.iot_acts.specs.Traces.{ReadsHold, FitsIfAny, ActsHold, after_update}
use Rattle.iot_certify.specs.Silent.{is_silent}

silent_holds : (t : Nodes) (acts : List Act) (reads : List Read) (update : Option Update)
    → ((length reads == 0) && not (is_some update)) ≡ true → ActsHold (after_update t update) acts
    → ReadsHold t reads × FitsIfAny t update × ActsHold (after_update t update) acts
silent_holds t acts [] None silent later = (tt, tt, later)
silent_holds t acts [] (Some update) silent later = absurd (changes (0 == 0) silent)
  where
    changes : (b : Bool) → (b && false) ≡ true → ⊥
    changes true is = cc
    changes false is = cc
silent_holds t acts (read ∷ reads) update silent later =
    absurd (omega (arith, eqb-true (suc (length reads)) 0 (first_so (suc (length reads) == 0) (not (is_some update)) silent)))

-- acts that neither read nor change a tree hold on each
pub all_silent : (acts : List Act) → list_all is_silent acts ≡ true → (t : Nodes) → ActsHold t acts
all_silent [] silent t = tt
all_silent (act ∷ acts) silent t =
    silent_holds t acts act.reads act.update (first_so (is_silent act) (list_all is_silent acts) silent)
    (all_silent acts (second_so (is_silent act) (list_all is_silent acts) silent) (after_update t act.update))
