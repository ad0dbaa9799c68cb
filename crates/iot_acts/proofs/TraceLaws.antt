-- Acts in turn: what they leave of a tree is a tree, and one act more.
use Rattle.std.proofs.Common.{◌≡◌, List, [], ◌∷◌, ◌++◌, Option, Some, None, refl, sym, ap, subst, ◌∙◌}
use Rattle.iot_tree.specs.Tree.{Nodes, IsTree}
use Rattle.iot_tree.specs.declared.acts.Act.{Act}
use Rattle.iot_tree.specs.declared.updates.Update.{Update}
use Rattle.iot_tree.proofs.UpdateLaws.{tree_updated}
use Rattle.iot_acts.specs.Traces.{after_update, FitsIfAny, ActsHold, after_acts}
use Rattle.iot_acts.specs.Guards.{IsGuarded, AllGuarded}

pub tree_after : (t : Nodes) (update : Option Update) → IsTree t → FitsIfAny t update → IsTree (after_update t update)
tree_after t None tree fits = tree
tree_after t (Some update) tree fits = tree_updated t update tree fits

pub tree_after_acts : (t : Nodes) (acts : List Act) → IsTree t → ActsHold t acts → IsTree (after_acts t acts)
tree_after_acts t [] tree hold = tree
tree_after_acts t (act ∷ acts) tree hold = tree_after_acts (after_update t act.update) acts (tree_after t act.update tree hold.1) hold.2

-- ---- one act more

after_more : (acts : List Act) (act : Act) (t : Nodes) → after_acts t (acts ++ act ∷ []) ≡ after_update (after_acts t acts) act.update
after_more [] act t = refl
after_more (first ∷ later) act t = after_more later act (after_update t first.update)

hold_more : (acts : List Act) (act : Act) (t : Nodes) → ActsHold t acts → ActsHold (after_acts t acts) (act ∷ [])
    → ActsHold t (acts ++ act ∷ [])
hold_more [] act t hold more = more
hold_more (first ∷ later) act t hold more = (hold.0, hold.1, hold_more later act (after_update t first.update) hold.2 more)

guarded_more : (acts : List Act) (act : Act) → AllGuarded acts → IsGuarded act → AllGuarded (acts ++ act ∷ [])
guarded_more [] act guarded more = (more, tt)
guarded_more (first ∷ later) act guarded more = (guarded.0, guarded_more later act guarded.1 more)

-- these acts were done on the tree: they hold on it, make of it what it is now, and are guarded
pub record AreDone (t : Nodes) (acts : List Act) (now : Nodes) : Type 0 where
  pub hold : ActsHold t acts
  pub made : now ≡ after_acts t acts
  pub guarded : AllGuarded acts

pub done_more : (t : Nodes) (before acts : List Act) (act : Act) (mid now : Nodes) → acts ≡ before ++ act ∷ [] → AreDone t before mid
    → ActsHold mid (act ∷ []) → now ≡ after_update mid act.update → IsGuarded act → AreDone t acts now
done_more t before acts act mid now is done hold made guarded = record {
  hold = subst (ActsHold t) (sym is) (hold_more before act t done.hold (subst (λ (u : Nodes). ActsHold u (act ∷ [])) done.made hold));
  made = made ∙ ap (λ (u : Nodes). after_update u act.update) done.made ∙ sym (after_more before act t) ∙ ap (after_acts t) (sym is);
  guarded = subst AllGuarded (sym is) (guarded_more before act done.guarded guarded);
}
