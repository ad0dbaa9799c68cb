-- Acts whose updates are made in turn.
use Rattle.std.proofs.Common.{◌≡◌, ℕ, ◌+◌, ◌<◌, List, [], ◌∷◌, ◌++◌, length, take, drop, get_or, refl, sym, ap, ◌∙◌, subst}
use Rattle.std.proofs.lemmas.List.{drop_more, take_more}
use Rattle.iot_acts.specs.Traces.{after_update, after_acts}
use Rattle.iot_tree.specs.Tree.{Nodes}
use Rattle.iot_tree.specs.declared.acts.Act.{Act}
use Rattle.iot_stamp.specs.Acting.{UpdatesFit}

-- an act more
after_push : (t : Nodes) (acts : List Act) (act : Act) → after_acts t (acts ++ act ∷ []) ≡ after_update (after_acts t acts) act.update
after_push t [] act = refl
after_push t (first ∷ acts) act = after_push (after_update t first.update) acts act

-- the first `i` acts are made, and the updates of the others fit
pub record IsPassing (before now : Nodes) (acts : List Act) (i : ℕ) : Type 0 where
  pub done : now ≡ after_acts before (take i acts)
  pub fits : UpdatesFit now (drop i acts)

-- one act more
module _ (before now after : Nodes) (acts : List Act) (i : ℕ) (passing : IsPassing before now acts i) (act : Act) (lt : i < length acts)
    (is : act ≡ get_or acts i act) (made : after ≡ after_update now act.update) where
  fit : UpdatesFit now (act ∷ drop (i + 1) acts)
  fit = subst (UpdatesFit now) (drop_more acts i act lt ∙ ap (λ (a : Act). a ∷ drop (i + 1) acts) (sym is)) passing.fits

  pub next_passing : IsPassing before after acts (i + 1)
  next_passing = record {
    done =
        made ∙ ap (λ (t : Nodes). after_update t act.update) passing.done ∙ sym (after_push before (take i acts) act)
        ∙ ap (after_acts before) (sym (take_more acts i act lt ∙ ap (λ (a : Act). take i acts ++ a ∷ []) (sym is)));
    fits = subst (λ (t : Nodes). UpdatesFit t (drop (i + 1) acts)) (sym made) fit.1;
  }
