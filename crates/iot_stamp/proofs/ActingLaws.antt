-- Acts that are made on a stamped tree.
use Rattle.std.proofs.Common.{◌≡◌, ℕ, ◌+◌, ◌<◌, ◌≤◌, List, [], ◌∷◌, length, get_or, drop, Option, Some, None, refl, sym, ap, ◌∙◌, subst}
use Rattle.std.proofs.lemmas.List.{drop_more, drop_all}
use Rattle.iot_acts.specs.Traces.{FitsIfAny, ActsHold, after_update, after_acts}
use Rattle.iot_tree.specs.Tree.{Nodes}
use Rattle.iot_tree.specs.Updates.{Fits, updated}
use Rattle.iot_tree.specs.declared.acts.Act.{Act}
use Rattle.iot_tree.specs.declared.updates.Update.{Update}
use Rattle.iot_access.specs.Access.{FitInTurn, after_updates, cons_update, updates_of}
use Rattle.iot_stamp.specs.Acting.{stamped_if_any, stamped_acts, stamped_all, UpdatesFit}
use Rattle.iot_stamp.specs.Agreement.{Keeps}
use Rattle.iot_stamp.specs.Stamping.{stamped, stamp_after}
use Rattle.iot_stamp.specs.Stamps.{Stamps, nodes_of, FarZero}
use Rattle.iot_stamp.proofs.AgreementLaws.{keeps_none, keeps_then}
use Rattle.iot_stamp.proofs.StampingLaws.{keeps_update}
use Rattle.iot_stamp.proofs.StampsLaws.{nodes_with, with_far_zero}

-- ---- what acts leave

module _ (stamp : ℕ) where
  -- what is stamped is the tree after the acts
  pub nodes_after_update : (t : Stamps) (update : Option Update)
      → nodes_of (stamped_if_any t update stamp) ≡ after_update (nodes_of t) update
  nodes_after_update t None = refl
  nodes_after_update t (Some update) = nodes_with (stamp_after t update stamp) (updated (nodes_of t) update)

  pub nodes_after_acts : (t : Stamps) (acts : List Act) → nodes_of (stamped_acts t acts stamp) ≡ after_acts (nodes_of t) acts
  nodes_after_acts t [] = refl
  nodes_after_acts t (act ∷ acts) =
      nodes_after_acts (stamped_if_any t act.update stamp) acts ∙ ap (λ n. after_acts n acts) (nodes_after_update t act.update)

  -- each other known row stays as it was
  keeps_if_any : (t : Stamps) (update : Option Update) → FitsIfAny (nodes_of t) update → Keeps t (stamped_if_any t update stamp) stamp
  keeps_if_any t None fits = keeps_none t stamp
  keeps_if_any t (Some update) fits = keeps_update t update stamp fits

  pub keeps_acts : (t : Stamps) (acts : List Act) → UpdatesFit (nodes_of t) acts → Keeps t (stamped_acts t acts stamp) stamp
  keeps_acts t [] fits = keeps_none t stamp
  keeps_acts t (act ∷ acts) fits =
      let next = stamped_if_any t act.update stamp in
      keeps_then t next (stamped_acts next acts stamp) stamp (keeps_if_any t act.update fits.0)
      (keeps_acts next acts (subst (λ nodes. UpdatesFit nodes acts) (sym (nodes_after_update t act.update)) fits.1))

  far_if_any : (t : Stamps) (update : Option Update) → FarZero t → FarZero (stamped_if_any t update stamp)
  far_if_any t None far = far
  far_if_any t (Some update) far = with_far_zero (stamp_after t update stamp) (updated (nodes_of t) update)

  pub far_after_acts : (t : Stamps) (acts : List Act) → FarZero t → FarZero (stamped_acts t acts stamp)
  far_after_acts t [] far = far
  far_after_acts t (act ∷ acts) far = far_after_acts (stamped_if_any t act.update stamp) acts (far_if_any t act.update far)

-- acts that hold have updates that fit
pub holds_fit : (t : Nodes) (acts : List Act) → ActsHold t acts → UpdatesFit t acts
holds_fit t [] hold = tt
holds_fit t (act ∷ acts) hold = (hold.1, holds_fit (after_update t act.update) acts hold.2)

-- ---- a loop over acts

-- the updates of the acts from a place on fit the tree, and lead to the same tree as all
pub record ActsOnWay (acts : List Act) (stamp i : ℕ) (before now : Stamps) : Type 0 where
  pub fit : UpdatesFit (nodes_of now) (drop i acts)
  pub end : stamped_acts before acts stamp ≡ stamped_acts now (drop i acts) stamp

module _ (acts : List Act) (stamp i : ℕ) (before now : Stamps) (way : ActsOnWay acts stamp i before now) where
  module _ (act : Act) (within : i < length acts) (is : act ≡ get_or acts i act) where
    left_acts : drop i acts ≡ act ∷ drop (i + 1) acts
    left_acts = drop_more acts i act within ∙ ap (λ (a : Act). a ∷ drop (i + 1) acts) (sym is)

    both : UpdatesFit (nodes_of now) (act ∷ drop (i + 1) acts)
    both = subst (UpdatesFit (nodes_of now)) left_acts way.fit

    pub act_fits : FitsIfAny (nodes_of now) act.update
    act_fits = both.0

    pub act_made : (next : Stamps) → next ≡ stamped_if_any now act.update stamp → ActsOnWay acts stamp (i + 1) before next
    act_made next made = record {
      fit =
          let nodes : nodes_of next ≡ after_update (nodes_of now) act.update =
          ap nodes_of made ∙ nodes_after_update stamp now act.update in
          subst (λ t. UpdatesFit t (drop (i + 1) acts)) (sym nodes) both.1;
      end = way.end ∙ ap (λ (l : List Act). stamped_acts now l stamp) left_acts
          ∙ ap (λ t. stamped_acts t (drop (i + 1) acts) stamp) (sym made);
    }

-- ---- updates without their acts

module _ (stamp : ℕ) where
  pub nodes_stamped : (t : Stamps) (update : Update) → nodes_of (stamped t update stamp) ≡ updated (nodes_of t) update
  nodes_stamped t update = nodes_with (stamp_after t update stamp) (updated (nodes_of t) update)

  -- what is stamped is the tree after the updates
  pub nodes_after_all : (t : Stamps) (updates : List Update) → nodes_of (stamped_all t updates stamp) ≡ after_updates (nodes_of t) updates
  nodes_after_all t [] = refl
  nodes_after_all t (update ∷ updates) =
      nodes_after_all (stamped t update stamp) updates
      ∙ ap (λ n. after_updates n updates) (nodes_stamped t update)

  -- those of acts are stamped as the acts are
  pub all_of_acts : (t : Stamps) (acts : List Act) → stamped_all t (updates_of acts) stamp ≡ stamped_acts t acts stamp
  all_of_acts t [] = refl
  all_of_acts t (act ∷ acts) = by act.update (λ t. all_of_acts t acts)
    where
      by : (update : Option Update) → ((t : Stamps) → stamped_all t (updates_of acts) stamp ≡ stamped_acts t acts stamp)
          → stamped_all t (cons_update update (updates_of acts)) stamp ≡ stamped_acts (stamped_if_any t update stamp) acts stamp
      by None same = same t
      by (Some update) same = same (stamped t update stamp)

-- the updates from a place on fit the tree, and lead to the same tree as all
pub record AllOnWay (updates : List Update) (stamp i : ℕ) (before now : Stamps) : Type 0 where
  pub fit : FitInTurn (nodes_of now) (drop i updates)
  pub end : stamped_all before updates stamp ≡ stamped_all now (drop i updates) stamp

module _ (updates : List Update) (stamp i : ℕ) (before now : Stamps) (way : AllOnWay updates stamp i before now) where
  module _ (update : Update) (within : i < length updates) (is : update ≡ get_or updates i update) where
    left_updates : drop i updates ≡ update ∷ drop (i + 1) updates
    left_updates = drop_more updates i update within ∙ ap (λ (u : Update). u ∷ drop (i + 1) updates) (sym is)

    both_fit : FitInTurn (nodes_of now) (update ∷ drop (i + 1) updates)
    both_fit = subst (FitInTurn (nodes_of now)) left_updates way.fit

    pub update_fits : Fits (nodes_of now) update
    update_fits = both_fit.0

    pub update_made : (next : Stamps) → next ≡ stamped now update stamp → AllOnWay updates stamp (i + 1) before next
    update_made next made = record {
      fit =
          let nodes : nodes_of next ≡ updated (nodes_of now) update =
          ap nodes_of made ∙ nodes_stamped stamp now update in
          subst (λ t. FitInTurn t (drop (i + 1) updates)) (sym nodes) both_fit.1;
      end = way.end ∙ ap (λ (l : List Update). stamped_all now l stamp) left_updates
          ∙ ap (λ t. stamped_all t (drop (i + 1) updates) stamp) (sym made);
    }

  pub all_made : length updates ≤ i → now ≡ stamped_all before updates stamp
  all_made past = sym (way.end ∙ ap (λ (l : List Update). stamped_all now l stamp) (drop_all i updates past))
