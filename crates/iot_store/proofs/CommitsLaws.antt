-- Updates that are made one after the other, as a loop does.
use Rattle.std.proofs.Common.{◌≡◌, ℕ, ◌+◌, ◌<◌, ◌≤◌, List, [], ◌∷◌, length, get_or, drop, sym, ap, ◌∙◌, subst}
use Rattle.std.proofs.lemmas.List.{drop_more, drop_all}
use Rattle.iot_access.specs.Access.{FitInTurn}
use Rattle.iot_tree.specs.Updates.{Fits, updated}
use Rattle.iot_tree.specs.declared.updates.Update.{Update}
use Rattle.iot_stamp.specs.Stamps.{Stamps, nodes_of}
use Rattle.iot_stamp.specs.Stamping.{stamped}
use Rattle.iot_stamp.proofs.ActingLaws.{nodes_stamped}
use Rattle.iot_store.specs.Stamps.{stamped_all}

-- what is left at a turn of a loop
pub left_is : {X : Type 0} (xs : List X) (i : ℕ) (x : X) → i < length xs → x ≡ get_or xs i x → drop i xs ≡ x ∷ drop (i + 1) xs
left_is xs i x within is = drop_more xs i x within ∙ ap (λ y. y ∷ drop (i + 1) xs) (sym is)

-- ---- updates

-- the updates from a place on fit in turn exactly if all do, and lead to the same tree
pub record AllOnWay (updates : List Update) (stamp i : ℕ) (before now : Stamps) : Type 0 where
  pub rest : FitInTurn (nodes_of before) updates → FitInTurn (nodes_of now) (drop i updates)
  pub whole : FitInTurn (nodes_of now) (drop i updates) → FitInTurn (nodes_of before) updates
  pub end : stamped_all before updates stamp ≡ stamped_all now (drop i updates) stamp

module _ (updates : List Update) (stamp i : ℕ) (before now : Stamps) (way : AllOnWay updates stamp i before now) where
  module _ (update : Update) (within : i < length updates) (is : update ≡ get_or updates i update) where
    left_updates : drop i updates ≡ update ∷ drop (i + 1) updates
    left_updates = left_is updates i update within is

    pub update_made : (next : Stamps) → Fits (nodes_of now) update → next ≡ stamped now update stamp
        → AllOnWay updates stamp (i + 1) before next
    update_made next fits made =
        let nodes : nodes_of next ≡ updated (nodes_of now) update = ap nodes_of made ∙ nodes_stamped stamp now update in
        record {
          rest = λ fit. subst (λ t. FitInTurn t (drop (i + 1) updates)) (sym nodes)
              (subst (FitInTurn (nodes_of now)) left_updates (way.rest fit)).1;
          whole = λ fit. way.whole
              (subst (FitInTurn (nodes_of now)) (sym left_updates) (fits, subst (λ t. FitInTurn t (drop (i + 1) updates)) nodes fit));
          end = way.end ∙ ap (λ (l : List Update). stamped_all now l stamp) left_updates
              ∙ ap (λ t. stamped_all t (drop (i + 1) updates) stamp) (sym made);
        }

  pub all_made : length updates ≤ i → FitInTurn (nodes_of before) updates × (now ≡ stamped_all before updates stamp)
  all_made past =
      let none : drop i updates ≡ [] = drop_all i updates past in (
        way.whole (subst (FitInTurn (nodes_of now)) (sym none) tt),
        sym (way.end ∙ ap (λ (l : List Update). stamped_all now l stamp) none),
      )
