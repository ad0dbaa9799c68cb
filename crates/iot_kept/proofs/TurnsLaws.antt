-- What passes one after the other, as a loop tests it.
use Rattle.std.proofs.Common.{◌≡◌, ℕ, ◌+◌, ◌<◌, ◌≤◌, List, [], ◌∷◌, length, get_or, drop, sym, ap, ◌∙◌, subst}
use Rattle.std.proofs.lemmas.List.{drop_all}
use Rattle.iot_queue.specs.declared.items.Item.{Item}
use Rattle.iot_queue.specs.declared.items.Stage.TheVariants as stages
use Rattle.iot_kept.specs.Reading.{InTurn, after_turns, AllWait}
use Rattle.iot_kept.proofs.FollowingLaws.{left_is}

-- those from a place on pass exactly if all do, and what is there after them is the same
pub record OnWay {S X : Type 0} (Passes : S → X → Type 0) (step : S → X → S) (xs : List X) (start : S) (i : ℕ) (s : S) : Type 0 where
  pub rest : InTurn Passes step xs start → InTurn Passes step (drop i xs) s
  pub whole : InTurn Passes step (drop i xs) s → InTurn Passes step xs start
  pub made : after_turns step (drop i xs) s ≡ after_turns step xs start

module _ {S X : Type 0} (Passes : S → X → Type 0) (step : S → X → S) (xs : List X) (start : S) where
  module _ (i : ℕ) (s : S) (way : OnWay Passes step xs start i s) where
    module _ (x : X) (within : i < length xs) (is : x ≡ get_or xs i x) where
      left_here : drop i xs ≡ x ∷ drop (i + 1) xs
      left_here = left_is xs i x within is

      pub way_goes : Passes s x → OnWay Passes step xs start (i + 1) (step s x)
      way_goes passes = record {
        rest = λ all. (subst (λ (l : List X). InTurn Passes step l s) left_here (way.rest all)).1;
        whole = λ rest. way.whole (subst (λ (l : List X). InTurn Passes step l s) (sym left_here) (passes, rest));
        made = sym (ap (λ (l : List X). after_turns step l s) left_here) ∙ way.made;
      }

    module _ (past : length xs ≤ i) where
      pub all_pass : InTurn Passes step xs start
      all_pass = way.whole (subst (λ (l : List X). InTurn Passes step l s) (sym (drop_all i xs past)) tt)

-- ---- transactions that are Waiting

abbrev pub Waits : Unit {0} → Item → Type 0
Waits _ item = item.stage ≡ stages.Waiting

abbrev pub same_unit : Unit {0} → Item → Unit {0}
same_unit u item = u

pub turns_wait : (items : List Item) → InTurn Waits same_unit items tt → AllWait items
turns_wait [] turns = tt
turns_wait (item ∷ items) turns = (turns.0, turns_wait items turns.1)
