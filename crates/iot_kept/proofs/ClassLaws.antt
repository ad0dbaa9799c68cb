-- The classes of running transactions.
use Rattle.std.proofs.Common.{◌≡◌, ℕ, ◌+◌, ◌<◌, Bool, true, false, cond, List, [], ◌∷◌, ◌++◌, length, map, take, drop, Some, None, slice_index_or, slice_set}
use Rattle.std.proofs.Common.{refl, sym, ap, subst, ◌∙◌}
use Rattle.std.proofs.lemmas.List.Edits.{map_over_more}
use Rattle.std.specs.List.{AllByRecursion}
use Rattle.iot_tree.specs.Tree.{Nodes}
use Rattle.iot_kept.specs.States.{has_number, numbered}
use Rattle.iot_kept.specs.Memory.{transaction, transactions, StandsOn, classes_of, with_class, AreSecond, IsPlace, second}
use Rattle.iot_kept.specs.declared.running.Running.{Running}
use Rattle.iot_kept.proofs.PlaceLaws.{place_within, place_same, place_with_class, at_place, set_place}

-- ---- one

abbrev pub classed : Bool → Running → Running
classed first it = record it { first = first }

module _ (running : List Running) (number at : ℕ) (it : Running) (first : Bool) (place : IsPlace number running at) where
  pub same_there : it ≡ slice_index_or running at it → transactions (slice_set running at (classed first it)) ≡ transactions running
  same_there is = place_same running at it (classed first it) (ap transaction is) (place_within number running at place)

  pub class_there : classes_of (slice_set running at (classed first it)) ≡ with_class number first (transactions running) (classes_of running)
  class_there = place_with_class number running at (classed first it) first place refl

  pub stands_there : it ≡ slice_index_or running at it → (t : Nodes) → AllByRecursion (StandsOn t) running
      → AllByRecursion (StandsOn t) (slice_set running at (classed first it))
  stands_there is t all =
      let stands : StandsOn t it =
      subst (StandsOn t) (sym is) (at_place (StandsOn t) running at it (place_within number running at place) all) in
      set_place (StandsOn t) running at (classed first it) (record { own = stands.own; base = stands.base }) all

pub class_nowhere : (number : ℕ) (first : Bool) (running : List Running) → numbered number (transactions running) ≡ None
    → classes_of running ≡ with_class number first (transactions running) (classes_of running)
class_nowhere number first [] none = refl
class_nowhere number first (it ∷ running) none =
    by_test (class_nowhere number first running) (has_number number (transaction it)) none
  where
    by_test : (numbered number (transactions running) ≡ None
        → classes_of running ≡ with_class number first (transactions running) (classes_of running))
        → (b : Bool) → cond b (Some (transaction it)) (numbered number (transactions running)) ≡ None
        → it.first ∷ classes_of running
        ≡ cond b (first ∷ classes_of running) (it.first ∷ with_class number first (transactions running) (classes_of running))
    by_test rest true none = absurd cc
    by_test rest false none = ap (λ later. it.first ∷ later) (rest none)

-- ---- all

-- one more of them
pub one_second : (before now : List Running) (at : ℕ) (it : Running) → at < length before
    → now ≡ map second (take at before) ++ drop at before → it ≡ slice_index_or now at it
    → slice_set now at (second (slice_index_or now at it)) ≡ map second (take (at + 1) before) ++ drop (at + 1) before
one_second before now at it less way is =
    ap (λ (one : Running). slice_set now at (second one)) (sym is) ∙ map_over_more second before now at it less way is

pub second_transactions : (running : List Running) → transactions (map second running) ≡ transactions running
second_transactions [] = refl
second_transactions (it ∷ running) = ap (λ later. transaction it ∷ later) (second_transactions running)

pub second_classes : (running : List Running) → AreSecond (classes_of (map second running))
second_classes [] = tt
second_classes (it ∷ running) = (refl, second_classes running)

pub second_stand : (t : Nodes) (running : List Running) → AllByRecursion (StandsOn t) running
    → AllByRecursion (StandsOn t) (map second running)
second_stand t [] all = tt
second_stand t (it ∷ running) all =
    let stands : StandsOn t it = all.0 in
    (record { own = stands.own; base = stands.base }, second_stand t running all.1)
