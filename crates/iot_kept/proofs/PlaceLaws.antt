-- Running transactions, by their numbers and by their places.
use Rattle.std.proofs.Common.{◌≡◌, ◌≢◌, ◌↔◌, IsTrue, ℕ, zero, suc, ◌+◌, ◌<◌, ◌==◌, Bool, true, false, List, [], ◌∷◌, ◌++◌, length, map, take, drop, Option, Some}
use Rattle.std.proofs.Common.{None, MatchOption, slice_index_or, slice_set, refl, sym, ap, subst, ◌∙◌, arith}
use Rattle.std.proofs.lemmas.List.{length-map, with_items_is}
use Rattle.std.proofs.lemmas.List.Edits.{map_over_more}
use Rattle.std.proofs.lemmas.Bool.{cond-true, cond-false}
use Rattle.std.proofs.lemmas.Bool.Decides.{nat_tests}
use Rattle.std.specs.List.{AllByRecursion, AllWithin, HoldsAt, remove}
use Rattle.std.specs.Prelude.{Vec}
use Rattle.std.specs.Vec.{vec_len, with_items}
use Rattle.std.specs.declared.alloc.Global.{Global}
use Rattle.iot_tree.specs.Tree.{Nodes}
use Rattle.iot_kept.specs.States.{Transaction, numbered}
use Rattle.iot_kept.specs.Changes.{IsSomeOf, RunIs, with_running, others}
use Rattle.iot_kept.specs.Memory.{transaction, transactions, classes_of, other_classes, with_class, IsPlace, past, StandsOn}
use Rattle.iot_kept.specs.declared.running.Running.{Running}

-- ---- the first one with a number

differs : (number other : ℕ) → other ≢ number → (other == number) ≡ false
differs number other = grind (arith, nat_tests)

equals : (number other : ℕ) → other ≡ number → (other == number) ≡ true
equals number other = grind (arith, nat_tests)

none_has : (number : ℕ) (running : List Running) → AllWithin (λ it. it.tid ≢ number) running 0 (length running)
    → numbered number (transactions running) ≡ None
none_has number [] all = refl
none_has number (it ∷ running) all =
    cond-false (it.tid == number) _ _ (differs number it.tid (all 0 it (omega arith) (omega arith)))
    ∙ none_has number running (λ k d low less. all (suc k) d (omega arith) (omega (arith, less)))

first_has : (number : ℕ) (running : List Running) (i : ℕ) → i < length running → HoldsAt (λ it. it.tid ≡ number) running i
    → AllWithin (λ it. it.tid ≢ number) running 0 i → IsPlace number running i
first_has number [] i less has before = absurd (omega (arith, less))
first_has number (it ∷ running) zero less has before = equals number it.tid (has it)
first_has number (it ∷ running) (suc i) less has before = (
  differs number it.tid (before 0 it (omega arith) (omega arith)),
  first_has number running i (omega (arith, less)) has (λ k d low below. before (suc k) d (omega arith) (omega (arith, below))),
)

pub place_found : (number : ℕ) (running : List Running) (found : Option ℕ)
    → MatchOption found (AllWithin (λ it. it.tid ≢ number) running 0 (length running))
    (λ i. (i < length running) × HoldsAt (λ it. it.tid ≡ number) running i × AllWithin (λ it. it.tid ≢ number) running 0 i)
    → MatchOption found (numbered number (transactions running) ≡ None) (IsPlace number running)
place_found number running None all = none_has number running all
place_found number running (Some i) found = first_has number running i found.0 found.1 found.2

-- ---- what is so of it

pub place_within : (number : ℕ) (running : List Running) (at : ℕ) → IsPlace number running at → at < length running
place_within number [] at is = absurd is
place_within number (it ∷ running) zero is = omega arith
place_within number (it ∷ running) (suc at) is =
    let less : at < length running = place_within number running at is.1 in
    omega (arith, less)

pub place_index : (number : ℕ) (running : Vec Running Global) (at : ℕ) → IsPlace number running.items at → at < vec_len running
place_index number running at is = subst (λ n. at < n) (sym running.ok.0) (place_within number running.items at is)

pub place_is : (Q : Transaction → Type 0) (number : ℕ) (running : List Running) (at : ℕ) (d : Running) → IsPlace number running at
    → RunIs number Q (transactions running) → Q (transaction (slice_index_or running at d))
place_is Q number [] at d is runs = absurd is
place_is Q number (it ∷ running) zero d is runs = subst (IsSomeOf Q) (cond-true _ _ _ is) runs
place_is Q number (it ∷ running) (suc at) d is runs =
    place_is Q number running at d is.1 (subst (IsSomeOf Q) (cond-false _ _ _ is.0) runs)

pub is_place : (Q : Transaction → Type 0) (number : ℕ) (running : List Running) (at : ℕ) (d : Running) → IsPlace number running at
    → Q (transaction (slice_index_or running at d)) → RunIs number Q (transactions running)
is_place Q number [] at d is here = absurd is
is_place Q number (it ∷ running) zero d is here = subst (IsSomeOf Q) (sym (cond-true _ _ _ is)) here
is_place Q number (it ∷ running) (suc at) d is here =
    subst (IsSomeOf Q) (sym (cond-false _ _ _ is.0)) (is_place Q number running at d is.1 here)

pub none_runs : (Q : Transaction → Type 0) (number : ℕ) (running : List Transaction) → numbered number running ≡ None
    → RunIs number Q running → ⊥
none_runs Q number running none runs = subst (IsSomeOf Q) none runs

-- ---- changes at its place

pub place_with : (change : Transaction → Transaction) (number : ℕ) (running : List Running) (at : ℕ) (d new : Running)
    → IsPlace number running at → transaction new ≡ change (transaction (slice_index_or running at d))
    → transactions (slice_set running at new) ≡ with_running number change (transactions running)
place_with change number [] at d new is same = absurd is
place_with change number (it ∷ running) zero d new is same =
    ap (λ first. first ∷ transactions running) same ∙ sym (cond-true _ _ _ is)
place_with change number (it ∷ running) (suc at) d new is same =
    ap (λ later. transaction it ∷ later) (place_with change number running at d new is.1 same) ∙ sym (cond-false _ _ _ is.0)

pub place_class : (running : List Running) (at : ℕ) (d new : Running) → new.first ≡ (slice_index_or running at d).first
    → at < length running → classes_of (slice_set running at new) ≡ classes_of running
place_class [] at d new same less = refl
place_class (it ∷ running) zero d new same less = ap (λ first. first ∷ classes_of running) same
place_class (it ∷ running) (suc at) d new same less =
    ap (λ later. it.first ∷ later) (place_class running at d new same (omega (arith, less)))

pub place_same : (running : List Running) (at : ℕ) (d new : Running) → transaction new ≡ transaction (slice_index_or running at d)
    → at < length running → transactions (slice_set running at new) ≡ transactions running
place_same [] at d new same less = refl
place_same (it ∷ running) zero d new same less = ap (λ first. first ∷ transactions running) same
place_same (it ∷ running) (suc at) d new same less =
    ap (λ later. transaction it ∷ later) (place_same running at d new same (omega (arith, less)))

pub place_with_class : (number : ℕ) (running : List Running) (at : ℕ) (new : Running) (first : Bool) → IsPlace number running at
    → new.first ≡ first → classes_of (slice_set running at new) ≡ with_class number first (transactions running) (classes_of running)
place_with_class number [] at new first is same = absurd is
place_with_class number (it ∷ running) zero new first is same =
    ap (λ b. b ∷ classes_of running) same ∙ sym (cond-true _ _ _ is)
place_with_class number (it ∷ running) (suc at) new first is same =
    ap (λ later. it.first ∷ later) (place_with_class number running at new first is.1 same) ∙ sym (cond-false _ _ _ is.0)

pub place_others : (number : ℕ) (running : List Running) (at : ℕ) → IsPlace number running at
    → transactions (remove running at) ≡ others number (transactions running)
place_others number [] at is = absurd is
place_others number (it ∷ running) zero is = sym (cond-true _ _ _ is)
place_others number (it ∷ running) (suc at) is =
    ap (λ later. transaction it ∷ later) (place_others number running at is.1) ∙ sym (cond-false _ _ _ is.0)

pub place_other_classes : (number : ℕ) (running : List Running) (at : ℕ) → IsPlace number running at
    → classes_of (remove running at) ≡ other_classes number (transactions running) (classes_of running)
place_other_classes number [] at is = absurd is
place_other_classes number (it ∷ running) zero is = sym (cond-true _ _ _ is)
place_other_classes number (it ∷ running) (suc at) is =
    ap (λ later. it.first ∷ later) (place_other_classes number running at is.1) ∙ sym (cond-false _ _ _ is.0)

pub place_numbered : (number : ℕ) (running : List Running) (at : ℕ) (d : Running) → IsPlace number running at
    → numbered number (transactions running) ≡ Some (transaction (slice_index_or running at d))
place_numbered number [] at d is = absurd is
place_numbered number (it ∷ running) zero d is = cond-true _ _ _ is
place_numbered number (it ∷ running) (suc at) d is = cond-false _ _ _ is.0 ∙ place_numbered number running at d is.1

-- ---- what is so of each of them

module _ (P : Running → Type 0) where
  pub at_place : (running : List Running) (at : ℕ) (d : Running) → at < length running → AllByRecursion P running
      → P (slice_index_or running at d)
  at_place [] at d less all = absurd (omega (arith, less))
  at_place (it ∷ running) zero d less all = all.0
  at_place (it ∷ running) (suc at) d less all = at_place running at d (omega (arith, less)) all.1

  pub set_place : (running : List Running) (at : ℕ) (new : Running) → P new → AllByRecursion P running
      → AllByRecursion P (slice_set running at new)
  set_place [] at new this all = tt
  set_place (it ∷ running) zero new this all = (this, all.1)
  set_place (it ∷ running) (suc at) new this all = (all.0, set_place running at new this all.1)

  pub without_place : (running : List Running) (at : ℕ) → AllByRecursion P running → AllByRecursion P (remove running at)
  without_place [] zero all = tt
  without_place [] (suc at) all = tt
  without_place (it ∷ running) zero all = all.1
  without_place (it ∷ running) (suc at) all = (all.0, without_place running at all.1)

  pub one_more : (running : List Running) (new : Running) → P new → AllByRecursion P running → AllByRecursion P (running ++ new ∷ [])
  one_more [] new this all = (this, tt)
  one_more (it ∷ running) new this all = (all.0, one_more running new this all.1)

pub transactions_more : (running : List Running) (new : Running)
    → transactions (running ++ new ∷ []) ≡ transactions running ++ transaction new ∷ []
transactions_more [] new = refl
transactions_more (it ∷ running) new = ap (λ later. transaction it ∷ later) (transactions_more running new)

pub classes_more : (running : List Running) (new : Running) → classes_of (running ++ new ∷ []) ≡ classes_of running ++ new.first ∷ []
classes_more [] new = refl
classes_more (it ∷ running) new = ap (λ later. it.first ∷ later) (classes_more running new)

-- ---- the view is left

pub place_past : (number : ℕ) (running : List Running) (at : ℕ) → IsPlace number running at → IsPlace number (map past running) at
place_past number [] at is = is
place_past number (it ∷ running) zero is = is
place_past number (it ∷ running) (suc at) is = (is.0, place_past number running at is.1)

pub past_transactions : (running : List Running) → transactions (map past running) ≡ transactions running
past_transactions [] = refl
past_transactions (it ∷ running) = ap (λ later. transaction it ∷ later) (past_transactions running)

pub past_classes : (running : List Running) → classes_of (map past running) ≡ classes_of running
past_classes [] = refl
past_classes (it ∷ running) = ap (λ later. it.first ∷ later) (past_classes running)

pub past_stand : (t u : Nodes) (running : List Running) → AllByRecursion (StandsOn t) running → AllByRecursion (StandsOn u) (map past running)
past_stand t u [] all = tt
past_stand t u (it ∷ running) all =
    let stands : StandsOn t it = all.0 in
    (record { own = stands.own; base = tt }, past_stand t u running all.1)

-- one more of them
pub one_past : (before now : List Running) (at : ℕ) (it : Running) → at < length before
    → now ≡ map past (take at before) ++ drop at before → it ≡ slice_index_or now at it
    → slice_set now at (past (slice_index_or now at it)) ≡ map past (take (at + 1) before) ++ drop (at + 1) before
one_past before now at it less way is =
    ap (λ (one : Running). slice_set now at (past one)) (sym is) ∙ map_over_more past before now at it less way is

-- each changes, and they are written over those that ran
pub each_written : (change : Running → Running) (running : Vec Running Global) (was now : List Running) → now ≡ map change was
    → was ≡ running.items → length was ≡ vec_len running → (with_items running now).items ≡ map change running.items
each_written change running was now each is long =
    with_items_is running now (ap length each ∙ length-map was change ∙ long) ∙ each ∙ ap (map change) is

-- ---- tests by a place

pub runs_there : (Q : Transaction → Type 0) (number : ℕ) (running : List Running) (at : ℕ) (d : Running) (b : Bool)
    → IsPlace number running at → (IsTrue b ↔ Q (transaction (slice_index_or running at d)))
    → IsTrue b ↔ RunIs number Q (transactions running)
runs_there Q number running at d b place is = (
  (λ yes_. is_place Q number running at d place (is.0 yes_)),
  (λ runs. is.1 (place_is Q number running at d place runs)),
)

pub runs_nowhere : (Q : Transaction → Type 0) (number : ℕ) (running : List Running) → numbered number (transactions running) ≡ None
    → IsTrue false ↔ RunIs number Q (transactions running)
runs_nowhere Q number running none = ((λ is. absurd cc), (λ runs. absurd (none_runs Q number (transactions running) none runs)))

pub runs_at : (number : ℕ) (running : List Running) (at : ℕ) → IsPlace number running at
    → IsTrue true ↔ RunIs number (λ it. Unit {0}) (transactions running)
runs_at number [] at place = absurd place
runs_at number (it ∷ running) at place =
    ((λ yes_. is_place (λ one. Unit {0}) number (it ∷ running) at it place tt), (λ runs. refl))
