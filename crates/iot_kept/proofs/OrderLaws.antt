-- Numbers that come one after the other, and the test of the numbers that a checkpoint has.
use Rattle.std.proofs.Common.{◌≡◌, ℕ, suc, ◌≤◌, ◌<◌, Bool, false, List, [], ◌∷◌, map, Option, Some, None, refl, sym, ap}
use Rattle.std.proofs.Common.{subst, arith}
use Rattle.std.specs.Prelude.{◌↔◌, IsTrue}
use Rattle.std.specs.List.{AllByRecursion}
use Rattle.std.specs.List.Sorted.{IsNonDecreasing, IsPermutation, IsStrictlySortedBy}
use Rattle.std.specs.Ordering.{nat_cmp}
use Rattle.std.proofs.lemmas.List.Elements.{recursion_from_All}
use Rattle.std.proofs.lemmas.List.Sorted.{IsPermutation-sym}
use Rattle.std.proofs.lemmas.Map.Keys.{IsStrictlyIncreasing-from_distinct, below_from_sorted, sorted_from_strictly_increasing, sorted_tail}
use Rattle.iot_kept.specs.Bodies.{run_numbers, numbers_of, AreApart, AreUpTo, Rise, AreNumbered}
use Rattle.iot_kept.specs.Memory.{transactions}
use Rattle.iot_kept.specs.Reading.{InOrder}
use Rattle.iot_kept.specs.States.{State}
use Rattle.iot_kept.specs.declared.running.Running.{Running}
use Rattle.iot_kept.proofs.NumbersLaws.{all_as, all_behind, apart_distinct, apart_permuted, up_to_permuted}

abbrev AreAbove : ℕ → List ℕ → Type 0
AreAbove p ns = AllByRecursion (λ n. p < n) ns

-- ---- each above the one before it

above_less : (ns : List ℕ) (p q : ℕ) → q < p → AreAbove p ns → AreAbove q ns
above_less ns p q less above = all_as (λ n. p < n) (λ n. q < n) ns (λ n here. omega (arith, here, less)) above

in_order_above : (last : ℕ) (ns : List ℕ) (p : ℕ) → InOrder last ns (Some p) → AreAbove p ns
in_order_above last [] p order = tt
in_order_above last (n ∷ ns) p order = (order.0.0, above_less ns n p order.0.0 (in_order_above last ns n order.1))

in_order_rise : (last : ℕ) (ns : List ℕ) (previous : Option ℕ) → InOrder last ns previous → Rise ns
in_order_rise last [] previous order = tt
in_order_rise last (n ∷ ns) previous order = (in_order_above last ns n order.1, in_order_rise last ns (Some n) order.1)

in_order_up_to : (last : ℕ) (ns : List ℕ) (previous : Option ℕ) → InOrder last ns previous → AreUpTo last ns
in_order_up_to last [] previous order = tt
in_order_up_to last (n ∷ ns) previous order = (order.0.1, in_order_up_to last ns (Some n) order.1)

order_after : (last : ℕ) (ns : List ℕ) (p : ℕ) → AreAbove p ns → Rise ns → AreUpTo last ns → InOrder last ns (Some p)
order_after last [] p above rise up = tt
order_after last (n ∷ ns) p above rise up = ((above.0, up.0), order_after last ns n rise.0 rise.1 up.1)

rise_in_order : (last : ℕ) (ns : List ℕ) → Rise ns → AreUpTo last ns → InOrder last ns None
rise_in_order last [] rise up = tt
rise_in_order last (n ∷ ns) rise up = ((tt, up.0), order_after last ns n rise.0 rise.1 up.1)

-- ---- numbers that rise are apart, and those that are apart rise once they are sorted

rise_apart : (ns : List ℕ) → Rise ns → AreApart ns
rise_apart [] rise = tt
rise_apart (n ∷ ns) rise =
    (all_as (λ m. n < m) (λ m. m ≡ n → ⊥) ns (λ m less same. omega (arith, less, same)) rise.0, rise_apart ns rise.1)

sorted_rise : (ns : List ℕ) → IsStrictlySortedBy nat_cmp ns → Rise ns
sorted_rise [] sorted = tt
sorted_rise (n ∷ ns) sorted = (
  recursion_from_All (λ m. n < m) ns
      (λ k d less. below_from_sorted (n ∷ ns) 0 (suc k) d sorted (omega arith) (omega (arith, less))),
  sorted_rise ns (sorted_tail nat_cmp n ns sorted),
)

apart_rise : (ns : List ℕ) → IsNonDecreasing ns → AreApart ns → Rise ns
apart_rise ns sorted apart =
    sorted_rise ns (sorted_from_strictly_increasing ns (IsStrictlyIncreasing-from_distinct ns sorted (apart_distinct ns apart)))

-- ---- the test

-- the numbers of those that run
pub run_tids : (running : List Running) → map (λ (it : Running). it.tid) running ≡ run_numbers (transactions running)
run_tids [] = refl
run_tids (it ∷ running) = ap (λ (ns : List ℕ). it.tid ∷ ns) (run_tids running)

pub run_in_order : (state : State) → AreNumbered state → InOrder state.last (run_numbers state.running) None
run_in_order state has =
    rise_in_order state.last (run_numbers state.running) has.rise
    (all_behind (λ n. n ≤ state.last) (map (λ item. item.tid) state.items) (run_numbers state.running) has.last)

-- those that run do not stand by their numbers
pub out_of_order : (b : Bool) (state : State) (run : List ℕ) → run ≡ run_numbers state.running → b ≡ false
    → (IsTrue b ↔ InOrder state.last run None) → IsTrue false ↔ AreNumbered state
out_of_order b state run is out given = (
  (λ yes. absurd cc),
  (λ has.
      let passed : IsTrue b = given.1 (subst (λ (ns : List ℕ). InOrder state.last ns None) (sym is) (run_in_order state has)) in
      absurd cc),
)

-- they do, and all numbers were sorted
pub in_order : (b : Bool) (state : State) (all sorted : List ℕ) → InOrder state.last (run_numbers state.running) None
    → all ≡ numbers_of state.items state.running → IsPermutation all sorted → IsNonDecreasing sorted
    → (IsTrue b ↔ InOrder state.last sorted None) → IsTrue b ↔ AreNumbered state
in_order b state all sorted run is permuted rises given =
    let back : IsPermutation sorted all = IsPermutation-sym all sorted permuted in (
      (λ yes.
          let order : InOrder state.last sorted None = given.0 yes in
          record {
            apart = subst AreApart is (apart_permuted sorted all back (rise_apart sorted (in_order_rise state.last sorted None order)));
            last = subst (AreUpTo state.last) is (up_to_permuted state.last sorted all back (in_order_up_to state.last sorted None order));
            rise = in_order_rise state.last (run_numbers state.running) None run;
          }),
      (λ has. given.1
          (rise_in_order state.last sorted
          (apart_rise sorted rises (apart_permuted all sorted permuted (subst AreApart (sym is) has.apart)))
          (up_to_permuted state.last all sorted permuted (subst (AreUpTo state.last) (sym is) has.last)))),
    )
