-- Each transaction has a number of its own, which is not above the last one, and those that run stand by their numbers; changes keep that.
use Rattle.std.proofs.Common.{◌≡◌, ◌≢◌, ℕ, ◌+◌, ◌≤◌, ◌<◌, Bool, true, false, cond, eqb, List, [], ◌∷◌, ◌++◌, Option, Some, None}
use Rattle.std.proofs.Common.{take, refl, sym, ap, ◌∙◌, subst, arith, append_assoc}
use Rattle.std.specs.List.{AllByRecursion, IsDistinct}
use Rattle.std.specs.List.Sorted.{IsPermutation}
use Rattle.std.proofs.lemmas.Bool.Decides.{nat_tests}
use Rattle.std.proofs.lemmas.List.{map-append}
use Rattle.std.proofs.lemmas.List.Elements.{All-from_recursion, recursion_from_All}
use Rattle.std.proofs.lemmas.List.Sorted.{IsPermutation-refl, IsPermutation-cons}
use Rattle.std.proofs.lemmas.List.Sorted.{IsPermutation-trans, IsPermutation-middle, IsPermutation-append_right, All-permutation}
use Rattle.std.proofs.lemmas.Map.Keys.{IsDistinct-IsPermutation}
use Rattle.iot_tree.specs.Tree.{Nodes}
use Rattle.iot_queue.specs.Queues.{with_head, staged}
use Rattle.iot_queue.specs.declared.items.Item.{Item}
use Rattle.iot_queue.specs.declared.items.Stage.{Stage}
use Rattle.iot_queue.specs.declared.items.Stage.TheVariants as stages
use Rattle.iot_changes.specs.declared.changes.Change.{Change}
use Rattle.iot_changes.specs.declared.changes.Change.TheVariants.{Held, Begun, Fetched, Acted, Ended, Cut, Conflicted, Resolved}
use Rattle.iot_changes.specs.declared.changes.Change.TheVariants.{Repaired, Left, Again}
use Rattle.iot_kept.specs.Bodies.{tids, run_numbers, numbers_of, AreApart, AreUpTo, Rise, AreNumbered}
use Rattle.iot_kept.specs.Changes.{CanFollow, IsSomeOf, with_running, others, anew, with_act, waiting, ended, cut, left}
use Rattle.iot_kept.specs.Changes.{stage_by, stays_in, conflicted, repaired, after}
use Rattle.iot_kept.specs.States.{Transaction, State, after_each, view, has_number, numbered}

-- ---- lists of numbers

pub all_as : (P Q : ℕ → Type 0) (ns : List ℕ) → ((n : ℕ) → P n → Q n) → AllByRecursion P ns → AllByRecursion Q ns
all_as P Q [] goes all = tt
all_as P Q (n ∷ ns) goes all = (goes n all.0, all_as P Q ns goes all.1)

all_push : (P : ℕ → Type 0) (ns : List ℕ) (n : ℕ) → P n → AllByRecursion P ns → AllByRecursion P (ns ++ n ∷ [])
all_push P [] n it all = (it, tt)
all_push P (m ∷ ns) n it all = (all.0, all_push P ns n it all.1)

-- of the later ones
pub all_behind : (P : ℕ → Type 0) (ns ms : List ℕ) → AllByRecursion P (ns ++ ms) → AllByRecursion P ms
all_behind P [] ms all = all
all_behind P (n ∷ ns) ms all = all_behind P ns ms all.1

-- ---- in another order

not_equal : (n m : ℕ) → m ≢ n → eqb n m ≡ false
not_equal n m = grind (arith, nat_tests)

are_not_equal : (n m : ℕ) → eqb n m ≡ false → m ≢ n
are_not_equal n m = grind (arith, nat_tests)

eqb_flips : (n m : ℕ) → eqb n m ≡ eqb m n
eqb_flips n m = grind (arith, nat_tests)

pub apart_distinct : (ns : List ℕ) → AreApart ns → IsDistinct eqb ns
unfolding IsDistinct
apart_distinct [] apart = tt
apart_distinct (n ∷ ns) apart =
    (all_as (λ m. m ≢ n) (λ m. eqb n m ≡ false) ns (not_equal n) apart.0, apart_distinct ns apart.1)

distinct_apart : (ns : List ℕ) → IsDistinct eqb ns → AreApart ns
unfolding IsDistinct
distinct_apart [] distinct = tt
distinct_apart (n ∷ ns) distinct =
    (all_as (λ m. eqb n m ≡ false) (λ m. m ≢ n) ns (are_not_equal n) distinct.0, distinct_apart ns distinct.1)

pub apart_permuted : (ns ms : List ℕ) → IsPermutation ns ms → AreApart ns → AreApart ms
apart_permuted ns ms permuted apart =
    distinct_apart ms (IsDistinct-IsPermutation eqb eqb_flips ns ms permuted (apart_distinct ns apart))

pub up_to_permuted : (last : ℕ) (ns ms : List ℕ) → IsPermutation ns ms → AreUpTo last ns → AreUpTo last ms
up_to_permuted last ns ms permuted up =
    recursion_from_All (λ n. n ≤ last) ms
    (All-permutation (λ n. n ≤ last) ns ms permuted (All-from_recursion (λ n. n ≤ last) ns up))

-- ---- one more, above all others

apart_push : (last : ℕ) (ns : List ℕ) (n : ℕ) → last < n → AreUpTo last ns → AreApart ns → AreApart (ns ++ n ∷ [])
apart_push last [] n less up apart = (tt, tt)
apart_push last (m ∷ ns) n less up apart =
    let here : m ≤ last = up.0 in
    (all_push (λ k. k ≢ m) ns n (λ same. absurd (omega (arith, same, here, less))) apart.0, apart_push last ns n less up.1 apart.1)

up_to_push : (last : ℕ) (ns : List ℕ) (n : ℕ) → last < n → AreUpTo last ns → AreUpTo n (ns ++ n ∷ [])
up_to_push last ns n less up =
    all_push (λ k. k ≤ n) ns n (omega arith) (all_as (λ k. k ≤ last) (λ k. k ≤ n) ns (λ k under. omega (arith, under, less)) up)

rise_push : (last : ℕ) (ns : List ℕ) (n : ℕ) → last < n → AreUpTo last ns → Rise ns → Rise (ns ++ n ∷ [])
rise_push last [] n less up rise = (tt, tt)
rise_push last (m ∷ ns) n less up rise =
    let here : m ≤ last = up.0 in
    (all_push (λ k. m < k) ns n (omega (arith, here, less)) rise.0, rise_push last ns n less up.1 rise.1)

-- ---- the numbers of those that run

pushed_numbers : (running : List Transaction) (it : Transaction) → run_numbers (running ++ it ∷ []) ≡ run_numbers running ++ it.number ∷ []
pushed_numbers running it = map-append (λ (it : Transaction). it.number) running (it ∷ [])

module _ (number : ℕ) where
  -- one changes, but not its number
  with_numbers : (change : Transaction → Transaction) (running : List Transaction) → ((it : Transaction) → (change it).number ≡ it.number)
      → run_numbers (with_running number change running) ≡ run_numbers running
  with_numbers change [] same = refl
  with_numbers change (it ∷ running) same = by_test (with_numbers change running same) (has_number number it)
    where
      by_test : run_numbers (with_running number change running) ≡ run_numbers running → (b : Bool)
          → run_numbers (cond b (change it ∷ running) (it ∷ with_running number change running)) ≡ it.number ∷ run_numbers running
      by_test rest true = ap (λ n. n ∷ run_numbers running) (same it)
      by_test rest false = ap (λ ns. it.number ∷ ns) rest

  -- one goes
  others_all : (P : ℕ → Type 0) (running : List Transaction) → AllByRecursion P (run_numbers running)
      → AllByRecursion P (run_numbers (others number running))
  others_all P [] all = tt
  others_all P (it ∷ running) all = by_test (others_all P running all.1) (has_number number it)
    where
      by_test : AllByRecursion P (run_numbers (others number running)) → (b : Bool)
          → AllByRecursion P (run_numbers (cond b running (it ∷ others number running)))
      by_test rest true = all.1
      by_test rest false = (all.0, rest)

  others_rise : (running : List Transaction) → Rise (run_numbers running) → Rise (run_numbers (others number running))
  others_rise [] rise = tt
  others_rise (it ∷ running) rise = by_test (others_rise running rise.1) (has_number number it)
    where
      by_test : Rise (run_numbers (others number running)) → (b : Bool)
          → Rise (run_numbers (cond b running (it ∷ others number running)))
      by_test rest true = rise.1
      by_test rest false = (others_all (λ m. it.number < m) running rise.0, rest)

  -- and is the first in another order
  found_first : (running : List Transaction) (found : Transaction) → numbered number running ≡ Some found
      → IsPermutation (run_numbers running) (found.number ∷ run_numbers (others number running))
  found_first [] found is = absurd cc
  found_first (it ∷ running) found is = by_test (λ later. found_first running found later) (has_number number it) is
    where
      ns : List ℕ
      ns = run_numbers (others number running)

      by_test : (numbered number running ≡ Some found → IsPermutation (run_numbers running) (found.number ∷ ns)) → (b : Bool)
          → cond b (Some it) (numbered number running) ≡ Some found
          → IsPermutation (it.number ∷ run_numbers running)
          (found.number ∷ run_numbers (cond b running (it ∷ others number running)))
      by_test rest true is =
          let same : it ≡ found = cc in
          subst (λ (one : Transaction). IsPermutation (it.number ∷ run_numbers running) (one.number ∷ run_numbers running)) same
          (IsPermutation-refl (it.number ∷ run_numbers running))
      by_test rest false is =
          IsPermutation-trans (it.number ∷ run_numbers running) (it.number ∷ found.number ∷ ns) (found.number ∷ it.number ∷ ns)
          (IsPermutation-cons it.number (run_numbers running) (found.number ∷ ns) (rest is))
          (IsPermutation-middle (it.number ∷ []) found.number ns)

-- ---- those that wait, and those that run

-- one more waits
joined_numbers : (items : List Item) (item : Item) (running : List Transaction)
    → numbers_of (items ++ item ∷ []) running ≡ tids items ++ item.tid ∷ run_numbers running
joined_numbers items item running =
    ap (λ ns. ns ++ run_numbers running) (map-append (λ (one : Item). one.tid) items (item ∷ []))
    ∙ append_assoc (tids items) (item.tid ∷ []) (run_numbers running)

head_tids : (change : Item → Item) (items : List Item) → ((item : Item) → (change item).tid ≡ item.tid)
    → tids (with_head change items) ≡ tids items
head_tids change [] same = refl
head_tids change (item ∷ items) same = ap (λ (n : ℕ). n ∷ tids items) (same item)

-- ---- every change

-- the same numbers
same_numbered : (state now : State) → numbers_of now.items now.running ≡ numbers_of state.items state.running
    → run_numbers now.running ≡ run_numbers state.running → now.last ≡ state.last → AreNumbered state → AreNumbered now
same_numbered state now numbers run last it = record {
  apart = subst AreApart (sym numbers) it.apart;
  last = subst (λ (n : ℕ). AreUpTo n (numbers_of now.items now.running)) (sym last)
      (subst (AreUpTo state.last) (sym numbers) it.last);
  rise = subst Rise (sym run) it.rise;
}

begun_numbered : (state now : State) (it : Transaction) → it.number ≡ state.last + 1 → now.items ≡ state.items
    → now.running ≡ state.running ++ it ∷ [] → now.last ≡ it.number → AreNumbered state → AreNumbered now
begun_numbered state now it next items running last has =
    let less : state.last < it.number = omega (arith, next) in
    let run : run_numbers now.running ≡ run_numbers state.running ++ it.number ∷ [] =
    ap run_numbers running ∙ pushed_numbers state.running it in
    let numbers : numbers_of now.items now.running ≡ numbers_of state.items state.running ++ it.number ∷ [] =
    (λ i. tids (items i) ++ run i) ∙ sym (append_assoc (tids state.items) (run_numbers state.running) (it.number ∷ [])) in
    record {
      apart = subst AreApart (sym numbers) (apart_push state.last (numbers_of state.items state.running) it.number less has.last has.apart);
      last = subst (λ (n : ℕ). AreUpTo n (numbers_of now.items now.running)) (sym last)
          (subst (AreUpTo it.number) (sym numbers) (up_to_push state.last (numbers_of state.items state.running) it.number less has.last));
      rise = subst Rise (sym run)
          (rise_push state.last (run_numbers state.running) it.number less
          (all_behind (λ n. n ≤ state.last) (tids state.items) (run_numbers state.running) has.last) has.rise);
    }

running_numbered : (number : ℕ) (change : Transaction → Transaction) (state : State) (held : Nodes)
    → ((it : Transaction) → (change it).number ≡ it.number) → AreNumbered state
    → AreNumbered (record state { held = held; running = with_running number change state.running })
running_numbered number change state held same has =
    let run = with_numbers number change state.running same in
    same_numbered state (record state { held = held; running = with_running number change state.running })
    (ap (λ ns. tids state.items ++ ns) run) run refl has

ended_numbered : (number : ℕ) (state : State) (found : Option Transaction) (Is : Transaction → Type 0)
    → numbered number state.running ≡ found → IsSomeOf Is found → AreNumbered state
    → AreNumbered (record state { items = state.items ++ ended found; running = others number state.running })
ended_numbered number state None Is is some has = absurd some
ended_numbered number state (Some it) Is is some has =
    let permuted : IsPermutation (numbers_of state.items state.running) (tids state.items ++ it.number ∷ run_numbers (others number state.running)) =
    IsPermutation-append_right (tids state.items) (run_numbers state.running) (it.number ∷ run_numbers (others number state.running))
    (found_first number state.running it is) in
    let numbers : numbers_of (state.items ++ ended (Some it)) (others number state.running)
    ≡ tids state.items ++ it.number ∷ run_numbers (others number state.running) =
    joined_numbers state.items _ (others number state.running) in
    record {
      apart = subst AreApart (sym numbers) (apart_permuted _ _ permuted has.apart);
      last = subst (AreUpTo state.last) (sym numbers) (up_to_permuted state.last _ _ permuted has.last);
      rise = others_rise number state.running has.rise;
    }

cut_numbered : (acts : ℕ) (running : List Transaction) (state : State) → running ≡ state.running → AreNumbered state
    → AreNumbered (cut acts running state)
cut_numbered acts [] state is has = has
cut_numbered acts (it ∷ running) state is has =
    let numbers : numbers_of state.items state.running
    ≡ numbers_of (state.items ++ waiting acts (take acts it.acts) it ∷ []) running =
    ap (numbers_of state.items) (sym is) ∙ sym (joined_numbers state.items (waiting acts (take acts it.acts) it) running) in
    let rise : Rise (run_numbers (it ∷ running)) = subst (λ (one : List Transaction). Rise (run_numbers one)) (sym is) has.rise in
    record {
      apart = subst AreApart numbers has.apart;
      last = subst (AreUpTo state.last) numbers has.last;
      rise = rise.1;
    }

left_numbered : (items : List Item) (state : State) → items ≡ state.items → AreNumbered state → AreNumbered (left state items)
left_numbered [] state is has = has
left_numbered (item ∷ items) state is has =
    let apart : AreApart (numbers_of (item ∷ items) state.running) =
    subst (λ (queue : List Item). AreApart (numbers_of queue state.running)) (sym is) has.apart in
    let last : AreUpTo state.last (numbers_of (item ∷ items) state.running) =
    subst (λ (queue : List Item). AreUpTo state.last (numbers_of queue state.running)) (sym is) has.last in
    record { apart = apart.1; last = last.1; rise = has.rise }

head_numbered : (change : Item → Item) (state now : State) → ((item : Item) → (change item).tid ≡ item.tid)
    → now.items ≡ with_head change state.items → now.running ≡ state.running → now.last ≡ state.last → AreNumbered state → AreNumbered now
head_numbered change state now same items running last has =
    same_numbered state now
    (λ i. (ap tids items ∙ head_tids change state.items same) i ++ run_numbers (running i)) (ap run_numbers running) last has

stays_numbered : (stage : Option Stage) (state : State) → AreNumbered state → AreNumbered (stays_in stage state)
stays_numbered (Some stage) state has =
    head_numbered (staged stage) state (stays_in (Some stage) state) (λ item. refl) refl refl refl has
stays_numbered None state has = left_numbered state.items state refl has

conflicted_numbered : (items : List Item) (state : State) → AreNumbered state → AreNumbered (conflicted state items)
conflicted_numbered [] state has = has
conflicted_numbered (item ∷ items) state has = stays_numbered (stage_by item.option) state has

pub keeps_numbered : (state : State) (change : Change) → CanFollow state change → AreNumbered state → AreNumbered (after state change)
keeps_numbered state (Held tree) follows has = record { apart = has.apart; last = has.last; rise = has.rise }
keeps_numbered state (Begun number script option) follows has =
    begun_numbered state (after state (Begun number script option))
    (record { number = number; script = script; option = option; base = view state; acts = [] }) follows.1 refl refl refl has
keeps_numbered state (Fetched number tree) follows has =
    running_numbered number (anew (after_each tree state.items)) state tree (λ it. refl) has
keeps_numbered state (Acted number act) follows has = running_numbered number (with_act act) state state.held (λ it. refl) has
keeps_numbered state (Ended number) follows has =
    ended_numbered number state (numbered number state.running) _ refl follows has
keeps_numbered state (Cut number acts) follows has = cut_numbered acts state.running state refl has
keeps_numbered state Conflicted follows has = conflicted_numbered state.items state has
keeps_numbered state (Resolved done access) follows has =
    head_numbered (staged (stages.Resolved done)) state (after state (Resolved done access)) (λ item. refl) refl refl refl has
keeps_numbered state (Repaired script) follows has =
    head_numbered (repaired script) state (after state (Repaired script)) (λ item. refl) refl refl refl has
keeps_numbered state Left follows has = left_numbered state.items state refl has
keeps_numbered state (Again number) follows has = running_numbered number (anew (view state)) state state.held (λ it. refl) has
