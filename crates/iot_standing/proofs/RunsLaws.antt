-- The running transactions of a client, with what is known of each besides, and those of a client of the machine: one by one, by their
-- numbers, and as the lists change.
use Rattle.std.proofs.Common.{◌≡◌, ◌≢◌, ◌==◌, ◌||◌, ◌+◌, ℕ, suc, Bool, true, false, cond, not, List, [], ◌∷◌, ◌++◌, map, find, length}
use Rattle.std.proofs.Common.{Option, Some, None, option_map, slice_get, refl, sym, ap, subst, ◌∙◌, arith}
use Rattle.std.proofs.lemmas.Bool.{cond-true, cond-false}
use Rattle.std.proofs.lemmas.Bool.Decides.{nat_tests}
use Rattle.std.proofs.lemmas.Option.{same_Some}
use Rattle.std.specs.List.{AllByRecursion, list_any}
use Rattle.std.specs.Prelude.{IsSomeAnd, is_some}
use Rattle.iot_lang.specs.Code.{Code}
use Rattle.iot_kept.specs.Bodies.{run_numbers, AreApart, AreUpTo}
use Rattle.iot_kept.specs.Changes.{with_running, others}
use Rattle.iot_kept.specs.States.{Transaction, has_number, numbered}
use Rattle.iot_client.specs.Calls.{live_numbered, second_class, with_live, other_lives, IsSoOf}
use Rattle.iot_client.specs.Ties.{Live, AreBegun, AreRuns, lives as lives_of}
use Rattle.iot_client.specs.declared.interpreter.Interpreter.{Interpreter}
use Rattle.iot_machine.specs.Machine.{classed}
use Rattle.iot_machine.specs.Transactions.{has_any}
use Rattle.iot_standing.specs.Kept.{RunningKept, RunKept}
use Rattle.iot_standing.specs.States.{RunningStands, RunStand}
use Rattle.iot_machine.specs.Clients as clients

-- ---- what is known of them besides

-- if they were begun since the start, by the numbers of those of first class
abbrev pub live_as : (first : List ℕ) → clients.Running → Live
live_as first it = record { first = list_any (λ number. number == it.number) first; code = Some it.script.code }

abbrev pub live_with : (first : List ℕ) → List clients.Running → List Live
live_with first ms = map (live_as first) ms

pub lives_then : (running : List Transaction) (lives : List Live) (first : List ℕ) (ms : List clients.Running)
    → RunStand running lives first ms → lives ≡ live_with first ms
lives_then [] [] first [] stand = refl
lives_then (it ∷ running) (live ∷ lives) first (m ∷ ms) stand =
    λ i. record { first = stand.0.class i; code = stand.0.code i } ∷ lives_then running lives first ms stand.1 i
lives_then running lives first ms stand = absurd stand

pub it_stands : (it : Transaction) (first : List ℕ) (m : clients.Running) → RunningKept it m → RunningStands it (live_as first m) first m
it_stands it first m kept = record {
  number = kept.number;
  name = kept.name;
  code = refl;
  script = kept.script;
  base = kept.base;
  tree = kept.is_tree;
  spelled = kept.spelled;
  acts = kept.count;
  option = kept.option;
  class = refl;
}

pub run_stands : (running : List Transaction) (first : List ℕ) (ms : List clients.Running) → RunKept running ms
    → RunStand running (live_with first ms) first ms
run_stands [] first [] kept = tt
run_stands (it ∷ running) first (m ∷ ms) kept = (it_stands it first m kept.0, run_stands running first ms kept.1)
run_stands running first ms kept = absurd kept

-- all of them were begun since the start
pub are_begun : (running : List Transaction) (lives : List Live) (first : List ℕ) (ms : List clients.Running)
    → RunStand running lives first ms → AreBegun lives
are_begun [] [] first [] stand = tt
are_begun (it ∷ running) (live ∷ lives) first (m ∷ ms) stand =
    (ap is_some stand.0.code, are_begun running lives first ms stand.1)
are_begun running lives first ms stand = absurd stand

-- ---- how many they are

pub many_stand : (running : List Transaction) (lives : List Live) (first : List ℕ) (ms : List clients.Running)
    → RunStand running lives first ms → length running ≡ length ms
many_stand [] [] first [] stand = refl
many_stand (it ∷ running) (live ∷ lives) first (m ∷ ms) stand = ap suc (many_stand running lives first ms stand.1)
many_stand running lives first ms stand = absurd stand

pub any_stand : (running : List Transaction) (lives : List Live) (first : List ℕ) (ms : List clients.Running)
    → RunStand running lives first ms → has_any running ≡ has_any ms
any_stand [] [] first [] stand = refl
any_stand (it ∷ running) (live ∷ lives) first (m ∷ ms) stand = refl
any_stand running lives first ms stand = absurd stand

-- none runs
pub none_kept : (ms : List clients.Running) → RunKept [] ms → ms ≡ []
none_kept [] kept = refl
none_kept (m ∷ ms) kept = absurd kept

pub none_live : (classes : List Bool) (interpreters : List (Option Interpreter)) → AreRuns [] interpreters
    → lives_of classes interpreters ≡ []
none_live [] [] runs = refl
none_live (first ∷ classes) [] runs = refl
none_live classes (i ∷ interpreters) runs = absurd runs

-- ---- the one with a number

same_number : (n number : ℕ) → (n == number) ≡ true → n ≡ number
same_number n number = grind (arith, nat_tests)

other_number : (n number : ℕ) → (n == number) ≡ false → n ≢ number
other_number n number = grind (arith, nat_tests)

is_number : (number : ℕ) → (number == number) ≡ true
is_number number = grind (arith, nat_tests)

not_number : (n number : ℕ) → n ≢ number → (n == number) ≡ false
not_number n number = grind (arith, nat_tests)

pub own_number : (number : ℕ) (running : List Transaction) (own : Transaction) → numbered number running ≡ Some own → own.number ≡ number
own_number number [] own found = absurd cc
own_number number (it ∷ running) own found = by_test (own_number number running own) (has_number number it) refl found
  where
    by_test : (numbered number running ≡ Some own → own.number ≡ number) → (b : Bool) → has_number number it ≡ b
        → cond b (Some it) (numbered number running) ≡ Some own → own.number ≡ number
    by_test rest true is found =
        subst (λ (it : Transaction). it.number ≡ number) (same_Some it own found) (same_number it.number number is)
    by_test rest false is found = rest found

pub number_found : (number : ℕ) (ms : List clients.Running) (it : clients.Running) → find (clients.has_number number) ms ≡ Some it
    → it.number ≡ number
number_found number [] it found = absurd cc
number_found number (m ∷ ms) it found = by_test (number_found number ms it) (clients.has_number number m) refl found
  where
    by_test : (find (clients.has_number number) ms ≡ Some it → it.number ≡ number) → (b : Bool) → clients.has_number number m ≡ b
        → cond b (Some m) (find (clients.has_number number) ms) ≡ Some it → it.number ≡ number
    by_test rest true is found =
        subst (λ (it : clients.Running). it.number ≡ number) (same_Some m it found) (same_number m.number number is)
    by_test rest false is found = rest found

-- what was found on both sides: none, or one that stands for the other
abbrev pub FoundStand : Option Transaction → Option Live → (first : List ℕ) → Option clients.Running → Type 0
FoundStand None None first None = Unit {0}
FoundStand (Some it) (Some live) first (Some m) = RunningStands it live first m
FoundStand it live first m = ⊥

pub found_stand : (number : ℕ) (running : List Transaction) (lives : List Live) (first : List ℕ) (ms : List clients.Running)
    → RunStand running lives first ms
    → FoundStand (numbered number running) (live_numbered number running lives) first (find (clients.has_number number) ms)
found_stand number [] [] first [] stand = tt
found_stand number (it ∷ running) (live ∷ lives) first (m ∷ ms) stand =
    subst (λ (n : ℕ). FoundStand (numbered number (it ∷ running)) (live_numbered number (it ∷ running) (live ∷ lives)) first
    (cond (n == number) (Some m) (find (clients.has_number number) ms))) stand.0.number
    (by_test (found_stand number running lives first ms stand.1) (has_number number it))
  where
    by_test : FoundStand (numbered number running) (live_numbered number running lives) first (find (clients.has_number number) ms)
        → (b : Bool)
        → FoundStand (cond b (Some it) (numbered number running)) (cond b (Some live) (live_numbered number running lives)) first
        (cond b (Some m) (find (clients.has_number number) ms))
    by_test rest true = stand.0
    by_test rest false = rest
found_stand number running lives first ms stand = absurd stand

-- and the first one
pub first_stand : (running : List Transaction) (lives : List Live) (first : List ℕ) (ms : List clients.Running)
    → RunStand running lives first ms → FoundStand (slice_get running 0) (slice_get lives 0) first (slice_get ms 0)
first_stand [] [] first [] stand = tt
first_stand (it ∷ running) (live ∷ lives) first (m ∷ ms) stand = stand.0
first_stand running lives first ms stand = absurd stand

pub found_number : (it : Option Transaction) (live : Option Live) (first : List ℕ) (m : Option clients.Running)
    → FoundStand it live first m → option_map (λ (it : Transaction). it.number) it ≡ option_map (λ (it : clients.Running). it.number) m
found_number None None first None stand = refl
found_number (Some it) (Some live) first (Some m) stand = ap (λ (n : ℕ). Some n) stand.number
found_number it live first m stand = absurd stand

-- so one that the machine finds ..
pub record Running (number : ℕ) (running : List Transaction) (all : List Live) (first : List ℕ) (it : clients.Running) : Type 0 where
  pub own : Transaction
  pub besides : Live
  pub is : numbered number running ≡ Some own
  pub lives : live_numbered number running all ≡ Some besides
  pub stands : RunningStands own besides first it

-- .. and one that the client finds is one of both
pub record RunsAs (number : ℕ) (own : Transaction) (running : List Transaction) (all : List Live) (first : List ℕ)
    (ms : List clients.Running) : Type 0 where
  pub it : clients.Running
  pub besides : Live
  pub is : find (clients.has_number number) ms ≡ Some it
  pub lives : live_numbered number running all ≡ Some besides
  pub stands : RunningStands own besides first it

module _ (number : ℕ) (running : List Transaction) (lives : List Live) (first : List ℕ) (ms : List clients.Running)
    (stand : RunStand running lives first ms) where
  pub running_is : (it : clients.Running) → find (clients.has_number number) ms ≡ Some it → Running number running lives first it
  running_is it found =
      by (numbered number running) (live_numbered number running lives) refl refl
      (subst (FoundStand (numbered number running) (live_numbered number running lives) first) found
      (found_stand number running lives first ms stand))
    where
      by : (o : Option Transaction) (l : Option Live) → numbered number running ≡ o → live_numbered number running lives ≡ l
          → FoundStand o l first (Some it) → Running number running lives first it
      by (Some own) (Some live) is besides stands =
          record { own = own; besides = live; is = is; lives = besides; stands = stands }
      by None None is besides stands = absurd stands
      by o l is besides stands = absurd stands

  pub runs_as : (own : Transaction) → numbered number running ≡ Some own → RunsAs number own running lives first ms
  runs_as own found =
      by (live_numbered number running lives) (find (clients.has_number number) ms) refl refl
      (subst (λ (o : Option Transaction). FoundStand o (live_numbered number running lives) first (find (clients.has_number number) ms))
      found (found_stand number running lives first ms stand))
    where
      by : (l : Option Live) (o : Option clients.Running) → live_numbered number running lives ≡ l
          → find (clients.has_number number) ms ≡ o → FoundStand (Some own) l first o → RunsAs number own running lives first ms
      by (Some live) (Some it) besides is stands =
          record { it = it; besides = live; is = is; lives = besides; stands = stands }
      by None None besides is stands = absurd stands
      by l o besides is stands = absurd stands

  -- or none is one of either
  pub none_there : numbered number running ≡ None → find (clients.has_number number) ms ≡ None
  none_there none =
      by (live_numbered number running lives) (find (clients.has_number number) ms) refl
      (subst (λ (o : Option Transaction). FoundStand o (live_numbered number running lives) first (find (clients.has_number number) ms))
      none (found_stand number running lives first ms stand))
    where
      by : (l : Option Live) (o : Option clients.Running) → find (clients.has_number number) ms ≡ o → FoundStand None l first o
          → find (clients.has_number number) ms ≡ None
      by None None is stands = is
      by l o is stands = absurd stands

-- as they are kept
abbrev pub FoundKept : Option Transaction → Option clients.Running → Type 0
FoundKept None None = Unit {0}
FoundKept (Some it) (Some m) = RunningKept it m
FoundKept it m = ⊥

pub found_kept : (number : ℕ) (running : List Transaction) (ms : List clients.Running) → RunKept running ms
    → FoundKept (numbered number running) (find (clients.has_number number) ms)
found_kept number [] [] kept = tt
found_kept number (it ∷ running) (m ∷ ms) kept =
    subst (λ (n : ℕ). FoundKept (numbered number (it ∷ running)) (cond (n == number) (Some m) (find (clients.has_number number) ms)))
    kept.0.number (by_test (found_kept number running ms kept.1) (has_number number it))
  where
    by_test : FoundKept (numbered number running) (find (clients.has_number number) ms) → (b : Bool)
        → FoundKept (cond b (Some it) (numbered number running)) (cond b (Some m) (find (clients.has_number number) ms))
    by_test rest true = kept.0
    by_test rest false = rest
found_kept number running ms kept = absurd kept

pub kept_both : (number : ℕ) (running : List Transaction) (ms : List clients.Running) → RunKept running ms → (own : Transaction)
    → numbered number running ≡ Some own → (it : clients.Running) → find (clients.has_number number) ms ≡ Some it → RunningKept own it
kept_both number running ms kept own is it found =
    subst (FoundKept (Some own)) found
    (subst (λ (o : Option Transaction). FoundKept o (find (clients.has_number number) ms)) is (found_kept number running ms kept))

-- the machine's of one that the client finds
pub record KeptAs (number : ℕ) (own : Transaction) (ms : List clients.Running) : Type 0 where
  pub it : clients.Running
  pub is : find (clients.has_number number) ms ≡ Some it
  pub kept : RunningKept own it

pub kept_as : (number : ℕ) (running : List Transaction) (ms : List clients.Running) → RunKept running ms → (own : Transaction)
    → numbered number running ≡ Some own → KeptAs number own ms
kept_as number running ms kept own is =
    by (find (clients.has_number number) ms) refl
    (subst (λ (o : Option Transaction). FoundKept o (find (clients.has_number number) ms)) is (found_kept number running ms kept))
  where
    by : (o : Option clients.Running) → find (clients.has_number number) ms ≡ o → FoundKept (Some own) o → KeptAs number own ms
    by (Some it) found kept = record { it = it; is = found; kept = kept }
    by None found kept = absurd kept

-- ---- what is so of one that runs, of its class and of its script

pub record SoOf (Is : Transaction → (first : Bool) → Code → Type 0) (it : Option Transaction) (live : Option Live) : Type 0 where
  pub own : Transaction
  pub besides : Live
  pub code : Code
  pub is : it ≡ Some own
  pub lives : live ≡ Some besides
  pub has : besides.code ≡ Some code
  pub so : Is own besides.first code

pub so_of : (Is : Transaction → (first : Bool) → Code → Type 0) (it : Option Transaction) (live : Option Live) → IsSoOf Is it live
    → SoOf Is it live
so_of Is None live so = absurd so
so_of Is (Some it) None so = absurd so
so_of Is (Some it) (Some live) so = by live.code refl so
  where
    by : (code : Option Code) → live.code ≡ code → IsSomeAnd code (Is it live.first) → SoOf Is (Some it) (Some live)
    by None has so = absurd so
    by (Some code) has so = record { own = it; besides = live; code = code; is = refl; lives = refl; has = has; so = so }

-- ---- the lists change

module _ (number : ℕ) where
  -- one of them changes, ..
  pub kept_with : (change : Transaction → Transaction) (other : clients.Running → clients.Running) (running : List Transaction)
      (ms : List clients.Running) → RunKept running ms
      → ((it : Transaction) (m : clients.Running) → numbered number running ≡ Some it → find (clients.has_number number) ms ≡ Some m
      → RunningKept it m → RunningKept (change it) (other m))
      → RunKept (with_running number change running) (clients.with_running number other ms)
  kept_with change other [] [] kept each = tt
  kept_with change other (it ∷ running) (m ∷ ms) kept each =
      subst (λ (n : ℕ). RunKept (with_running number change (it ∷ running))
      (cond (n == number) (other m ∷ ms) (m ∷ clients.with_running number other ms))) kept.0.number
      (by_test (λ no. kept_with change other running ms kept.1 (λ a b found there.
      each a b (cond-false (has_number number it) (Some it) (numbered number running) no ∙ found)
      (cond-false (clients.has_number number m) (Some m) (find (clients.has_number number) ms) (there_is false no) ∙ there)))
      (has_number number it) refl)
    where
      there_is : (b : Bool) → has_number number it ≡ b → clients.has_number number m ≡ b
      there_is b is = ap (λ (n : ℕ). n == number) (sym kept.0.number) ∙ is

      by_test : (has_number number it ≡ false → RunKept (with_running number change running) (clients.with_running number other ms))
          → (b : Bool) → has_number number it ≡ b
          → RunKept (cond b (change it ∷ running) (it ∷ with_running number change running))
          (cond b (other m ∷ ms) (m ∷ clients.with_running number other ms))
      by_test rest true is = (
        each it m (cond-true (has_number number it) (Some it) (numbered number running) is)
            (cond-true (clients.has_number number m) (Some m) (find (clients.has_number number) ms) (there_is true is)) kept.0,
        kept.1,
      )
      by_test rest false is = (kept.0, rest is)
  kept_with change other running ms kept each = absurd kept

  pub lives_changed : (first : List ℕ) (other : clients.Running → clients.Running)
      → ((m : clients.Running) → live_as first (other m) ≡ live_as first m) → (ms : List clients.Running)
      → live_with first (clients.with_running number other ms) ≡ live_with first ms
  lives_changed first other same [] = refl
  lives_changed first other same (m ∷ ms) = by_test (lives_changed first other same ms) (clients.has_number number m)
    where
      by_test : live_with first (clients.with_running number other ms) ≡ live_with first ms → (b : Bool)
          → live_with first (cond b (other m ∷ ms) (m ∷ clients.with_running number other ms)) ≡ live_as first m ∷ live_with first ms
      by_test rest true = ap (λ (live : Live). live ∷ live_with first ms) (same m)
      by_test rest false = ap (λ (lives : List Live). live_as first m ∷ lives) rest

  pub all_changed : (P : clients.Running → Type 0) (other : clients.Running → clients.Running)
      → ((m : clients.Running) → P m → P (other m)) → (ms : List clients.Running) → AllByRecursion P ms
      → AllByRecursion P (clients.with_running number other ms)
  all_changed P other goes [] all = tt
  all_changed P other goes (m ∷ ms) all = by_test (all_changed P other goes ms all.1) (clients.has_number number m)
    where
      by_test : AllByRecursion P (clients.with_running number other ms) → (b : Bool)
          → AllByRecursion P (cond b (other m ∷ ms) (m ∷ clients.with_running number other ms))
      by_test rest true = (goes m all.0, all.1)
      by_test rest false = (all.0, rest)

  -- .. or goes
  pub kept_others : (running : List Transaction) (ms : List clients.Running) → RunKept running ms
      → RunKept (others number running) (clients.others number ms)
  kept_others [] [] kept = tt
  kept_others (it ∷ running) (m ∷ ms) kept =
      subst (λ (n : ℕ). RunKept (others number (it ∷ running)) (cond (n == number) ms (m ∷ clients.others number ms))) kept.0.number
      (by_test (kept_others running ms kept.1) (has_number number it))
    where
      by_test : RunKept (others number running) (clients.others number ms) → (b : Bool)
          → RunKept (cond b running (it ∷ others number running)) (cond b ms (m ∷ clients.others number ms))
      by_test rest true = kept.1
      by_test rest false = (kept.0, rest)
  kept_others running ms kept = absurd kept

  pub lives_others : (first : List ℕ) (running : List Transaction) (ms : List clients.Running) → RunKept running ms
      → other_lives number running (live_with first ms) ≡ live_with first (clients.others number ms)
  lives_others first [] [] kept = refl
  lives_others first (it ∷ running) (m ∷ ms) kept =
      subst (λ (n : ℕ). other_lives number (it ∷ running) (live_with first (m ∷ ms))
      ≡ live_with first (cond (n == number) ms (m ∷ clients.others number ms))) kept.0.number
      (by_test (lives_others first running ms kept.1) (has_number number it))
    where
      by_test : other_lives number running (live_with first ms) ≡ live_with first (clients.others number ms) → (b : Bool)
          → cond b (live_with first ms) (live_as first m ∷ other_lives number running (live_with first ms))
          ≡ live_with first (cond b ms (m ∷ clients.others number ms))
      by_test rest true = refl
      by_test rest false = ap (λ (lives : List Live). live_as first m ∷ lives) rest
  lives_others first running ms kept = absurd kept

  pub all_others : (P : clients.Running → Type 0) (ms : List clients.Running) → AllByRecursion P ms
      → AllByRecursion P (clients.others number ms)
  all_others P [] all = tt
  all_others P (m ∷ ms) all = by_test (all_others P ms all.1) (clients.has_number number m)
    where
      by_test : AllByRecursion P (clients.others number ms) → (b : Bool) → AllByRecursion P (cond b ms (m ∷ clients.others number ms))
      by_test rest true = all.1
      by_test rest false = (all.0, rest)

  -- it is one of them
  pub all_found : (P : clients.Running → Type 0) (ms : List clients.Running) (it : clients.Running)
      → find (clients.has_number number) ms ≡ Some it → AllByRecursion P ms → P it
  all_found P [] it found all = absurd cc
  all_found P (m ∷ ms) it found all = by_test (λ later. all_found P ms it later all.1) (clients.has_number number m) found
    where
      by_test : (find (clients.has_number number) ms ≡ Some it → P it) → (b : Bool)
          → cond b (Some m) (find (clients.has_number number) ms) ≡ Some it → P it
      by_test rest true found = subst P (same_Some m it found) all.0
      by_test rest false found = rest found

-- one more runs
pub kept_more : (running : List Transaction) (ms : List clients.Running) (it : Transaction) (m : clients.Running) → RunKept running ms
    → RunningKept it m → RunKept (running ++ it ∷ []) (ms ++ m ∷ [])
kept_more [] [] it m kept one = (one, tt)
kept_more (other ∷ running) (another ∷ ms) it m kept one = (kept.0, kept_more running ms it m kept.1 one)
kept_more running ms it m kept one = absurd kept

-- ---- classes

-- taken out of the numbers, one is second class, ..
second_there : (number : ℕ) (first : List ℕ) → list_any (λ n. n == number) (classed number false first) ≡ false
second_there number [] = refl
second_there number (n ∷ first) = by_test (second_there number first) (n == number) refl
  where
    by_test : list_any (λ n. n == number) (classed number false first) ≡ false → (b : Bool) → (n == number) ≡ b
        → list_any (λ k. k == number) (cond (not b) (n ∷ classed number false first) (classed number false first)) ≡ false
    by_test rest true is = rest
    by_test rest false is =
        ap (λ (b : Bool). b || list_any (λ k. k == number) (classed number false first)) is ∙ rest

-- .. and the classes of the others are as before
pub class_stays : (number other : ℕ) → (other ≡ number → ⊥) → (first : List ℕ)
    → list_any (λ n. n == other) (classed number false first) ≡ list_any (λ n. n == other) first
class_stays number other apart [] = refl
class_stays number other apart (n ∷ first) = by_test (class_stays number other apart first) (n == number) refl
  where
    by_test : list_any (λ n. n == other) (classed number false first) ≡ list_any (λ n. n == other) first → (b : Bool)
        → (n == number) ≡ b
        → list_any (λ k. k == other) (cond (not b) (n ∷ classed number false first) (classed number false first))
        ≡ ((n == other) || list_any (λ k. k == other) first)
    by_test rest true is =
        let no : (n == other) ≡ false = not_number n other (λ same. apart (sym same ∙ same_number n number is)) in
        rest ∙ sym (ap (λ (b : Bool). b || list_any (λ k. k == other) first) no)
    by_test rest false is = ap (λ (b : Bool). (n == other) || b) rest

-- one that is of a class from now on
class_there : (number : ℕ) (class : Bool) (first : List ℕ) → list_any (λ n. n == number) (classed number class first) ≡ class
class_there number true first = ap (λ (b : Bool). b || list_any (λ n. n == number) first) (is_number number)
class_there number false first = second_there number first

class_elsewhere : (number other : ℕ) → (other ≡ number → ⊥) → (class : Bool) (first : List ℕ)
    → list_any (λ n. n == other) (classed number class first) ≡ list_any (λ n. n == other) first
class_elsewhere number other apart true first =
    ap (λ (b : Bool). b || list_any (λ n. n == other) first) (not_number number other (λ same. apart (sym same)))
class_elsewhere number other apart false first = class_stays number other apart first

live_elsewhere : (number : ℕ) (class : Bool) (first : List ℕ) (m : clients.Running) → (m.number ≡ number → ⊥)
    → live_as (classed number class first) m ≡ live_as first m
live_elsewhere number class first m apart =
    ap (λ (b : Bool). record { first = b; code = Some m.script.code }) (class_elsewhere number m.number apart class first)

-- of all the others nothing is known that is new
lives_elsewhere : (number : ℕ) (class : Bool) (first : List ℕ) (running : List Transaction) (ms : List clients.Running)
    → RunKept running ms → AllByRecursion (λ n. n ≢ number) (run_numbers running)
    → live_with (classed number class first) ms ≡ live_with first ms
lives_elsewhere number class first [] [] kept apart = refl
lives_elsewhere number class first (it ∷ running) (m ∷ ms) kept apart =
    let other : m.number ≡ number → ⊥ = λ same. apart.0 (kept.0.number ∙ same) in
    λ i. live_elsewhere number class first m other i ∷ lives_elsewhere number class first running ms kept.1 apart.1 i
lives_elsewhere number class first running ms kept apart = absurd kept

-- it is second class, where no number is there twice
pub lives_second : (number : ℕ) (first : List ℕ) (running : List Transaction) (ms : List clients.Running) → RunKept running ms
    → AreApart (run_numbers running)
    → with_live number second_class running (live_with first ms) ≡ live_with (classed number false first) ms
lives_second number first [] [] kept apart = refl
lives_second number first (it ∷ running) (m ∷ ms) kept apart =
    by_test (lives_second number first running ms kept.1 apart.1) (has_number number it) refl
  where
    by_test : with_live number second_class running (live_with first ms) ≡ live_with (classed number false first) ms → (b : Bool)
        → has_number number it ≡ b
        → cond b (second_class (live_as first m) ∷ live_with first ms)
        (live_as first m ∷ with_live number second_class running (live_with first ms))
        ≡ live_as (classed number false first) m ∷ live_with (classed number false first) ms
    by_test rest true is =
        let same : it.number ≡ number = same_number it.number number is in
        let second : false ≡ list_any (λ n. n == m.number) (classed number false first) =
        sym (second_there number first) ∙ ap (λ (k : ℕ). list_any (λ n. n == k) (classed number false first)) (sym same ∙ kept.0.number) in
        let later : live_with first ms ≡ live_with (classed number false first) ms =
        sym (lives_elsewhere number false first running ms kept.1
        (subst (λ (k : ℕ). AllByRecursion (λ n. n ≢ k) (run_numbers running)) same apart.0)) in
        λ i. record { first = second i; code = Some m.script.code } ∷ later i
    by_test rest false is =
        let other : m.number ≡ number → ⊥ = λ same. other_number it.number number is (kept.0.number ∙ same) in
        λ i. sym (live_elsewhere number false first m other) i ∷ rest i
lives_second number first running ms kept apart = absurd kept

-- one begins, of a class, whose number is above all others
above_all : (last number : ℕ) (ns : List ℕ) → number ≡ last + 1 → AreUpTo last ns → AllByRecursion (λ n. n ≢ number) ns
above_all last number [] next below = tt
above_all last number (n ∷ ns) next below =
    (λ same. absurd (omega (arith, same, next, below.0)), above_all last number ns next below.1)

lives_append : (first : List ℕ) (ms : List clients.Running) (m : clients.Running)
    → live_with first (ms ++ m ∷ []) ≡ live_with first ms ++ live_as first m ∷ []
lives_append first [] m = refl
lives_append first (other ∷ ms) m = ap (λ (lives : List Live). live_as first other ∷ lives) (lives_append first ms m)

pub lives_more : (last : ℕ) (class : Bool) (first : List ℕ) (running : List Transaction) (ms : List clients.Running) (m : clients.Running)
    → RunKept running ms → AreUpTo last (run_numbers running) → m.number ≡ last + 1
    → live_with first ms ++ record { first = class; code = Some m.script.code } ∷ []
    ≡ live_with (classed m.number class first) (ms ++ m ∷ [])
lives_more last class first running ms m kept below next =
    (λ i. sym (lives_elsewhere m.number class first running ms kept (above_all last m.number (run_numbers running) next below)) i
    ++ record { first = sym (class_there m.number class first) i; code = Some m.script.code } ∷ [])
    ∙ sym (lives_append (classed m.number class first) ms m)

-- all are second class
pub lives_all_second : (first : List ℕ) (ms : List clients.Running) → map second_class (live_with first ms) ≡ live_with [] ms
lives_all_second first [] = refl
lives_all_second first (m ∷ ms) = ap (λ (lives : List Live). live_as [] m ∷ lives) (lives_all_second first ms)

pub run_second : (running : List Transaction) (lives : List Live) (first : List ℕ) (ms : List clients.Running)
    → RunStand running lives first ms → RunStand running (map second_class lives) [] ms
run_second [] [] first [] stand = tt
run_second (it ∷ running) (live ∷ lives) first (m ∷ ms) stand =
    (again it live m stand.0, run_second running lives first ms stand.1)
  where
    again : (it : Transaction) (live : Live) (m : clients.Running) → RunningStands it live first m
        → RunningStands it (second_class live) [] m
    again it live m stands = record {
      number = stands.number;
      name = stands.name;
      code = stands.code;
      script = stands.script;
      base = stands.base;
      tree = stands.tree;
      spelled = stands.spelled;
      acts = stands.acts;
      option = stands.option;
      class = refl;
    }
run_second running lives first ms stand = absurd stand

-- a number that is none of theirs is taken out
pub run_unyielded : (number : ℕ) (running : List Transaction) (lives : List Live) (first : List ℕ) (ms : List clients.Running)
    → RunStand running lives first ms → find (clients.has_number number) ms ≡ None → RunStand running lives (classed number false first) ms
run_unyielded number [] [] first [] stand none = tt
run_unyielded number (it ∷ running) (live ∷ lives) first (m ∷ ms) stand none =
    by_test (λ later. run_unyielded number running lives first ms stand.1 later) (clients.has_number number m) refl none
  where
    again : (m.number ≡ number → ⊥) → RunningStands it live (classed number false first) m
    again apart = record {
      number = stand.0.number;
      name = stand.0.name;
      code = stand.0.code;
      script = stand.0.script;
      base = stand.0.base;
      tree = stand.0.tree;
      spelled = stand.0.spelled;
      acts = stand.0.acts;
      option = stand.0.option;
      class = stand.0.class ∙ sym (class_stays number m.number apart first);
    }

    by_test : (find (clients.has_number number) ms ≡ None → RunStand running lives (classed number false first) ms) → (b : Bool)
        → clients.has_number number m ≡ b → cond b (Some m) (find (clients.has_number number) ms) ≡ None
        → RunStand (it ∷ running) (live ∷ lives) (classed number false first) (m ∷ ms)
    by_test rest true is none = absurd cc
    by_test rest false is none = (again (other_number m.number number is), rest none)
run_unyielded number running lives first ms stand none = absurd stand
