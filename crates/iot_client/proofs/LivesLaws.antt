-- What changes make of what is known of those that run: of their classes, and of their scripts.
use Rattle.std.proofs.Common.{◌≡◌, ◌==◌, ℕ, zero, suc, ◌+◌, ◌≤◌, Bool, true, false, cond, List, [], ◌∷◌, ◌++◌, drop, length, map, Option}
use Rattle.std.proofs.Common.{Some, None}
use Rattle.std.proofs.Common.{replicate, slice_index_or, slice_set, refl, sym, ap, subst, ◌∙◌, arith}
use Rattle.std.proofs.lemmas.Bool.{cond-true, cond-false}
use Rattle.std.proofs.lemmas.Bool.Decides.{nat_tests}
use Rattle.std.specs.List.{AllByRecursion, remove}
use Rattle.std.specs.Option.{is_some}
use Rattle.std.specs.Prelude.{option_map}
use Rattle.iot_lang.specs.Code.{Code}
use Rattle.iot_queue.specs.Queues.{head_of}
use Rattle.iot_queue.specs.declared.items.Item.{Item}
use Rattle.iot_kept.specs.Bodies.{run_numbers, numbers_of, AreUpTo}
use Rattle.iot_kept.specs.Memory.{AreSecond, other_classes, with_class}
use Rattle.iot_kept.specs.States.{Transaction, has_number, numbered}
use Rattle.iot_client.specs.Calls.{live_numbered, second_class, with_live, other_lives, yielded_to, lives_after, IsSoOf}
use Rattle.iot_client.specs.Doing.{IsAt, IsSoOfOne}
use Rattle.iot_client.specs.Ties.{Live, code_in, lives, IsBegun, AreBegun, AreFound, AreRuns}
use Rattle.iot_client.specs.declared.ended.Ended.{Ended}
use Rattle.iot_client.specs.declared.ended.Ended.TheVariants.{Joined, Again}
use Rattle.iot_client.specs.declared.interpreter.Interpreter.{Interpreter}

abbrev live_by : Bool → Option Interpreter → Live
live_by first interpreter = record { first = first; code = code_in interpreter }

-- ---- classes

-- the classes of those of which this is known
pub classes_known : (classes : List Bool) (interpreters : List (Option Interpreter)) → length classes ≡ length interpreters
    → classes ≡ map (λ (live : Live). live.first) (lives classes interpreters)
classes_known [] [] count = refl
classes_known [] (i ∷ interpreters) count = refl
classes_known (first ∷ classes) [] count = absurd (omega (arith, count))
classes_known (first ∷ classes) (i ∷ interpreters) count =
    ap (λ (later : List Bool). first ∷ later) (classes_known classes interpreters (omega (arith, count)))

-- all are second class now
pub all_second : (new old : List Bool) (interpreters : List (Option Interpreter)) → length new ≡ length old → AreSecond new
    → lives new interpreters ≡ map second_class (lives old interpreters)
all_second [] [] interpreters count second = refl
all_second [] (first ∷ old) interpreters count second = absurd (omega (arith, count))
all_second (class ∷ new) [] interpreters count second = absurd (omega (arith, count))
all_second (class ∷ new) (first ∷ old) [] count second = refl
all_second (class ∷ new) (first ∷ old) (i ∷ interpreters) count second =
    λ k. live_by (second.0 k) i ∷ all_second new old interpreters (omega (arith, count)) second.1 k

-- that says nothing of scripts
pub begun_second : (all : List Live) → AreBegun all → AreBegun (map second_class all)
begun_second [] begun = tt
begun_second (live ∷ all) begun = (begun.0, begun_second all begun.1)

-- they were found by the start
pub are_found : (classes : List Bool) (n : ℕ) → AreSecond classes → AreFound (lives classes (replicate n None))
are_found [] n second = tt
are_found (first ∷ classes) zero second = tt
are_found (first ∷ classes) (suc n) second = (record { second = second.0; none = refl }, are_found classes n second.1)

module _ (number : ℕ) where
  -- one is second class now
  pub one_second : (running : List Transaction) (classes : List Bool) (interpreters : List (Option Interpreter))
      → lives (with_class number false running classes) interpreters ≡ with_live number second_class running (lives classes interpreters)
  one_second [] classes interpreters = refl
  one_second (it ∷ running) [] interpreters = refl
  one_second (it ∷ running) (first ∷ classes) [] = by_test (has_number number it)
    where
      by_test : (b : Bool) → lives (cond b (false ∷ classes) (first ∷ with_class number false running classes)) [] ≡ []
      by_test true = refl
      by_test false = refl
  one_second (it ∷ running) (first ∷ classes) (i ∷ interpreters) =
      by_test (one_second running classes interpreters) (has_number number it)
    where
      by_test : lives (with_class number false running classes) interpreters
          ≡ with_live number second_class running (lives classes interpreters)
          → (b : Bool)
          → lives (cond b (false ∷ classes) (first ∷ with_class number false running classes)) (i ∷ interpreters)
          ≡ cond b (second_class (live_by first i) ∷ lives classes interpreters)
          (live_by first i ∷ with_live number second_class running (lives classes interpreters))
      by_test rest true = refl
      by_test rest false = ap (λ (later : List Live). live_by first i ∷ later) rest

  begun_with : (running : List Transaction) (all : List Live) → AreBegun all → AreBegun (with_live number second_class running all)
  begun_with [] all begun = begun
  begun_with (it ∷ running) [] begun = tt
  begun_with (it ∷ running) (live ∷ all) begun = by_test (begun_with running all begun.1) (has_number number it)
    where
      by_test : AreBegun (with_live number second_class running all) → (b : Bool)
          → AreBegun (cond b (second_class live ∷ all) (live ∷ with_live number second_class running all))
      by_test rest true = (begun.0, begun.1)
      by_test rest false = (begun.0, rest)

  -- that says nothing of scripts
  pub begun_yielded : (items : List Item) (running : List Transaction) (all : List Live) → AreBegun all
      → AreBegun (yielded_to items number running all)
  begun_yielded [] running all begun = begun
  begun_yielded (item ∷ items) running all begun = begun_with running all begun

  begun_others : (running : List Transaction) (all : List Live) → AreBegun all → AreBegun (other_lives number running all)
  begun_others [] all begun = begun
  begun_others (it ∷ running) [] begun = tt
  begun_others (it ∷ running) (live ∷ all) begun = by_test (begun_others running all begun.1) (has_number number it)
    where
      by_test : AreBegun (other_lives number running all) → (b : Bool) → AreBegun (cond b all (live ∷ other_lives number running all))
      by_test rest true = begun.1
      by_test rest false = (begun.0, rest)

  -- so it is of those that are left at an end
  pub begun_after : (ended : Ended) (running : List Transaction) (all : List Live) → AreBegun all
      → AreBegun (lives_after ended number running all)
  begun_after (Joined tid first) running all begun = begun_others running all begun
  begun_after (Again read question) running all begun = begun

  -- one goes
  pub one_goes : (running : List Transaction) (classes : List Bool) (interpreters : List (Option Interpreter)) (at : ℕ)
      → IsAt number running at → AreRuns running interpreters
      → lives (other_classes number running classes) (remove interpreters at) ≡ other_lives number running (lives classes interpreters)
  one_goes [] classes interpreters at is runs = absurd is
  one_goes (it ∷ running) classes [] at is runs = absurd runs
  one_goes (it ∷ running) [] (i ∷ interpreters) at is runs = refl
  one_goes (it ∷ running) (first ∷ classes) (i ∷ interpreters) zero is runs =
      ap (λ (later : List Bool). lives later interpreters)
      (cond-true (has_number number it) classes (first ∷ other_classes number running classes) is)
      ∙ sym (cond-true (has_number number it) (lives classes interpreters) _ is)
  one_goes (it ∷ running) (first ∷ classes) (i ∷ interpreters) (suc at) is runs =
      ap (λ (later : List Bool). lives later (i ∷ remove interpreters at))
      (cond-false (has_number number it) classes (first ∷ other_classes number running classes) is.0)
      ∙ ap (λ (later : List Live). live_by first i ∷ later) (one_goes running classes interpreters at is.1 runs.1)
      ∙ sym (cond-false (has_number number it) (lives classes interpreters) _ is.0)

-- one more was begun
pub begun_more : (all : List Live) (one : Live) → IsBegun one → AreBegun all → AreBegun (all ++ one ∷ [])
begun_more [] one is begun = (is, tt)
begun_more (live ∷ all) one is begun = (begun.0, begun_more all one is begun.1)

-- the first one goes
pub first_goes : (classes : List Bool) (interpreters : List (Option Interpreter)) → length classes ≡ length interpreters
    → lives (drop 1 classes) (remove interpreters 0) ≡ drop 1 (lives classes interpreters)
first_goes [] interpreters count = refl
first_goes (first ∷ classes) [] count = absurd (omega (arith, count))
first_goes (first ∷ classes) (i ∷ interpreters) count = refl

-- ---- scripts

-- another interpreter runs the same script
pub same_script : (classes : List Bool) (interpreters : List (Option Interpreter)) (at : ℕ) (old new : Option Interpreter)
    → ((d : Option Interpreter) → slice_index_or interpreters at d ≡ old) → code_in new ≡ code_in old
    → lives classes (slice_set interpreters at new) ≡ lives classes interpreters
same_script classes [] at old new is same = refl
same_script [] (i ∷ interpreters) at old new is same = refl
same_script (first ∷ classes) (i ∷ interpreters) zero old new is same =
    ap (λ (code : Option Code). record { first = first; code = code } ∷ lives classes interpreters) (same ∙ sym (ap code_in (is i)))
same_script (first ∷ classes) (i ∷ interpreters) (suc at) old new is same =
    ap (λ (later : List Live). live_by first i ∷ later) (same_script classes interpreters at old new is same)

-- ---- one begins

pub one_more : (classes : List Bool) (interpreters : List (Option Interpreter)) (first : Bool) (i : Option Interpreter)
    → length classes ≡ length interpreters
    → lives (classes ++ first ∷ []) (interpreters ++ i ∷ []) ≡ lives classes interpreters ++ live_by first i ∷ []
one_more [] [] first i count = refl
one_more [] (j ∷ interpreters) first i count = absurd (omega (arith, count))
one_more (class ∷ classes) [] first i count = absurd (omega (arith, count))
one_more (class ∷ classes) (j ∷ interpreters) first i count =
    ap (λ (later : List Live). live_by class j ∷ later) (one_more classes interpreters first i (omega (arith, count)))

-- no other one has its number
abbrev AreOthers : ℕ → List Transaction → Type 0
AreOthers number running = AllByRecursion (λ (it : Transaction). has_number number it ≡ false) running

is_other : (last number other : ℕ) → number ≡ last + 1 → other ≤ last → (other == number) ≡ false
is_other last number other next below = grind (arith, nat_tests)

is_same : (number : ℕ) → (number == number) ≡ true
is_same number = grind (arith, nat_tests)

run_others : (last number : ℕ) (running : List Transaction) → number ≡ last + 1 → AreUpTo last (run_numbers running)
    → AreOthers number running
run_others last number [] next below = tt
run_others last number (it ∷ running) next below =
    (is_other last number it.number next below.0, run_others last number running next below.1)

pub all_others : (last number : ℕ) (items : List Item) (running : List Transaction) → number ≡ last + 1
    → AreUpTo last (numbers_of items running) → AreOthers number running
all_others last number [] running next below = run_others last number running next below
all_others last number (item ∷ items) running next below = all_others last number items running next below.1

-- so it is the one that gets the class
pub last_class : (number : ℕ) (running : List Transaction) (it : Transaction) (classes : List Bool) (first : Bool) → it.number ≡ number
    → length classes ≡ length running → AreOthers number running
    → with_class number first (running ++ it ∷ []) (classes ++ false ∷ []) ≡ classes ++ first ∷ []
last_class number [] it [] first is count others =
    cond-true (has_number number it) (first ∷ []) _ (ap (λ (n : ℕ). n == number) is ∙ is_same number)
last_class number [] it (class ∷ classes) first is count others = absurd (omega (arith, count))
last_class number (one ∷ running) it [] first is count others = absurd (omega (arith, count))
last_class number (one ∷ running) it (class ∷ classes) first is count others =
    cond-false (has_number number one) _ (class ∷ with_class number first (running ++ it ∷ []) (classes ++ false ∷ [])) others.0
    ∙ ap (λ (later : List Bool). class ∷ later) (last_class number running it classes first is (omega (arith, count)) others.1)

pub begun_lives : (number : ℕ) (running more : List Transaction) (it : Transaction) (classes noted set : List Bool)
    (interpreters pushed : List (Option Interpreter)) (first : Bool) (i : Interpreter) (code : Code) → it.number ≡ number
    → length classes ≡ length running → length classes ≡ length interpreters → AreOthers number running → more ≡ running ++ it ∷ []
    → noted ≡ classes ++ false ∷ [] → set ≡ with_class number first more noted → pushed ≡ interpreters ++ Some i ∷ []
    → i.script.value ≡ code → lives set pushed ≡ lives classes interpreters ++ record { first = first; code = Some code } ∷ []
begun_lives number running more it classes noted set interpreters pushed first i code is count same others runs second made push code_is =
    let last : set ≡ classes ++ first ∷ [] =
    made ∙ (λ k. with_class number first (runs k) (second k)) ∙ last_class number running it classes first is count others in
    (λ k. lives (last k) (push k))
    ∙ one_more classes interpreters first (Some i) same
    ∙ ap (λ (code : Code). lives classes interpreters ++ record { first = first; code = Some code } ∷ []) code_is

-- ---- the one with a number

-- once it is second class
live_with : (number : ℕ) (running : List Transaction) (all : List Live)
    → live_numbered number running (with_live number second_class running all) ≡ option_map second_class (live_numbered number running all)
live_with number [] all = refl
live_with number (it ∷ running) [] = refl
live_with number (it ∷ running) (live ∷ all) = by_test (live_with number running all) (has_number number it) refl
  where
    later : List Live
    later = with_live number second_class running all

    by_test : live_numbered number running later ≡ option_map second_class (live_numbered number running all) → (b : Bool)
        → has_number number it ≡ b
        → live_numbered number (it ∷ running) (with_live number second_class (it ∷ running) (live ∷ all))
        ≡ option_map second_class (live_numbered number (it ∷ running) (live ∷ all))
    by_test rest true is =
        ap (live_numbered number (it ∷ running)) (cond-true (has_number number it) (second_class live ∷ all) (live ∷ later) is)
        ∙ cond-true (has_number number it) (Some (second_class live)) (live_numbered number running all) is
        ∙ sym (ap (option_map second_class) (cond-true (has_number number it) (Some live) (live_numbered number running all) is))
    by_test rest false is =
        ap (live_numbered number (it ∷ running)) (cond-false (has_number number it) (second_class live ∷ all) (live ∷ later) is)
        ∙ cond-false (has_number number it) (Some live) (live_numbered number running later) is
        ∙ rest
        ∙ sym (ap (option_map second_class) (cond-false (has_number number it) (Some live) (live_numbered number running all) is))

so_second : (P : Transaction → Code → Type 0) (it : Option Transaction) (live : Option Live) → IsSoOf (λ it first code. P it code) it live
    → IsSoOf (λ it first code. P it code) it (option_map second_class live)
so_second P None live is = absurd is
so_second P (Some it) None is = absurd is
so_second P (Some it) (Some live) is = is

-- what does not depend on its class is so of it if transactions wait
pub so_yielded : (P : Transaction → Code → Type 0) (items : List Item) (number : ℕ) (running : List Transaction) (all : List Live)
    → IsSoOfOne (λ it first code. P it code) number running all
    → IsSoOfOne (λ it first code. P it code) number running (yielded_to items number running all)
so_yielded P [] number running all is = is
so_yielded P (item ∷ items) number running all is =
    subst (IsSoOf (λ it first code. P it code) (numbered number running)) (sym (live_with number running all))
    (so_second P (numbered number running) (live_numbered number running all) is)

-- if transactions wait
pub yields_to : (items : List Item) (head : Option Item) (number : ℕ) (running : List Transaction) (all second : List Live)
    → head ≡ head_of items → is_some head ≡ true → second ≡ with_live number second_class running all
    → second ≡ yielded_to items number running all
yields_to [] head number running all second first some made =
    let none : is_some (head_of []) ≡ true = subst (λ (it : Option Item). is_some it ≡ true) first some in
    absurd cc
yields_to (item ∷ items) head number running all second first some made = made

pub yields_not : (items : List Item) (head : Option Item) (number : ℕ) (running : List Transaction) (all : List Live)
    → head ≡ head_of items → is_some head ≡ false → all ≡ yielded_to items number running all
yields_not [] head number running all first none = refl
yields_not (item ∷ items) head number running all first none =
    let some : is_some (head_of (item ∷ items)) ≡ false = subst (λ (it : Option Item). is_some it ≡ false) first none in
    absurd cc

-- what something is made of is there if that is
pub map_some : {A B : Type 0} (f : A → B) (o : Option A) → is_some (option_map f o) ≡ is_some o
map_some f None = refl
map_some f (Some a) = refl
