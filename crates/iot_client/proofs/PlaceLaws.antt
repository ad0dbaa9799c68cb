-- The transaction with a number among those that run: its place, its class and its interpreter.
use Rattle.std.proofs.Common.{◌≡◌, ◌≢◌, ◌==◌, ◌<◌, ℕ, zero, suc, Bool, true, false, List, [], ◌∷◌, length, Option, Some, None, MatchOption}
use Rattle.std.proofs.Common.{slice_index_or, refl, sym, ap, subst, ◌∙◌, arith}
use Rattle.std.proofs.lemmas.Bool.{cond-true, cond-false}
use Rattle.std.proofs.lemmas.Bool.Decides.{nat_tests}
use Rattle.std.proofs.Math.ListN.{get_or-map}
use Rattle.std.specs.List.{AllByRecursion, AllWithin, HoldsAt}
use Rattle.std.specs.Prelude.{IsSome, IsSomeAnd, Vec}
use Rattle.std.specs.Vec.{vec_len}
use Rattle.std.specs.declared.alloc.Global.{Global}
use Rattle.iot_lang.specs.Code.{Code}
use Rattle.iot_kept.specs.States.{Transaction, numbered}
use Rattle.iot_kept.specs.Changes.{IsSomeOf, RunIs}
use Rattle.iot_kept.specs.Kept.{memory_of}
use Rattle.iot_kept.specs.Memory.{transaction, transactions, classes_of, SeesOwn}
use Rattle.iot_kept.specs.declared.running.Running.{Running}
use Rattle.iot_client.specs.Calls.{live_numbered, IsSoOf}
use Rattle.iot_client.specs.Doing.{IsAt, IsSoOfOne}
use Rattle.iot_client.specs.Ties.{state_of, classes_in, Live, code_in, lives, AreBegun, IsRunIfAny, AreRuns}
use Rattle.iot_client.specs.declared.client.Client.{Client}
use Rattle.iot_client.specs.declared.interpreter.Interpreter.{Interpreter}

-- ---- the first one with a number

is_other : (number other : ℕ) → other ≢ number → (other == number) ≡ false
is_other number other = grind (arith, nat_tests)

is_it : (number other : ℕ) → other ≡ number → (other == number) ≡ true
is_it number other = grind (arith, nat_tests)

is_equal : (number other : ℕ) → (other == number) ≡ true → other ≡ number
is_equal number other = grind (arith, nat_tests)

none_has : (number : ℕ) (lent : List Running) → AllWithin (λ it. it.tid ≢ number) lent 0 (length lent)
    → numbered number (transactions lent) ≡ None
none_has number [] all = refl
none_has number (it ∷ lent) all =
    cond-false (it.tid == number) _ _ (is_other number it.tid (all 0 it (omega arith) (omega arith)))
    ∙ none_has number lent (λ k d low less. all (suc k) d (omega arith) (omega (arith, less)))

first_has : (number : ℕ) (lent : List Running) (at : ℕ) → at < length lent → HoldsAt (λ it. it.tid ≡ number) lent at
    → AllWithin (λ it. it.tid ≢ number) lent 0 at → IsAt number (transactions lent) at
first_has number [] at less has before = absurd (omega (arith, less))
first_has number (it ∷ lent) zero less has before = is_it number it.tid (has it)
first_has number (it ∷ lent) (suc at) less has before = (
  is_other number it.tid (before 0 it (omega arith) (omega arith)),
  first_has number lent at (omega (arith, less)) has (λ k d low below. before (suc k) d (omega arith) (omega (arith, below))),
)

pub place_found : (number : ℕ) (lent : List Running) (running : List Transaction) (found : Option ℕ) → transactions lent ≡ running
    → MatchOption found (AllWithin (λ it. it.tid ≢ number) lent 0 (length lent))
    (λ at. (at < length lent) × HoldsAt (λ it. it.tid ≡ number) lent at × AllWithin (λ it. it.tid ≢ number) lent 0 at)
    → MatchOption found (numbered number running ≡ None) (IsAt number running)
place_found number lent running None is all =
    subst (λ (running : List Transaction). numbered number running ≡ None) is (none_has number lent all)
place_found number lent running (Some at) is found =
    subst (λ (running : List Transaction). IsAt number running at) is (first_has number lent at found.0 found.1 found.2)

pub at_within : (number : ℕ) (running : List Transaction) (at : ℕ) → IsAt number running at → at < length running
at_within number [] at is = absurd is
at_within number (it ∷ running) zero is = omega arith
at_within number (it ∷ running) (suc at) is =
    let less : at < length running = at_within number running at is.1 in
    omega (arith, less)

-- ---- it, its class and its interpreter

-- those of the one with this number, which is at this place
pub record Here (number at : ℕ) (running : List Transaction) (classes : List Bool) (interpreters : List (Option Interpreter)) : Type 0 where
  pub it : Transaction
  pub first : Bool
  pub interpreter : Option Interpreter
  pub run_at : (d : Transaction) → slice_index_or running at d ≡ it
  pub class_at : (d : Bool) → slice_index_or classes at d ≡ first
  pub interpreter_at : (d : Option Interpreter) → slice_index_or interpreters at d ≡ interpreter
  pub same : it.number ≡ number
  pub found : numbered number running ≡ Some it
  pub live : live_numbered number running (lives classes interpreters) ≡ Some (record { first = first; code = code_in interpreter })
  pub run : IsRunIfAny it interpreter
  pub begun : AreBegun (lives classes interpreters) → IsSome (code_in interpreter)

pub here : (number : ℕ) (running : List Transaction) (classes : List Bool) (interpreters : List (Option Interpreter)) (at : ℕ)
    → length classes ≡ length running → IsAt number running at → AreRuns running interpreters → Here number at running classes interpreters
here number [] classes interpreters at count is runs = absurd is
here number (it ∷ running) [] interpreters at count is runs = absurd (omega (arith, count))
here number (it ∷ running) (first ∷ classes) [] at count is runs = absurd runs
here number (it ∷ running) (first ∷ classes) (interpreter ∷ interpreters) zero count is runs = record {
  it = it;
  first = first;
  interpreter = interpreter;
  run_at = λ d. refl;
  class_at = λ d. refl;
  interpreter_at = λ d. refl;
  same = is_equal number it.number is;
  found = cond-true _ _ _ is;
  live = cond-true _ _ _ is;
  run = runs.0;
  begun = λ all. all.0;
}
here number (it ∷ running) (first ∷ classes) (interpreter ∷ interpreters) (suc at) count is runs =
    let rest : Here number at running classes interpreters =
    here number running classes interpreters at (omega (arith, count)) is.1 runs.1 in
    record {
      it = rest.it;
      first = rest.first;
      interpreter = rest.interpreter;
      run_at = rest.run_at;
      class_at = rest.class_at;
      interpreter_at = rest.interpreter_at;
      same = rest.same;
      found = cond-false _ _ _ is.0 ∙ rest.found;
      live = cond-false _ _ _ is.0 ∙ rest.live;
      run = rest.run;
      begun = λ all. rest.begun all.1;
    }

-- what is so of it, if its script is known
module _ (number at : ℕ) (running : List Transaction) (classes : List Bool) (interpreters : List (Option Interpreter))
    (h : Here number at running classes interpreters) (Is : Transaction → Bool → Code → Type 0) where
  abbrev alive : Live
  alive = record { first = h.first; code = code_in h.interpreter }

  pub so_here : IsSomeAnd (code_in h.interpreter) (Is h.it h.first) → IsSoOfOne Is number running (lives classes interpreters)
  so_here is =
      subst (λ (live : Option Live). IsSoOf Is (numbered number running) live) (sym h.live)
      (subst (λ (it : Option Transaction). IsSoOf Is it (Some alive)) (sym h.found) is)

  pub of_here : IsSoOfOne Is number running (lives classes interpreters) → IsSomeAnd (code_in h.interpreter) (Is h.it h.first)
  of_here is =
      subst (λ (it : Option Transaction). IsSoOf Is it (Some alive)) h.found
      (subst (λ (live : Option Live). IsSoOf Is (numbered number running) live) h.live is)

-- of one that does not run nothing is
pub not_so : (Is : Transaction → Bool → Code → Type 0) (number : ℕ) (running : List Transaction) (all : List Live)
    → numbered number running ≡ None → IsSoOfOne Is number running all → ⊥
not_so Is number running all none is = subst (λ (it : Option Transaction). IsSoOf Is it (live_numbered number running all)) none is

-- what is so of the transaction alone
pub run_here : (Q : Transaction → Type 0) (number : ℕ) (running : List Transaction) (it : Transaction) → numbered number running ≡ Some it
    → Q it → RunIs number Q running
run_here Q number running it found is = subst (IsSomeOf Q) (sym found) is

-- ---- in a client

pub lent_count : (lent : List Running) → length (classes_of lent) ≡ length (transactions lent)
lent_count [] = refl
lent_count (it ∷ lent) = let rest : length (classes_of lent) ≡ length (transactions lent) = lent_count lent in omega (arith, rest)

pub count_is : {D : Type 0} (client : Client D) → length (classes_in client) ≡ length (state_of client).running
count_is client = lent_count (memory_of client.kept).durable.running.items

pub here_in : {D : Type 0} (client : Client D) (number at : ℕ) → AreRuns (state_of client).running client.interpreters.items
    → IsAt number (state_of client).running at → Here number at (state_of client).running (classes_in client) client.interpreters.items
here_in client number at runs is =
    here number (state_of client).running (classes_in client) client.interpreters.items at (count_is client) is runs

-- ---- what is lent of those that run

module _ (lent : List Running) (at : ℕ) (one : Running) (is : one ≡ slice_index_or lent at one) where
  pub lent_run : (running : List Transaction) (it : Transaction) → transactions lent ≡ running
      → ((d : Transaction) → slice_index_or running at d ≡ it) → transaction one ≡ it
  lent_run running it same there =
      ap transaction is ∙ sym (get_or-map transaction lent at one)
      ∙ ap (λ (all : List Transaction). slice_index_or all at (transaction one)) same ∙ there (transaction one)

  pub lent_class : (classes : List Bool) (first : Bool) → classes_of lent ≡ classes
      → ((d : Bool) → slice_index_or classes at d ≡ first) → one.first ≡ first
  lent_class classes first same there =
      ap (λ (it : Running). it.first) is ∙ sym (get_or-map (λ (it : Running). it.first) lent at one)
      ∙ ap (λ (all : List Bool). slice_index_or all at one.first) same ∙ there one.first

pub lent_within : (number : ℕ) (lent : List Running) (running : List Transaction) (at : ℕ) → transactions lent ≡ running
    → IsAt number running at → at < length lent
lent_within number lent running at same is =
    subst (λ (n : ℕ). at < n) (by lent) (at_within number (transactions lent) at
    (subst (λ (all : List Transaction). IsAt number all at) (sym same) is))
  where
    by : (lent : List Running) → length (transactions lent) ≡ length lent
    by [] = refl
    by (it ∷ lent) = let rest : length (transactions lent) ≡ length lent = by lent in omega (arith, rest)

-- what is so of each is so of the one there
pub lent_sees : (lent : List Running) (at : ℕ) (d : Running) → at < length lent → AllByRecursion SeesOwn lent
    → SeesOwn (slice_index_or lent at d)
lent_sees [] at d less all = absurd (omega (arith, less))
lent_sees (it ∷ lent) zero d less all = all.0
lent_sees (it ∷ lent) (suc at) d less all = lent_sees lent at d (omega (arith, less)) all.1

-- ---- the interpreters

pub runs_count : (running : List Transaction) (interpreters : List (Option Interpreter)) → AreRuns running interpreters
    → length interpreters ≡ length running
runs_count [] [] runs = refl
runs_count [] (i ∷ interpreters) runs = absurd runs
runs_count (it ∷ running) [] runs = absurd runs
runs_count (it ∷ running) (i ∷ interpreters) runs =
    let rest : length interpreters ≡ length running = runs_count running interpreters runs.1 in
    omega (arith, rest)

pub interpreter_within : (running : List Transaction) (interpreters : Vec (Option Interpreter) Global) (at : ℕ)
    → AreRuns running interpreters.items → at < length running → at < vec_len interpreters
interpreter_within running interpreters at runs less =
    subst (λ n. at < n) (sym (interpreters.ok.0 ∙ runs_count running interpreters.items runs)) less

-- one that was begun since the start has one
pub begun_at : (running : List Transaction) (classes : List Bool) (interpreters : List (Option Interpreter)) (at : ℕ)
    (interpreter : Option Interpreter) → length classes ≡ length running → AreRuns running interpreters → at < length running
    → interpreter ≡ slice_index_or interpreters at interpreter → AreBegun (lives classes interpreters) → IsSome (code_in interpreter)
begun_at [] classes interpreters at o count runs less is begun = absurd (omega (arith, less))
begun_at (it ∷ running) [] interpreters at o count runs less is begun = absurd (omega (arith, count))
begun_at (it ∷ running) (first ∷ classes) [] at o count runs less is begun = absurd runs
begun_at (it ∷ running) (first ∷ classes) (i ∷ interpreters) zero o count runs less is begun =
    subst (λ (i : Option Interpreter). IsSome (code_in i)) (sym is) begun.0
begun_at (it ∷ running) (first ∷ classes) (i ∷ interpreters) (suc at) o count runs less is begun =
    begun_at running classes interpreters at o (omega (arith, count)) runs.1 (omega (arith, less)) is begun.1
