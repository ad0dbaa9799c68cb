-- What a laptop finds among the transactions that run; and that a call that nothing refuses fails as a disk or the memory does.
use Rattle.std.{proofs.Common.drop, proofs.Common.option_map, proofs.Common.◌==◌, proofs.Common.◌||◌, specs.Prelude.leb}
use Rattle.iot_client.specs.Calls.{Refuses, idle, is_over_if_any}
use Rattle.iot_kept.specs.{Memory.classes_of, Memory.transaction, Memory.transactions, declared.running.Running.Running}
use Rattle.iot_laptop.proofs.Common.{Bool, Client, ClientFault, Err, IfErr, Item, Laptop}
use Rattle.iot_laptop.proofs.Common.{List, Live, MayFail, Medium, None, Ok, Option, Result, Some, Stands, Transaction, ap, arith, false}
use Rattle.iot_laptop.proofs.Common.{find, head_of, length, live_in, live_numbered, map, numbered, refl, state_in, sym, ℕ, [], ◌∷◌, ◌≡◌}
use Rattle.iot_laptop.specs.{Below.may_end_if_any, Laptops.IsFirstOf}
use Rattle.{iot_standing.proofs.StatesLaws.found_stands, iot_tree.specs.declared.limits.TheConstants.ACT_LIMIT}

abbrev pub has_tid : ℕ → Running → Bool
has_tid number it = it.tid == number

pub found_transaction : (number : ℕ) (items : List Running)
    → option_map transaction (find (has_tid number) items) ≡ numbered number (transactions items)
found_transaction number [] = refl
found_transaction number (it ∷ items) = grind (arith, found_transaction number items)

pub found_class : (number : ℕ) (items : List Running) (lives : List Live) → classes_of items ≡ map (λ (live : Live). live.first) lives
    → option_map (λ (it : Running). it.first) (find (has_tid number) items)
    ≡ option_map (λ (live : Live). live.first) (live_numbered number (transactions items) lives)
found_class number [] lives same = refl
found_class number (it ∷ items) [] same = absurd cc
found_class number (it ∷ items) (live ∷ lives) same = grind (arith, found_class number items lives)

-- the first that waits is before the others
pub first_of : (items : List Item) (item : Item) → head_of items ≡ Some item → items ≡ item ∷ drop 1 items
first_of [] item is = absurd cc
first_of (first ∷ items) item is = cc

-- ---- whether one may end

-- if its script has not ended, it may if it may do no more
pub full_in : {D : Type 0} {medium : Medium D} {laptop : Laptop D} (number : ℕ) (own : Running) → Stands medium laptop
    → Some (transaction own) ≡ numbered number (state_in laptop).running
    → false ≡ is_over_if_any (numbered number (state_in laptop).running) (live_numbered number (state_in laptop).running (live_in laptop))
    → leb ACT_LIMIT (length own.acts)
    ≡ may_end_if_any (numbered number (state_in laptop).running) (live_numbered number (state_in laptop).running (live_in laptop))
full_in {laptop = laptop} number own stands is over =
    let m = stands.machine in
    let runs =
    found_stands (state_in laptop) (live_in laptop) m.first m.node.durable stands.stands.state number (transaction own) (sym is) in
    rw (← is, runs.lives, runs.stands.code)
    (ap (λ (b : Bool). b || leb ACT_LIMIT (length own.acts)) (rw (← is, runs.lives, runs.stands.code) at over))

-- ---- calls that nothing refuses

pub unrefused : {D T : Type 0} (refusal : Option ClientFault) (old new : Client D) (answer : Result T ClientFault) → refusal ≡ None
    → Refuses refusal old new answer → IfErr answer MayFail
unrefused (Some fault) old new answer none refuses = absurd cc
unrefused None old new (Ok value) none refuses = tt
unrefused None old new (Err fault) none refuses = refuses

-- one of first class runs
pub first_runs : (number : ℕ) (running : List Transaction) (lives : List Live) → IsFirstOf (live_numbered number running lives)
    → idle (numbered number running) ≡ None
first_runs number (it ∷ running) (live ∷ lives) first = grind (arith, first_runs number running lives)
first_runs number running lives first = absurd first
