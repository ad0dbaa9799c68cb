-- How calls that may end their event go together, over any world and any machine.
use Rattle.iot_exchange.proofs.Common.{Answers, Asks, Call, Err, Halt, List, NoMemory, None, Ok, Option}
use Rattle.iot_exchange.proofs.Common.{Over, Result, Some, StepFrom, StepsTo, Tells, Then, Try, joined, quiet, refl, ℕ, [], ◌++◌, ◌≡◌}
use Rattle.{iot_exchange.specs.Pairs.From, iot_machine.proofs.StepsLaws.also, iot_machine.proofs.StepsLaws.at_one}

module _ {W M : Type 0} {up down : W → M → Type 0} where
  -- one that may do all that another does
  pub also_from : {A : Type 0} {call other : Try M A} {m : M} {v : W} {x y : List ℕ} {result : Result A Halt}
      → ((text : List ℕ) (o : Option A) (n : M) → call m text o n → other m text o n) → From up down call m v x y result
      → From up down other m v x y result
  also_from {result = Err NoMemory} each it = record { is = tt }
  also_from {result = Err Over} each it = record { is = also (λ text n. each text None n) it.is }
  also_from {result = Ok a} each it = record { is = also (λ text n. each text (Some a) n) it.is }

  -- what a call does behind another
  pub behind : {A B : Type 0} {P : W → M → Type 0} {one : Call M A} {next : A → Try M B} {m : M} {v w : W} {x y z : List ℕ} {a : A}
      {result : Result B Halt} → (it : StepFrom P one m v x y a) → From up down (next a) it.next w y z result
      → From up down (Then one next) m w x z result
  behind {result = Err NoMemory} it more = record { is = tt }
  behind it more = record { is = joined it more.is }

  -- a call that says nothing, and changes the machine so
  pub gets_from : {A B : Type 0} {one : Call M A} {next : A → Try M B} {m : M} {v : W} {x y : List ℕ} {result : Result B Halt}
      (a : A) (n : M) → one m [] a n → From up down (next a) n v x y result → From up down (Then one next) m v x y result
  gets_from {one = one} {m = m} {v = v} {x = x} a n step it = behind {P = λ _ _. Unit {0}} {one = one} {v = v} {x = x} (quiet n step tt) it

  -- a look at this machine
  pub asks_from : {A B : Type 0} {ask : M → A} {next : A → Try M B} {m : M} {v : W} {x y : List ℕ} {a : A} {result : Result B Halt}
      → a ≡ ask m → From up down (next a) m v x y result → From up down (Then (Asks ask) next) m v x y result
  asks_from is it = gets_from _ _ (refl, is, refl) it

  -- a call that always goes on, and then one that may not
  pub then_from : {A B : Type 0} {one : Call M A} {next : A → Try M B} {u v w : W} {x y z : List ℕ} {a : A} {result : Result B Halt}
      {m : M} → StepsTo up up one u v x y a → up u m → ((n : M) → up v n → From up down (next a) n w y z result)
      → From up down (Then one next) m w x z result
  then_from one here each = let s = at_one one here in behind s (each s.next s.stands)

  pub answers_from : {A : Type 0} {m : M} {v : W} {x : List ℕ} {a : A} → up v m → From up down (Answers (Some a)) m v x x (Ok a)
  answers_from here = record { is = quiet _ (refl, refl, refl) here }

  pub says_from : {A : Type 0} {text : M → List ℕ} {m : M} {v : W} {x y : List ℕ} {a : A} → y ≡ x ++ text m → up v m
      → From up down (Tells text (Some a)) m v x y (Ok a)
  says_from {text = text} {m} wrote here =
      record { is = record { text = text m; next = m; wrote = wrote; step = (refl, refl, refl); stands = here } }

  -- a word is said, and the event is over
  pub refuses_from : {A : Type 0} {text : M → List ℕ} {m : M} {v : W} {x y : List ℕ} → y ≡ x ++ text m → down v m
      → From {A = A} up down (Tells text None) m v x y (Err Over)
  refuses_from {text = text} {m} wrote here =
      record { is = record { text = text m; next = m; wrote = wrote; step = (refl, refl, refl); stands = here } }
