-- How steps go together, over any world and any machine.
use Rattle.std.proofs.Common.{◌≡◌, ℕ, List, [], ◌++◌, refl, sym, ap, ◌∙◌, append_assoc}
use Rattle.std.proofs.lemmas.List.{append-nil}
use Rattle.iot_machine.specs.Calls.{Answers, Asks, Call, Does, Gets, Nothing, Says, Then}
use Rattle.iot_machine.specs.Refining.{StepFrom, StepsTo}

module _ {W M : Type 0} where
  -- ---- from one machine

  pub at_each : {A : Type 0} {P Q : W → M → Type 0} {call : Call M A} {u v : W} {x y : List ℕ} {a : A}
      → ((m : M) → P u m → StepFrom Q call m v x y a) → StepsTo P Q call u v x y a
  at_each each = record { step = λ m here. let s = each m here in (s.text, s.next, s.wrote, s.step, s.stands) }

  pub at_one : {A : Type 0} {P Q : W → M → Type 0} {call : Call M A} {u v : W} {x y : List ℕ} {a : A} {m : M}
      → StepsTo P Q call u v x y a → P u m → StepFrom Q call m v x y a
  at_one {m = m} it here = let s = it.step m here in record { text = s.0; next = s.1; wrote = s.2; step = s.3; stands = s.4 }

  -- one call, and then another
  pub joined : {A B : Type 0} {P Q : W → M → Type 0} {one : Call M A} {next : A → Call M B} {m : M} {v w : W} {x y z : List ℕ} {a : A}
      {b : B} → (it : StepFrom P one m v x y a) → StepFrom Q (next a) it.next w y z b → StepFrom Q (Then one next) m w x z b
  joined {x = x} {a = a} it more = record {
    text = it.text ++ more.text;
    next = more.next;
    wrote = more.wrote ∙ ap (λ (l : List ℕ). l ++ more.text) it.wrote ∙ append_assoc x it.text more.text;
    step = record { mid = it.next; front = it.text; rest = more.text; answer = a; first = it.step; second = more.step; whole = refl };
    stands = more.stands;
  }

  -- one that may do all that another does
  pub also : {A : Type 0} {P : W → M → Type 0} {call other : Call M A} {m : M} {v : W} {x y : List ℕ} {a : A}
      → ((text : List ℕ) (n : M) → call m text a n → other m text a n) → StepFrom P call m v x y a → StepFrom P other m v x y a
  also each it = record { text = it.text; next = it.next; wrote = it.wrote; step = each it.text it.next it.step; stands = it.stands }

  -- one that says nothing
  abbrev pub quiet : {A : Type 0} {P : W → M → Type 0} {call : Call M A} {m : M} {v : W} {x : List ℕ} {a : A} (n : M) → call m [] a n
      → P v n
      → StepFrom P call m v x x a
  quiet {x = x} n step stands = record { text = []; next = n; wrote = sym (append-nil x); step = step; stands = stands }

  -- ---- from each machine

  pub bind : {A B : Type 0} {P Q R : W → M → Type 0} {one : Call M A} {next : A → Call M B} {u v w : W} {x y z : List ℕ} {a : A} {b : B}
      → StepsTo P Q one u v x y a → StepsTo Q R (next a) v w y z b → StepsTo P R (Then one next) u w x z b
  bind one two = at_each (λ m here. let s = at_one one here in joined s (at_one two s.stands))

  pub gets : {A : Type 0} {P Q : W → M → Type 0} {ask : M → A} {change : M → M} {u v : W} {x : List ℕ} {a : A}
      → ((m : M) → P u m → (a ≡ ask m) × Q v (change m)) → StepsTo P Q (Gets ask change) u v x x a
  gets is = at_each (λ m here. quiet _ (refl, (is m here).0, refl) (is m here).1)

  pub asks : {A : Type 0} {P : W → M → Type 0} {ask : M → A} {u : W} {x : List ℕ} {a : A} → ((m : M) → P u m → a ≡ ask m)
      → StepsTo P P (Asks ask) u u x x a
  asks is = gets (λ m here. (is m here, here))

  pub answers : {A : Type 0} {P Q : W → M → Type 0} {u v : W} {x : List ℕ} {a : A} → ((m : M) → P u m → Q v m)
      → StepsTo P Q (Answers a) u v x x a
  answers is = gets (λ m here. (refl, is m here))

  pub does : {P Q : W → M → Type 0} {text : M → List ℕ} {change : M → M} {u v : W} {x y : List ℕ}
      → ((m : M) → P u m → (y ≡ x ++ text m) × Q v (change m)) → StepsTo P Q (Does text change) u v x y tt
  does {text = text} {change} is = record { step = λ m here. (text m, change m, (is m here).0, (refl, refl), (is m here).1) }

  pub says : {P : W → M → Type 0} {text : M → List ℕ} {u : W} {x y : List ℕ} → ((m : M) → P u m → y ≡ x ++ text m)
      → StepsTo P P (Says text) u u x y tt
  says is = does (λ m here. (is m here, here))

  pub says_this : {P : W → M → Type 0} {text : List ℕ} {u : W} {x y : List ℕ} → y ≡ x ++ text → StepsTo P P (Says (λ _. text)) u u x y tt
  says_this is = says (λ m here. is)

  pub nothing : {P : W → M → Type 0} {u : W} {x : List ℕ} → StepsTo P P Nothing u u x x tt
  nothing {x = x} = says_this (sym (append-nil x))
