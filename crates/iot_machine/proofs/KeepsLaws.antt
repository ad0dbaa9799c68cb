-- What holds after a call, from what held before it: over any state and any call.
use Rattle.std.proofs.Common.{◌≡◌, ℕ, zero, suc, Bool, true, false, List, Option, Some, None, refl}
use Rattle.iot_machine.specs.Calls.{Call, Part, Try, Gets, Asks, Answers, Does, Says, Tells, Then, either, goes_on, unless_over, Goes}
use Rattle.iot_machine.specs.Calls.{Repeats, Whole, Nothing, OrSays, Lens, At}

-- from each state of which one thing holds it leads to one of which another does, which may speak of the answer
pub record Keeps {S A : Type 0} (P : S → Type 0) (call : Call S A) (Q : A → S → Type 0) : Type 0 where
  pub at : (m n : S) (text : List ℕ) (a : A) → P m → call m text a n → Q a n

-- what held before holds afterwards, whatever the answer
abbrev pub Stays : {S A : Type 0} → (S → Type 0) → Call S A → Type 0
Stays P call = Keeps P call (λ _. P)

-- one thing holds if the event is over, and another if it goes on, which may speak of the answer
abbrev pub IfGoes : {S A : Type 0} → (S → Type 0) → (A → S → Type 0) → Option A → S → Type 0
IfGoes over goes None = over
IfGoes over goes (Some a) = goes a

module _ {S : Type 0} {P : S → Type 0} where
  -- ---- one step

  pub keeps_gets : {A : Type 0} {ask : S → A} {change : S → S} {Q : A → S → Type 0} → ((m : S) → P m → Q (ask m) (change m))
      → Keeps P (Gets ask change) Q
  keeps_gets f = record { at = λ m n text a here step. rw (step.1, step.2) (f m here) }

  pub keeps_asks : {A : Type 0} {ask : S → A} {Q : A → S → Type 0} → ((m : S) → P m → Q (ask m) m) → Keeps P (Asks ask) Q
  keeps_asks f = keeps_gets f

  pub keeps_does : {text : S → List ℕ} {change : S → S} {Q : Unit {0} → S → Type 0} → ((m : S) → P m → Q tt (change m))
      → Keeps P (Does text change) Q
  keeps_does f = record { at = λ m n text a here step. rw step.1 (f m here) }

  pub keeps_tells : {A : Type 0} {text : S → List ℕ} {a : A} {Q : A → S → Type 0} → ((m : S) → P m → Q a m) → Keeps P (Tells text a) Q
  keeps_tells f = record { at = λ m n text a here step. rw (step.1, step.2) (f m here) }

  pub stays_asks : {A : Type 0} {ask : S → A} → Stays P (Asks ask)
  stays_asks = keeps_gets (λ m here. here)

  pub stays_answers : {A : Type 0} {a : A} → Stays P (Answers a)
  stays_answers = keeps_gets (λ m here. here)

  pub stays_says : {text : S → List ℕ} → Stays P (Says text)
  stays_says = keeps_does (λ m here. here)

  pub keeps_from : {A : Type 0} {P_ : S → Type 0} {call : Call S A} {Q : A → S → Type 0} → ((m : S) → P m → P_ m) → Keeps P_ call Q
      → Keeps P call Q
  keeps_from less it = record { at = λ m n text a here step. it.at m n text a (less m here) step }

  -- ---- one after the other

  pub keeps_then : {A B : Type 0} {one : Call S A} {next : A → Call S B} {Q : A → S → Type 0} {R : B → S → Type 0} → Keeps P one Q
      → ((a : A) → Keeps (Q a) (next a) R) → Keeps P (Then one next) R
  keeps_then one next = record {
    at = λ m n text b here step.
        (next step.answer).at step.mid n step.rest b (one.at m step.mid step.front step.answer here step.first) step.second;
  }

  pub stays_then : {A B : Type 0} {one : Call S A} {next : A → Call S B} {R : B → S → Type 0} → Stays P one
      → ((a : A) → Keeps P (next a) R) → Keeps P (Then one next) R
  stays_then one next = keeps_then one next

  -- what is asked of the state, which stays
  pub asks_then : {A B : Type 0} {ask : S → A} {next : A → Call S B} {R : B → S → Type 0} → ((a : A) → Keeps P (next a) R)
      → Keeps P (Then (Asks ask) next) R
  asks_then next = keeps_then stays_asks next

  -- ---- by an answer

  pub keeps_either : {A : Type 0} {call other : Call S A} {Q : A → S → Type 0} → Keeps P call Q → Keeps P other Q → (yes_ : Bool)
      → Keeps P (either call other yes_) Q
  keeps_either call other true = call
  keeps_either call other false = other

  pub stays_goes_on : {part : Part S} → Stays P part → (on : Bool) → Stays P (goes_on part on)
  stays_goes_on part on = keeps_either part stays_says on

  pub keeps_goes : {A B : Type 0} {over : S → Type 0} {one : Try S A} {next : A → Try S B} {Q : A → S → Type 0} {R : B → S → Type 0}
      → Keeps P one (IfGoes over Q) → ((a : A) → Keeps (Q a) (next a) (IfGoes over R)) → Keeps P (Goes one next) (IfGoes over R)
  keeps_goes {over = over} {next = next} {Q = Q} {R = R} one each = keeps_then one by_answer
    where
      by_answer : (answer : Option _) → Keeps (IfGoes over Q answer) (unless_over next answer) (IfGoes over R)
      by_answer None = record { at = λ m n text b here step. rw (step.1, step.2) here }
      by_answer (Some a) = each a

  -- what holds as long as the rounds go on
  pub keeps_repeats : {over : S → Type 0} {round : Try S Bool} → Keeps P round (IfGoes over (λ _. P)) → (n : ℕ)
      → Keeps P (Repeats n round) (IfGoes over (λ _. P))
  keeps_repeats round zero = keeps_gets (λ m here. here)
  keeps_repeats round (suc n) =
      keeps_goes round (λ more. keeps_either (keeps_repeats round n) (keeps_gets (λ m here. here)) more)

  -- ---- calls around a call

  pub keeps_or_says : {A : Type 0} {other : List ℕ} {call : Call S A} {Q : A → S → Type 0} → Keeps P call Q
      → Keeps P (OrSays other call) Q
  keeps_or_says call = record { at = λ m n text a here step. call.at m n step.said a here step.done }

  pub keeps_whole : {A : Type 0} {over : S → Type 0} {call : Try S A} {Q : A → S → Type 0} → ((a : A) (m : S) → Q a m → over m)
      → Keeps P call (IfGoes over Q) → Keeps P (Whole call) (λ _. over)
  keeps_whole {over = over} {Q = Q} less call = keeps_then call by_answer
    where
      by_answer : (answer : Option _) → Keeps (IfGoes over Q answer) Nothing (λ _. over)
      by_answer None = record { at = λ m n text b here step. rw step.1 here }
      by_answer (Some a) = record { at = λ m n text b here step. rw step.1 (less a m here) }

  pub keeps_at : {N A : Type 0} {lens : Lens S N} {call : Call N A} {Q : A → S → Type 0}
      → ((m : S) → P m → Keeps (λ k. k ≡ lens.get m) call (λ a k. Q a (lens.set k m))) → Keeps P (At lens call) Q
  keeps_at {lens} f = record { at = λ m n text a here step. rw step.is ((f m here).at (lens.get m) step.inner text a refl step.step) }
