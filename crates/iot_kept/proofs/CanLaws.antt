-- Tests of whether a change can follow.
use Rattle.std.proofs.Common.{◌≡◌, ◌↔◌, IsTrue, ℕ, ◌<◌, ◌≤◌, ◌==◌, Bool, true, false, not, List, [], ◌∷◌, length, slice_index_or, refl, sym}
use Rattle.std.proofs.Common.{subst, arith}
use Rattle.std.proofs.lemmas.Bool.Decides.{nat_tests}
use Rattle.iot_tree.specs.Tree.{Nodes}
use Rattle.iot_tree.specs.declared.acts.Act.{Act}
use Rattle.iot_tree.specs.declared.questions.Answer.{Answer}
use Rattle.iot_certify.specs.Verdicts.{IsLongest}
use Rattle.iot_certify.specs.declared.verdict.Verdict.{Verdict}
use Rattle.iot_certify.specs.declared.verdict.Verdict.TheVariants.{Holds, Differs}
use Rattle.iot_kept.specs.States.{Transaction}
use Rattle.iot_kept.specs.Changes.{FirstRunIs}
use Rattle.iot_kept.specs.Memory.{transaction, transactions}
use Rattle.iot_kept.specs.declared.running.Running.{Running}

said_equal : (n m : ℕ) → (n == m) ≡ true → n ≡ m
said_equal n m = grind (arith, nat_tests)

is_equal : (n m : ℕ) → n ≡ m → (n == m) ≡ true
is_equal n m = grind (arith, nat_tests)

-- one number of acts is the longest
pub cut_exactly : (t : Nodes) (acts : List Act) (n m : ℕ) → IsLongest t acts n → IsTrue (n == m) ↔ IsLongest t acts m
cut_exactly t acts n m it = (
  (λ is. subst (IsLongest t acts) (said_equal n m is) it),
  (λ other.
      let less : m ≤ n = it.most m other.few other.holds in
      let more : n ≤ m = other.most n it.few it.holds in
      is_equal n m (omega (arith, less, more))),
)

-- a verdict that a read differs is not that all hold
differs_not : (read : ℕ) (answer : Answer) → ◌≡◌ {A = Verdict} (Differs read answer) Holds → ⊥
differs_not read answer is = cc

pub differs_holds_not : (P : Type 0) (read : ℕ) (answer : Answer) → (◌≡◌ {A = Verdict} (Differs read answer) Holds ↔ P) → IsTrue false ↔ P
differs_holds_not P read answer is = ((λ yes_. absurd cc), (λ p. absurd (differs_not read answer (is.1 p))))

pub not_exactly : (P : Type 0) (b : Bool) → IsTrue b ↔ P → IsTrue (not b) ↔ (P → ⊥)
not_exactly P true is = ((λ yes_. absurd cc), (λ never. absurd (never (is.0 refl))))
not_exactly P false is = ((λ yes_ p. let both : false ≡ true = is.1 p in absurd cc), (λ never. refl))

pub both_exactly : (P Q : Type 0) (b : Bool) → P → IsTrue b ↔ Q → IsTrue b ↔ (P × Q)
both_exactly P Q b p is = ((λ yes_. (p, is.0 yes_)), (λ both. is.1 both.1))

pub first_exactly : (Q : Transaction → Type 0) (number : ℕ) (running : List Running) (it : Running) (b : Bool) → 0 < length running
    → it ≡ slice_index_or running 0 it → (IsTrue b ↔ ((it.tid ≡ number) × Q (transaction it)))
    → IsTrue b ↔ FirstRunIs number Q (transactions running)
first_exactly Q number [] it b some is exactly = absurd (omega (arith, some))
first_exactly Q number (one ∷ running) it b some is exactly =
    subst (λ (one : Running). IsTrue b ↔ ((one.tid ≡ number) × Q (transaction one))) is exactly

pub none_exactly : (Q : Transaction → Type 0) (number : ℕ) (running : List Running) → running ≡ []
    → IsTrue false ↔ FirstRunIs number Q (transactions running)
none_exactly Q number running is =
    subst (λ (running : List Running). IsTrue false ↔ FirstRunIs number Q (transactions running)) (sym is)
    ((λ yes_. absurd cc), (λ never. absurd never))
